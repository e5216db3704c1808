use Rattle.owl_ontology.proofs.Sameness.{adding_same}
use Rattle.owl_ontology.proofs.laws.adding_many_is_of_sets.Goals as goal

pub returns : goal.returns
returns c = adding_same c.args.ontology.now.entries c.args.added.now.entries c.args.other.now.entries c.args.more.now.entries
