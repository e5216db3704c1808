use Rattle.owl_ontology.proofs.Least.{least_stays}
use Rattle.owl_ontology.proofs.Sameness.{holds_both}
use Rattle.owl_ontology.proofs.laws.adding_many_keeps_the_least_origin.Goals as goal

pub returns : goal.returns
returns c = record {
  both = holds_both c.args.ontology.now.entries c.args.added.now.entries;
  least = least_stays c.args.ontology.now.entries c.args.added.now.entries c.len-different.ensures.different;
}
