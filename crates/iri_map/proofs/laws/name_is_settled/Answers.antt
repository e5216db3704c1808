use Rattle.iri_map.proofs.OntologyLemmas.{NameIsSettled-all}
use Rattle.iri_map.proofs.laws.name_is_settled.Goals as goal

pub returns : goal.returns
returns c = NameIsSettled-all c.args.value.now
