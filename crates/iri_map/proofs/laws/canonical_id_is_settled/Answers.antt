use Rattle.iri_map.proofs.LawLemmas.{CanonicalIdIsSettled-all}
use Rattle.iri_map.proofs.laws.canonical_id_is_settled.Goals as goal

pub returns : goal.returns
returns c = CanonicalIdIsSettled-all c.args.prefix.now c.args.number.now c.args.ontology.now
