use Rattle.iri_map.proofs.CandidateLemmas.{id_of-found}
use Rattle.iri_map.proofs.laws.iri_has_id.Goals as goal

pub returns : goal.returns
returns c = id_of-found c.args.id.now c.args.ontology.now
