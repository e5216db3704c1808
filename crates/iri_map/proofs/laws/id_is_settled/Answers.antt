use Rattle.iri_map.proofs.CandidateLemmas.{id_of-settled}
use Rattle.iri_map.proofs.laws.id_is_settled.Goals as goal

pub returns : goal.returns
returns c = id_of-settled c.args.iri.now c.args.ontology.now
