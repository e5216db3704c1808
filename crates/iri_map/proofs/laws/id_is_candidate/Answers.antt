use Rattle.iri_map.proofs.CandidateLemmas.{IdIsCandidate-all}
use Rattle.iri_map.proofs.laws.id_is_candidate.Goals as goal

pub returns : goal.returns
returns c = IdIsCandidate-all c.args.id.now c.args.ontology.now
