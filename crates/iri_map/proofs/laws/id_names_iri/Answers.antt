use Rattle.iri_map.proofs.CandidateLemmas.{id_of-names_iri}
use Rattle.iri_map.proofs.laws.id_names_iri.Goals as goal

pub returns : goal.returns
returns c = id_of-names_iri c.args.iri.now c.args.ontology.now
