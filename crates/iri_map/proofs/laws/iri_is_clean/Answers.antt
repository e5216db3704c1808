use Rattle.iri_map.proofs.UrlLemmas.{IsCleanUrl-iri_of, is_clean_iri-url}
use Rattle.iri_map.proofs.laws.iri_is_clean.Goals as goal

pub returns-clause-url : goal.returns-clause-url
returns-clause-url c = IsCleanUrl-iri_of c.args.id.now c.args.ontology.now

pub returns-clause-clean : goal.returns-clause-clean
returns-clause-clean c = is_clean_iri-url _ (IsCleanUrl-iri_of c.args.id.now c.args.ontology.now)
