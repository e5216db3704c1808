use Rattle.iri_map.proofs.UrlLemmas.{IsCleanUrl-ontology_iri, is_clean_iri-url}
use Rattle.iri_map.proofs.laws.ontology_iri_is_clean.Goals as goal

pub returns-clause-url : goal.returns-clause-url
returns-clause-url c = IsCleanUrl-ontology_iri c.args.value.now

pub returns-clause-clean : goal.returns-clause-clean
returns-clause-clean c = is_clean_iri-url _ (IsCleanUrl-ontology_iri c.args.value.now)
