-- In an ontology of any name ids are read as they were written.
use Rattle.std.proofs.Common.{ℕ, List, ◌∙◌}
use Rattle.iri_map.specs.Id.{iri_of}
use Rattle.iri_map.proofs.CandidateLemmas.{id_of-found, id_of-names}
use Rattle.iri_map.proofs.FormLemmas.{iri_of-url}
use Rattle.iri_map.proofs.EscapeLemmas.{escaped_url_unchanged}
use Rattle.iri_map.proofs.UrlLemmas.{IsCleanUrl-iri_of}
use Rattle.obo_notes.specs.Context.{Agree, reading_in, writing_in}

pub Agree-in : (space : List ℕ) → Agree (reading_in space) (writing_in space)
Agree-in space = record {
  ids = λ iri id is. id_of-names iri space id is;
  role_ids = λ iri id is. id_of-names iri space id is;
  iris = λ id. id_of-found id space;
  role_iris = λ id. id_of-found id space;
  clean = λ id. let is = IsCleanUrl-iri_of id space in (is.url, escaped_url_unchanged (iri_of id space) is.clean);
  urls = λ iri url same. iri_of-url iri space url ∙ same;
}
