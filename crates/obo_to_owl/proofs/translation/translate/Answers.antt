-- The rows are those of the document, and its name is that of the mapping.
use Rattle.std.proofs.Common.{◌≡◌, List, ap, map, subst, sym, ◌∙◌}
use Rattle.std.specs.Prelude.{filter}
use Rattle.std.proofs.lemmas.Result.{IfOk-weaker}
use Rattle.text_sets.specs.Sets.{In, SameMembers}
use Rattle.text_sets.specs.Sorted.{sorted_by}
use Rattle.iri_map.specs.Ontology.{name_or_temp}
use Rattle.owl_ontology.specs.Ontology.{axioms_of}
use Rattle.obo_frames.specs.Framed.{Framed, unlined}
use Rattle.obo_frames.specs.declared.placed.Placed.{Placed}
use Rattle.obo_mapping.specs.Documents.{is_untranslatable, name_of, owl}
use Rattle.sound_documents.proofs.NameLemmas.{same_name}
use Rattle.obo_to_owl.specs.Reports.{report_key, report_of}
use Rattle.obo_to_owl.specs.Translated.{IsPlaced}
use Rattle.obo_to_owl.specs.inner.Rows.{clause_of, of_row}
use Rattle.obo_to_owl.specs.declared.rows.Row.{Row}
use Rattle.obo_to_owl.proofs.DocumentRows.{rows_are}
use Rattle.obo_to_owl.proofs.ReportLemmas.{filter_map_back}
use Rattle.obo_to_owl.proofs.translation.translate.Goals as goal

pub of_rows-requires-clause-name : goal.of_rows-requires-clause-name
of_rows-requires-clause-name c =
    let document = c.args.document.now in
    let all = rows_are c.as_slice.result.now document (ap (map clause_of) c.as_slice.ensures.value ∙ c.in_ok-rows.ensures.clauses ∙ c.as_slice-placed.ensures) in
    c.in_ok-name.ensures ∙ sym (same_name (map unlined document)) ∙ ap name_of (sym all)

pub of_rows-requires-clause-space : goal.of_rows-requires-clause-space
of_rows-requires-clause-space c =
    let document = c.args.document.now in
    let all = rows_are c.as_slice.result.now document (ap (map clause_of) c.as_slice.ensures.value ∙ c.in_ok-rows.ensures.clauses ∙ c.as_slice-placed.ensures) in
    c.in_ok-space.ensures ∙ ap name_or_temp (c.as_ref.ensures.value ∙ c.in_ok-name.ensures ∙ sym (same_name (map unlined document)) ∙ ap name_of (sym all))

pub of_rows-requires-clause-proper : goal.of_rows-requires-clause-proper
of_rows-requires-clause-proper c =
    let document = c.args.document.now in
    let all = rows_are c.as_slice.result.now document (ap (map clause_of) c.as_slice.ensures.value ∙ c.in_ok-rows.ensures.clauses ∙ c.as_slice-placed.ensures) in
    λ said here. c.said_is_proper.ensures document c.len-sound.ensures.sound said (subst (λ (d : List Framed). In said (owl d)) all here)

pub returns-clause-name : goal.returns-clause-name
returns-clause-name c = IfOk-weaker c.of_rows.result _ _ (λ t is. is ∙ c.in_ok-name.ensures ∙ sym (same_name (map unlined c.args.document.now))) c.of_rows.ensures.name

pub returns-clause-axioms : goal.returns-clause-axioms
returns-clause-axioms c =
    let document = c.args.document.now in
    let all = rows_are c.as_slice.result.now document (ap (map clause_of) c.as_slice.ensures.value ∙ c.in_ok-rows.ensures.clauses ∙ c.as_slice-placed.ensures) in
    IfOk-weaker c.of_rows.result _ _ (λ t is. subst (λ (d : List Framed). SameMembers (axioms_of t.ontology.entries) (owl d)) all is) c.of_rows.ensures.axioms

pub returns-clause-origins : goal.returns-clause-origins
returns-clause-origins c =
    let document = c.args.document.now in
    let clauses : map clause_of c.as_slice.result.now ≡ document = ap (map clause_of) c.as_slice.ensures.value ∙ c.in_ok-rows.ensures.clauses ∙ c.as_slice-placed.ensures in
    IfOk-weaker c.of_rows.result _ _ (λ t is entry here. subst (λ (placed : List Placed). IsPlaced c.args.file placed entry) clauses (is entry here)) c.of_rows.ensures.origins

pub returns-clause-dropped : goal.returns-clause-dropped
returns-clause-dropped c =
    let document = c.args.document.now in
    let rows = c.as_slice.result.now in
    let clauses = ap (map clause_of) c.as_slice.ensures.value ∙ c.in_ok-rows.ensures.clauses ∙ c.as_slice-placed.ensures in
    let all = rows_are rows document clauses in
    let left = λ (one : Placed). is_untranslatable (map unlined document) (unlined one) in
    let same = (λ i. map clause_of (filter (λ (row : Row). is_untranslatable (all i) (of_row row)) rows)) ∙ sym (filter_map_back left clause_of rows) ∙ ap (filter left) clauses in
    IfOk-weaker c.of_rows.result _ _ (λ t is. is ∙ ap (λ (xs : List Placed). sorted_by report_key (map report_of xs)) same) c.of_rows.ensures.dropped
