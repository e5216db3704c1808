-- Reports of clauses that are not translated. (Own.)
use Rattle.std.specs.Prelude.{ℕ, List, ◌∷◌, filter, map}
use Rattle.text_sets.specs.Sorted.{sorted_by}
use Rattle.obo_frames.specs.Framed.{unlined}
use Rattle.obo_frames.specs.declared.placed.Placed.{Placed}
use Rattle.obo_mapping.specs.Documents.{is_untranslatable}
use Rattle.obo_to_owl.specs.declared.translated.Dropped.{Dropped}

-- a clause by its line and its tag
abbrev pub report_of : Placed → Dropped
report_of one = record { line = one.line; tag = one.clause.tag }

-- reports go by line, and on one line by tag
abbrev pub report_key : Dropped → List ℕ
report_key report = report.line ∷ report.tag

-- the clauses of a document that are not translated
abbrev pub dropped : List Placed → List Dropped
dropped document = sorted_by report_key (map report_of (filter (λ (one : Placed). is_untranslatable (map unlined document) (unlined one)) document))
