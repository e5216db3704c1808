-- The rules of clauses without an axiom, by what they ask of the document. (Own.)
use Rattle.std.specs.Prelude.{ℕ, Bool, false, not, ◌&&◌, List, Option, codes, is_some}
use Rattle.std.specs.Option.{option_map_or}
use Rattle.std.specs.Str.{bytes_eq}
use Rattle.iri_map.specs.Ontology.{normalised}
use Rattle.obo_tags.specs.declared.kind.FrameKind.TheVariants.{Typedef}
use Rattle.text_sets.specs.Parts.{first_some}
use Rattle.obo_frames.specs.Framed.{Framed}
use Rattle.obo_statements.specs.Statements.{statement_in, statements_of}
use Rattle.obo_mapping.specs.Documents.{has_tag, is_header, is_truth_value, is_typedef, word_in}

-- a logical clause of a Typedef, where this is an annotation property
abbrev pub is_of_relation : Bool → Framed → Bool
is_of_relation is_metadata one =
    is_typedef one.frame && is_metadata && is_some (first_some (statement_in one.clause.tag) (statements_of Typedef)) && not (is_truth_value false one.clause.value)

-- another name than this one
abbrev pub is_other_than : Option (List ℕ) → Framed → Bool
is_other_than name one =
    is_header one && has_tag (codes "ontology") one && option_map_or (λ word. not (option_map_or (bytes_eq (normalised word)) name false)) (word_in one.clause.value) false
