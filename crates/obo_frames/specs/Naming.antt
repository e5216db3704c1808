-- The name of the ontology, as the header gives it. (OBO Flat File Format 1.4, the `ontology` tag; that the least of
-- several counts is our own.)
use Rattle.std.specs.Prelude.{ℕ, Bool, true, false, ◌&&◌, List, [], ◌∷◌, Option, None, Some, if◌then◌else◌}
use Rattle.std.specs.List.{filter_map}
use Rattle.std.specs.Option.{option_map}
use Rattle.std.specs.Ordering.{is_lt}
use Rattle.std.specs.Str.{bytes_eq}
use Rattle.text_sets.specs.Sorted.{text_cmp}
use Rattle.iri_map.specs.Ontology.{name_or_temp, normalised}
use Rattle.obo_tags.specs.Tags as tags
use Rattle.obo_tags.specs.declared.kind.FrameKind.{FrameKind}
use Rattle.obo_tags.specs.declared.kind.FrameKind.TheVariants as kinds
use Rattle.obo_clause.specs.declared.clause.Clause.{Clause}
use Rattle.obo_frames.specs.Framed.{Framed}
use Rattle.obo_frames.specs.Frames.{word_in}

abbrev pub is_header : FrameKind → Bool
is_header kinds.Header = true
is_header _ = false

-- the value of an `ontology` clause of the header
abbrev pub ontology_in : FrameKind → Clause → Option (List ℕ)
ontology_in frame clause = if is_header frame && bytes_eq clause.tag tags.ontology then word_in clause.value else None

-- the names that the header gives the ontology
abbrev pub names_in : List Framed → List (List ℕ)
names_in framed = filter_map (λ one. option_map normalised (ontology_in one.frame one.clause)) framed

-- the lesser of two texts, by bytes
abbrev pub lesser_text : Option (List ℕ) → List ℕ → List ℕ
lesser_text None text = text
lesser_text (Some best) text = if is_lt (text_cmp text best) then text else best

-- the least of the texts and of one before them, if there is any
abbrev pub least_text : Option (List ℕ) → List (List ℕ) → Option (List ℕ)
least_text best [] = best
least_text best (text ∷ texts) = least_text (Some (lesser_text best text)) texts

-- the ontology's name, if the header gives one
abbrev pub name_of : List Framed → Option (List ℕ)
name_of framed = least_text None (names_in framed)

-- the name in which the ids of the document get their IRIs: the ontology's, or what stands in place of one
abbrev pub space_of : List Framed → List ℕ
space_of framed = name_or_temp (name_of framed)
