-- The functional-style text of an ontology: its name, the notes about it, and all other axioms, each on a line of its own,
-- each of the two parts in the order of bytes. (OWL 2 Structural Specification and Functional-Style Syntax, section 3.7; the
-- order and the kinds that are told are our own.)
use Rattle.std.specs.Prelude.{ℕ, Bool, true, false, not, if◌then◌else◌, List, [], ◌∷◌, ◌++◌, Option, None, Some, codes, filter, flat_map, map}
use Rattle.std.specs.Option.{option_and_then}
use Rattle.iri_map.specs.Ontology.{ontology_iri}
use Rattle.owl_axioms.specs.Names.{Scope}
use Rattle.owl_axioms.specs.Text.{axiom_text, iri_text}
use Rattle.owl_axioms.specs.declared.body.Axiom.{Axiom}
use Rattle.owl_axioms.specs.declared.body.Body.{Body}
use Rattle.owl_axioms.specs.declared.body.Body.TheVariants as body
use Rattle.owl_axioms.specs.declared.name.Kind.{Kind}
use Rattle.owl_axioms.specs.declared.name.Name.{Name}
use Rattle.owl_ontology.specs.Ontology.{OntologyState, axioms_of}
use Rattle.ofn_writer.specs.Kinds.{declared, has_many_kinds, kind_side}
use Rattle.ofn_writer.specs.Sorted.{sorted}

-- a note about the ontology
unfoldable pub is_header : Body → Bool
is_header (body.OntologyNote property value) = true
is_header other = false

-- what a note is about
unfoldable pub subject_of : Body → Option Name
subject_of (body.Note subject property value) = Some subject
subject_of other = None

-- the kind of a name, where its IRI has several
abbrev pub kind_if_many : Scope → Name → Option Kind
kind_if_many declared name = if has_many_kinds declared name.iri then Some name.kind else None

-- the kind that is told of what an axiom says: that of the subject of a note
abbrev pub told_kind : Scope → Body → Option Kind
told_kind declared said = option_and_then (kind_if_many declared) (subject_of said)

-- an axiom with a kind before its other annotations
abbrev pub with_kind : Option Kind → Axiom → Axiom
with_kind None a = a
with_kind (Some k) a = record a { sides = kind_side k ∷ a.sides }

-- its text
abbrev pub told_text : Scope → Axiom → List ℕ
told_text declared a = axiom_text (with_kind (told_kind declared a.body) a)

-- a line
abbrev pub line : List ℕ → List ℕ
line text = text ++ codes "\n"

-- the lines of axioms, in order
unfoldable pub axiom_lines : Scope → List Axiom → List ℕ
axiom_lines declared axioms = flat_map line (sorted (map (told_text declared) axioms))

-- the IRI of the ontology, where it has a name
unfoldable pub name_text : Option (List ℕ) → List ℕ
name_text None = []
name_text (Some name) = iri_text (ontology_iri name)

-- what stands in one of the two parts: in the first the notes about the ontology, and in the second all else
abbrev pub is_in_part : Bool → Body → Bool
is_in_part true said = is_header said
is_in_part false said = not (is_header said)

-- the axioms of a part
abbrev pub part : Bool → List Axiom → List Axiom
part first axioms = filter (λ a. is_in_part first a.body) axioms

-- the text of an ontology of this name with these axioms, where this is declared
unfoldable pub text_with : Scope → Option (List ℕ) → List Axiom → List ℕ
text_with declared name axioms =
    line (codes "Ontology(" ++ name_text name) ++ axiom_lines declared (part true axioms) ++ axiom_lines declared (part false axioms) ++ line (codes ")")

abbrev pub ofn_text : OntologyState → List ℕ
ofn_text o = let axioms = axioms_of o.entries in text_with (declared axioms) o.name axioms
