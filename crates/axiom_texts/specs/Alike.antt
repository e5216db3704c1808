-- Axioms that are alike but for one thing: the kind of the entity that a note is about. The functional-style text of a
-- note names that entity by its IRI alone. (The text: OWL 2 Structural Specification and Functional-Style Syntax.)
use Rattle.std.specs.Prelude.{◌≡◌, ◌⊎◌, ℕ, List, Option, None, Some}
use Rattle.owl_axioms.specs.Names.{name_of}
use Rattle.owl_axioms.specs.declared.annotation.NoteValue.{NoteValue}
use Rattle.owl_axioms.specs.declared.body.Axiom.{Axiom}
use Rattle.owl_axioms.specs.declared.body.Body.{Body}
use Rattle.owl_axioms.specs.declared.body.Body.TheVariants as body
use Rattle.owl_axioms.specs.declared.name.Kind.{Kind}

-- two notes with one property and one value, about entities with one IRI, each of some kind
pub record AreNotesOfOneIri (one other : Body) : Type 0 where
  pub kind : Kind
  pub other_kind : Kind
  pub iri : List ℕ
  pub property : List ℕ
  pub value : NoteValue
  pub one_is : one ≡ body.Note (name_of kind iri) property value
  pub other_is : other ≡ body.Note (name_of other_kind iri) property value

-- two such notes with the same annotations
pub record AreNotesAlike (one other : Axiom) : Type 0 where
  pub bodies : AreNotesOfOneIri one.body other.body
  pub sides : one.sides ≡ other.sides

-- the same axiom, or two notes that are alike but for the kind of the entity
abbrev pub SameButKind : Axiom → Axiom → Type 0
SameButKind one other = (one ≡ other) ⊎ AreNotesAlike one other

-- the kind of the entity that a note is about; what is no note has none
unfoldable pub kind_of_subject : Body → Option Kind
kind_of_subject (body.Note subject property value) = Some subject.kind
kind_of_subject other = None
