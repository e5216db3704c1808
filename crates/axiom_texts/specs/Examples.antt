-- Two axioms and their texts, worked out by hand: annotations stand first, and a label before what it labels; and two
-- notes that differ and have one text. (Own.)
use Rattle.std.specs.Prelude.{◌≡◌, [], ◌∷◌, None, Some, codes}
use Rattle.owl_axioms.specs.Names.{name_of}
use Rattle.owl_axioms.specs.Text.{axiom_text}
use Rattle.owl_axioms.specs.declared.annotation.NoteValue.TheVariants as note
use Rattle.owl_axioms.specs.declared.body.Axiom.{Axiom}
use Rattle.owl_axioms.specs.declared.body.Body.TheVariants as body
use Rattle.owl_axioms.specs.declared.expr.ClassExpr.TheVariants as expr
use Rattle.owl_axioms.specs.declared.name.Kind.{Kind}
use Rattle.owl_axioms.specs.declared.name.Kind.TheVariants as kind

-- each bicycle is a vehicle, as the book says
abbrev pub bicycle_axiom : Axiom
bicycle_axiom = record {
  body = body.Sub (expr.Class (codes "bicycle")) (expr.Class (codes "vehicle"));
  sides = record { property = codes "source"; value = note.Text (codes "the \"book\""); label = Some (codes "Book") } ∷ record { property = codes "see"; value = note.Link (codes "wheels"); label = None } ∷ [];
}

-- a chain of two properties
abbrev pub chain_axiom : Axiom
chain_axiom = record { body = body.Chain (codes "has") (codes "owns") (codes "holds"); sides = [] }

-- a note about an entity of some kind
abbrev pub wheel_note : Kind → Axiom
wheel_note k = record { body = body.Note (name_of k (codes "wheel")) (codes "label") (note.Text (codes "Wheel")); sides = [] }

pub record TextTable : Type 0 where
  pub annotated : axiom_text bicycle_axiom ≡ codes "SubClassOf(Annotation(Annotation(<http://www.w3.org/2000/01/rdf-schema#label> \"Book\") <source> \"the \\\"book\\\"\") Annotation(<see> <wheels>) <bicycle> <vehicle>)"
  pub chain : axiom_text chain_axiom ≡ codes "SubObjectPropertyOf(ObjectPropertyChain(<has> <owns>) <holds>)"
  pub of_class : axiom_text (wheel_note kind.Class) ≡ codes "AnnotationAssertion(<label> <wheel> \"Wheel\")"
  pub of_role : axiom_text (wheel_note kind.Role) ≡ codes "AnnotationAssertion(<label> <wheel> \"Wheel\")"
  pub kinds_differ : ¬ (wheel_note kind.Class ≡ wheel_note kind.Role)
