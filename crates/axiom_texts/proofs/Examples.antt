-- The texts of the examples, computed.
use Rattle.std.proofs.Common.{◌≡◌, [], ◌∷◌, codes, None, Some, refl, ap}
use Rattle.owl_axioms.specs.Text.{axiom_text, body_text, iri_text, label_texts, phrase, quoted, side_text, value_text}
use Rattle.owl_axioms.specs.Vocabulary.{rdfs_label}
use Rattle.owl_axioms.specs.declared.annotation.NoteValue.TheVariants.{Link, Text}
use Rattle.owl_axioms.specs.declared.name.Kind.{Kind}
use Rattle.owl_axioms.specs.declared.name.Kind.TheVariants as kind
use Rattle.owl_axioms.proofs.Layers.{text_of_class}
use Rattle.axiom_texts.specs.Alike.{kind_of_subject}
use Rattle.axiom_texts.specs.Examples.{TextTable, bicycle_axiom, chain_axiom, wheel_note}

annotated : axiom_text bicycle_axiom ≡ codes "SubClassOf(Annotation(Annotation(<http://www.w3.org/2000/01/rdf-schema#label> \"Book\") <source> \"the \\\"book\\\"\") Annotation(<see> <wheels>) <bicycle> <vehicle>)"
unfolding axiom_text body_text iri_text label_texts phrase quoted rdfs_label side_text value_text
annotated = λ i. phrase (codes "SubClassOf") (side_text (record { property = codes "source"; value = Text (codes "the \"book\""); label = Some (codes "Book") }) ∷ side_text (record { property = codes "see"; value = Link (codes "wheels"); label = None }) ∷ text_of_class (codes "bicycle") i ∷ text_of_class (codes "vehicle") i ∷ [])

chained : axiom_text chain_axiom ≡ codes "SubObjectPropertyOf(ObjectPropertyChain(<has> <owns>) <holds>)"
unfolding axiom_text body_text iri_text phrase
chained = refl

noted : (k : Kind) → axiom_text (wheel_note k) ≡ codes "AnnotationAssertion(<label> <wheel> \"Wheel\")"
unfolding axiom_text body_text iri_text phrase quoted value_text
noted k = refl

kinds_apart : wheel_note kind.Class ≡ wheel_note kind.Role → ⊥
unfolding kind_of_subject
kinds_apart is = let h : Some kind.Class ≡ Some kind.Role = ap (λ a. kind_of_subject a.body) is in absurd (cc)

pub text_table : TextTable
text_table = record { annotated = annotated; chain = chained; of_class = noted kind.Class; of_role = noted kind.Role; kinds_differ = kinds_apart }
