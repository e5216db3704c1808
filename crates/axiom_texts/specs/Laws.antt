-- What the text of an axiom tells. (Own; the text: OWL 2 Structural Specification and Functional-Style Syntax.)
use Rattle.std.specs.Prelude.{◌≡◌}
use Rattle.owl_axioms.specs.Proper.{IsProper}
use Rattle.owl_axioms.specs.Text.{axiom_text}
use Rattle.owl_axioms.specs.declared.body.Axiom.{Axiom}
use Rattle.axiom_texts.specs.Alike.{SameButKind, kind_of_subject}

-- proper axioms of one text are the same, or notes that are alike but for the kind of the entity
abbrev pub TextTellsAxiom : Axiom → Axiom → Type 0
TextTellsAxiom one other = axiom_text one ≡ axiom_text other → IsProper one → IsProper other → SameButKind one other

-- and axioms that are so alike have one text, proper or not
abbrev pub AlikeHaveOneText : Axiom → Axiom → Type 0
AlikeHaveOneText one other = SameButKind one other → axiom_text one ≡ axiom_text other

-- proper axioms of one text are the same, where both are notes about entities of one kind, or neither is a note
abbrev pub TextAndKindTellAxiom : Axiom → Axiom → Type 0
TextAndKindTellAxiom one other = axiom_text one ≡ axiom_text other → kind_of_subject one.body ≡ kind_of_subject other.body → IsProper one → IsProper other → one ≡ other
