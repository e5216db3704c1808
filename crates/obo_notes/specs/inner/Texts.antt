-- Parts of the functional-style text of an annotation. (OWL 2 Structural Specification and Functional-Style Syntax.)
use Rattle.std.specs.Prelude.{ℕ, ◌==◌, ◌||◌, if◌then◌else◌, List, [], ◌∷◌, ◌++◌, Option, None, Some, codes}
use Rattle.owl_axioms.specs.Vocabulary.{rdfs_label}
use Rattle.owl_axioms.specs.Text.{iri_text, quoted, value_text}
use Rattle.owl_axioms.specs.declared.annotation.Side.{Side}

-- a byte of a quoted text, behind a backslash where it is a quote or a backslash
abbrev pub escaped_byte : ℕ → List ℕ
escaped_byte byte = if byte == 34 || byte == 92 then 92 ∷ byte ∷ [] else byte ∷ []

-- what stands before the label of an annotation
abbrev pub label_begin : List ℕ
label_begin = codes "Annotation(" ++ (iri_text rdfs_label ++ codes " ")

-- the label of an annotation as an annotation of it, and a space
abbrev pub label_front : Option (List ℕ) → List ℕ
label_front None = []
label_front (Some label) = label_begin ++ (quoted label ++ codes ") ")

-- what stands behind the label
abbrev pub behind_label : Side → List ℕ
behind_label side = iri_text side.property ++ 32 ∷ value_text side.value
