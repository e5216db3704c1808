-- The functional-style text of IRIs, values, expressions and axioms, as bytes. All of it is a word and, in brackets, what
-- the word takes. (OWL 2 Structural Specification and Functional-Style Syntax.)
use Rattle.std.specs.Prelude.{ℕ, ◌==◌, ◌||◌, if◌then◌else◌, List, [], ◌∷◌, ◌++◌, Option, None, Some, codes, flat_map, map}
use Rattle.std.specs.Fmt.{decimal}
use Rattle.std.specs.List.{join_with_byte}
use Rattle.owl_axioms.specs.Vocabulary.{owl_nothing, owl_thing, rdfs_label}
use Rattle.owl_axioms.specs.declared.annotation.NoteValue.{NoteValue}
use Rattle.owl_axioms.specs.declared.annotation.NoteValue.TheVariants as note
use Rattle.owl_axioms.specs.declared.annotation.Side.{Side}
use Rattle.owl_axioms.specs.declared.body.Axiom.{Axiom}
use Rattle.owl_axioms.specs.declared.body.Body.{Body}
use Rattle.owl_axioms.specs.declared.body.Body.TheVariants as body
use Rattle.owl_axioms.specs.declared.expr.ClassExpr.{ClassExpr}
use Rattle.owl_axioms.specs.declared.expr.ClassExpr.TheOpen.{ClassExpr-F}
use Rattle.owl_axioms.specs.declared.expr.ClassExpr.TheFolds.{fold-ClassExpr}
use Rattle.owl_axioms.specs.declared.name.Kind.{Kind}
use Rattle.owl_axioms.specs.declared.name.Kind.TheVariants as kind
use Rattle.owl_axioms.specs.declared.name.Name.{Name}

-- a word and what it takes: in brackets, with a space between each two
unfoldable pub phrase : List ℕ → List (List ℕ) → List ℕ
phrase word parts = word ++ codes "(" ++ join_with_byte 32 parts ++ codes ")"

-- an IRI, in angle brackets
unfoldable pub iri_text : List ℕ → List ℕ
iri_text iri = codes "<" ++ iri ++ codes ">"

-- a byte in quotes: behind a backslash where it is a quote or a backslash
abbrev pub escaped : ℕ → List ℕ
escaped byte = if byte == 34 || byte == 92 then 92 ∷ byte ∷ [] else byte ∷ []

-- a text, in quotes
unfoldable pub quoted : List ℕ → List ℕ
quoted text = codes "\"" ++ flat_map escaped text ++ codes "\""

-- the value of an annotation
unfoldable pub value_text : NoteValue → List ℕ
value_text (note.Text text) = quoted text
value_text (note.Typed text datatype) = quoted text ++ codes "^^" ++ iri_text datatype
value_text (note.Link iri) = iri_text iri

-- one layer of an expression, with the text of each part in its place
unfoldable pub text_step : ClassExpr-F (List ℕ) → List ℕ
text_step ClassExpr-F.Thing = iri_text owl_thing
text_step ClassExpr-F.Nothing = iri_text owl_nothing
text_step (ClassExpr-F.Class iri) = iri_text iri
text_step (ClassExpr-F.And operands) = phrase (codes "ObjectIntersectionOf") operands
text_step (ClassExpr-F.Or operands) = phrase (codes "ObjectUnionOf") operands
text_step (ClassExpr-F.Not part) = phrase (codes "ObjectComplementOf") (part ∷ [])
text_step (ClassExpr-F.Some role part) = phrase (codes "ObjectSomeValuesFrom") (iri_text role ∷ part ∷ [])
text_step (ClassExpr-F.All role part) = phrase (codes "ObjectAllValuesFrom") (iri_text role ∷ part ∷ [])
text_step (ClassExpr-F.Min n role part) = phrase (codes "ObjectMinCardinality") (decimal n ∷ iri_text role ∷ part ∷ [])
text_step (ClassExpr-F.Max n role part) = phrase (codes "ObjectMaxCardinality") (decimal n ∷ iri_text role ∷ part ∷ [])
text_step (ClassExpr-F.Exact n role part) = phrase (codes "ObjectExactCardinality") (decimal n ∷ iri_text role ∷ part ∷ [])

-- a class expression
unfoldable pub expr_text : ClassExpr → List ℕ
expr_text = fold-ClassExpr (List ℕ) text_step

-- the label of an annotation, as an annotation of it
unfoldable pub label_texts : Option (List ℕ) → List (List ℕ)
label_texts None = []
label_texts (Some label) = phrase (codes "Annotation") (iri_text rdfs_label ∷ quoted label ∷ []) ∷ []

-- an annotation of an axiom
unfoldable pub side_text : Side → List ℕ
side_text side = phrase (codes "Annotation") (label_texts side.label ++ iri_text side.property ∷ value_text side.value ∷ [])

-- an entity that is declared
unfoldable pub name_text : Name → List ℕ
name_text name = phrase (kind_word name.kind) (iri_text name.iri ∷ [])
  where
    kind_word : Kind → List ℕ
    kind_word kind.Class = codes "Class"
    kind_word kind.Role = codes "ObjectProperty"
    kind_word kind.Individual = codes "NamedIndividual"
    kind_word kind.AnnotationProperty = codes "AnnotationProperty"

-- a word that takes the annotations first, and then what the axiom speaks of
unfoldable pub body_text : List (List ℕ) → Body → List ℕ
body_text sides (body.Sub c d) = phrase (codes "SubClassOf") (sides ++ expr_text c ∷ expr_text d ∷ [])
body_text sides (body.Equiv c d) = phrase (codes "EquivalentClasses") (sides ++ expr_text c ∷ expr_text d ∷ [])
body_text sides (body.Disjoint c d) = phrase (codes "DisjointClasses") (sides ++ expr_text c ∷ expr_text d ∷ [])
body_text sides (body.SubRole r s) = phrase (codes "SubObjectPropertyOf") (sides ++ iri_text r ∷ iri_text s ∷ [])
body_text sides (body.Chain r s t) = phrase (codes "SubObjectPropertyOf") (sides ++ phrase (codes "ObjectPropertyChain") (iri_text r ∷ iri_text s ∷ []) ∷ iri_text t ∷ [])
body_text sides (body.EquivRoles r s) = phrase (codes "EquivalentObjectProperties") (sides ++ iri_text r ∷ iri_text s ∷ [])
body_text sides (body.DisjointRoles r s) = phrase (codes "DisjointObjectProperties") (sides ++ iri_text r ∷ iri_text s ∷ [])
body_text sides (body.Inverse r s) = phrase (codes "InverseObjectProperties") (sides ++ iri_text r ∷ iri_text s ∷ [])
body_text sides (body.Transitive r) = phrase (codes "TransitiveObjectProperty") (sides ++ iri_text r ∷ [])
body_text sides (body.Reflexive r) = phrase (codes "ReflexiveObjectProperty") (sides ++ iri_text r ∷ [])
body_text sides (body.Symmetric r) = phrase (codes "SymmetricObjectProperty") (sides ++ iri_text r ∷ [])
body_text sides (body.Asymmetric r) = phrase (codes "AsymmetricObjectProperty") (sides ++ iri_text r ∷ [])
body_text sides (body.Functional r) = phrase (codes "FunctionalObjectProperty") (sides ++ iri_text r ∷ [])
body_text sides (body.InverseFunctional r) = phrase (codes "InverseFunctionalObjectProperty") (sides ++ iri_text r ∷ [])
body_text sides (body.Domain r c) = phrase (codes "ObjectPropertyDomain") (sides ++ iri_text r ∷ expr_text c ∷ [])
body_text sides (body.Range r c) = phrase (codes "ObjectPropertyRange") (sides ++ iri_text r ∷ expr_text c ∷ [])
body_text sides (body.ClassAssertion c i) = phrase (codes "ClassAssertion") (sides ++ expr_text c ∷ iri_text i ∷ [])
body_text sides (body.RoleAssertion r i j) = phrase (codes "ObjectPropertyAssertion") (sides ++ iri_text r ∷ iri_text i ∷ iri_text j ∷ [])
body_text sides (body.Declaration name) = phrase (codes "Declaration") (sides ++ name_text name ∷ [])
body_text sides (body.Note subject property value) = phrase (codes "AnnotationAssertion") (sides ++ iri_text property ∷ iri_text subject.iri ∷ value_text value ∷ [])
body_text sides (body.OntologyNote property value) = phrase (codes "Annotation") (sides ++ iri_text property ∷ value_text value ∷ [])

-- an axiom with its annotations
unfoldable pub axiom_text : Axiom → List ℕ
axiom_text a = body_text (map side_text a.sides) a.body
