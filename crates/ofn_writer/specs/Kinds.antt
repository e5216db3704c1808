-- The kinds of entities that an IRI is declared as, and the annotation that tells the kind of the subject of a note. The
-- text of a note names its subject by its IRI alone, so the kind is told where the IRI is declared as several. (Own; an IRI
-- that names several entities: OWL 2 Structural Specification, section 5.9.)
use Rattle.std.specs.Prelude.{ℕ, Bool, false, ◌&&◌, List, [], ◌∷◌, Option, None, Some, codes, filter, length, nat_lt}
use Rattle.std.specs.List.{list_any}
use Rattle.std.specs.Option.{option_map_or}
use Rattle.std.specs.Str.{bytes_eq}
use Rattle.owl_axioms.specs.Names.{Scope}
use Rattle.owl_axioms.specs.contracts.name.KindPartialEq.TheImpl as kind_eq
use Rattle.owl_axioms.specs.declared.annotation.NoteValue.TheVariants as note
use Rattle.owl_axioms.specs.declared.annotation.Side.{Side}
use Rattle.owl_axioms.specs.declared.body.Axiom.{Axiom}
use Rattle.owl_axioms.specs.declared.body.Body.{Body}
use Rattle.owl_axioms.specs.declared.body.Body.TheVariants as body
use Rattle.owl_axioms.specs.declared.name.Kind.{Kind}
use Rattle.owl_axioms.specs.declared.name.Kind.TheVariants as kind
use Rattle.owl_axioms.specs.declared.name.Name.{Name}

-- the name is that of this kind and this IRI
abbrev pub is_named : Name → Scope
is_named name k iri = kind_eq.ghosts.eq name.kind k && bytes_eq name.iri iri

-- the name that an axiom declares
unfoldable pub declared_name : Body → Option Name
declared_name (body.Declaration name) = Some name
declared_name other = None

-- the axiom declares this name
abbrev pub declares : Body → Scope
declares said k iri = option_map_or (λ name. is_named name k iri) (declared_name said) false

-- what axioms declare
abbrev pub declared : List Axiom → Scope
declared axioms k iri = list_any (λ a. declares a.body k iri) axioms

-- every kind
abbrev pub all_kinds : List Kind
all_kinds = kind.Class ∷ kind.Role ∷ kind.Individual ∷ kind.AnnotationProperty ∷ []

-- the IRI is declared as more than one kind
unfoldable pub has_many_kinds : Scope → List ℕ → Bool
has_many_kinds declared iri = nat_lt 1 (length (filter (λ k. declared k iri) all_kinds))

-- the word for a kind
unfoldable pub kind_word : Kind → List ℕ
kind_word kind.Class = codes "class"
kind_word kind.Role = codes "role"
kind_word kind.Individual = codes "individual"
kind_word kind.AnnotationProperty = codes "annotation-property"

-- the annotation property of such words
unfoldable pub kind_property : List ℕ
kind_property = codes "http://www.geneontology.org/formats/oboInOwl#kind"

-- the annotation that tells a kind
abbrev pub kind_side : Kind → Side
kind_side k = record { property = kind_property; value = note.Text (kind_word k); label = None }
