-- The names that are declared, as they are kept: a signature, and the annotation properties beside it. (Own.)
use Rattle.std.specs.Prelude.{ℕ, Bool, if◌then◌else◌, List}
use Rattle.owl_axioms.specs.Names.{Scope}
use Rattle.owl_axioms.specs.Signature.{SigState, has_text, with_text}
use Rattle.owl_axioms.specs.declared.name.Kind.{Kind}
use Rattle.owl_axioms.specs.declared.name.Kind.TheVariants as kind
use Rattle.ofn_writer.specs.declared.declared.Declared.{Declared}

abbrev pub scope_in : SigState → List (List ℕ) → Scope
scope_in names properties kind.Class iri = has_text names.classes iri
scope_in names properties kind.Role iri = has_text names.roles iri
scope_in names properties kind.Individual iri = has_text names.individuals iri
scope_in names properties kind.AnnotationProperty iri = has_text properties iri

-- one annotation property more, where the name is one
abbrev pub with_property : List (List ℕ) → Kind → List ℕ → List (List ℕ)
with_property properties kind.Class iri = properties
with_property properties kind.Role iri = properties
with_property properties kind.Individual iri = properties
with_property properties kind.AnnotationProperty iri = with_text properties iri

abbrev pub declared_scope : Declared → Scope
declared_scope found = scope_in found.names found.properties.keys

-- one, where a test is passed
abbrev pub one_if : Bool → ℕ
one_if test = if test then 1 else 0
