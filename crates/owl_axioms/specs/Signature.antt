-- Signatures as a contract sees them: the names of each kind in the order in which they came, each once. (Own.)
use Rattle.std.specs.Prelude.{ℕ, ◌+◌, Bool, false, List, [], ◌∷◌, ◌++◌, if◌then◌else◌, length}
use Rattle.std.specs.List.{list_any}
use Rattle.std.specs.Str.{bytes_eq}
use Rattle.owl_axioms.specs.Names.{Scope}
use Rattle.owl_axioms.specs.declared.name.Kind.{Kind}
use Rattle.owl_axioms.specs.declared.name.Kind.TheVariants as kind
use Rattle.owl_axioms.specs.declared.name.Name.{Name}

-- the IRIs of its classes, of its roles and of its individuals
pub record SigState : Type 0 where
  pub classes : List (List ℕ)
  pub roles : List (List ℕ)
  pub individuals : List (List ℕ)

-- a signature without names
abbrev pub no_names : SigState
no_names = record { classes = []; roles = []; individuals = [] }

-- the IRI is there
abbrev pub has_text : List (List ℕ) → List ℕ → Bool
has_text texts text = list_any (bytes_eq text) texts

-- one IRI more: it comes last, unless it is there
abbrev pub with_text : List (List ℕ) → List ℕ → List (List ℕ)
with_text texts text = if has_text texts text then texts else texts ++ text ∷ []

-- one name more. An annotation property is none that a signature has
abbrev pub add_name : SigState → Kind → List ℕ → SigState
add_name s kind.Class a = record s { classes = with_text s.classes a }
add_name s kind.Role a = record s { roles = with_text s.roles a }
add_name s kind.Individual a = record s { individuals = with_text s.individuals a }
add_name s kind.AnnotationProperty a = s

-- names added one after another
unfoldable pub added : SigState → List Name → SigState
added s [] = s
added s (n ∷ names) = added (add_name s n.kind n.iri) names

-- the names of a signature, as a set
abbrev pub scope_of : SigState → Scope
scope_of s kind.Class a = has_text s.classes a
scope_of s kind.Role a = has_text s.roles a
scope_of s kind.Individual a = has_text s.individuals a
scope_of s kind.AnnotationProperty a = false

-- how many names there are
abbrev pub name_count : SigState → ℕ
name_count s = length s.classes + length s.roles + length s.individuals
