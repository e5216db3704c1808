-- The IRIs that an ontology knows: those of declared names, and those of names in the signature of a logical axiom. (Own.)
use Rattle.std.specs.Prelude.{ℕ, ◌+◌, Bool, false, ◌&&◌, ◌||◌, if◌then◌else◌, List, [], ◌∷◌}
use Rattle.std.specs.List.{list_any}
use Rattle.std.specs.Str.{bytes_eq}
use Rattle.owl_axioms.specs.Names.{Scope, body_names, listed}
use Rattle.owl_axioms.specs.declared.body.Axiom.{Axiom}
use Rattle.owl_axioms.specs.declared.body.Body.{Body}
use Rattle.owl_axioms.specs.declared.body.Body.TheVariants as body
use Rattle.owl_axioms.specs.declared.name.Kind.TheVariants as kind
use Rattle.owl_sem.specs.Models.{is_logical}

-- a class, a role or an individual of the scope has this IRI
abbrev pub has_iri : Scope → List ℕ → Bool
has_iri s iri = s kind.Class iri || s kind.Role iri || s kind.Individual iri

-- an axiom declares a name of this IRI, of whatever kind
unfoldable pub declares : List ℕ → Body → Bool
declares iri (body.Declaration name) = bytes_eq name.iri iri
declares iri said = false

-- or it is logical, and a name in it has this IRI
abbrev pub names_iri : List ℕ → Body → Bool
names_iri iri said = declares iri said || (is_logical said && has_iri (listed (body_names said)) iri)

-- some axiom does
abbrev pub is_known : List Axiom → List ℕ → Bool
is_known axioms iri = list_any (λ a. names_iri iri a.body) axioms

-- how many of these IRIs fail a test
abbrev pub missing_count : (List ℕ → Bool) → List (List ℕ) → ℕ
missing_count test [] = 0
missing_count test (iri ∷ iris) = (if test iri then 0 else 1) + missing_count test iris

-- how many of them are not known
abbrev pub unknown_count : List Axiom → List (List ℕ) → ℕ
unknown_count axioms iris = missing_count (is_known axioms) iris
