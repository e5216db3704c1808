-- The names that expressions and axioms speak of, and scopes, which are sets of names. (Signatures: OWL 2 Structural
-- Specification; scopes are our own.)
use Rattle.std.specs.Prelude.{ℕ, Bool, true, false, not, ◌&&◌, ◌||◌, List, [], ◌∷◌, ◌++◌, flat_map}
use Rattle.std.specs.List.{list_all, list_any}
use Rattle.std.specs.Str.{bytes_eq}
use Rattle.owl_axioms.specs.Vocabulary.{owl_nothing, owl_thing}
use Rattle.owl_axioms.specs.contracts.name.KindPartialEq.TheImpl as kind_eq
use Rattle.owl_axioms.specs.declared.body.Axiom.{Axiom}
use Rattle.owl_axioms.specs.declared.body.Body.{Body}
use Rattle.owl_axioms.specs.declared.body.Body.TheVariants as body
use Rattle.owl_axioms.specs.declared.expr.ClassExpr.{ClassExpr}
use Rattle.owl_axioms.specs.declared.expr.ClassExpr.TheOpen.{ClassExpr-F}
use Rattle.owl_axioms.specs.declared.expr.ClassExpr.TheFolds.{fold-ClassExpr}
use Rattle.owl_axioms.specs.declared.name.Kind.{Kind}
use Rattle.owl_axioms.specs.declared.name.Kind.TheVariants as kind
use Rattle.owl_axioms.specs.declared.name.Name.{Name}

-- a set of names, as a test of a kind and an IRI
abbrev pub Scope : Type 0
Scope = Kind → List ℕ → Bool

-- every name
abbrev pub all_names : Scope
all_names k a = true

-- the names of both scopes
abbrev pub common : Scope → Scope → Scope
common s t k a = s k a && t k a

-- the names of one of them or of both
abbrev pub either : Scope → Scope → Scope
either s t k a = s k a || t k a

-- the names of a list
unfoldable pub listed : List Name → Scope
listed names k a = list_any (λ n. kind_eq.ghosts.eq n.kind k && bytes_eq n.iri a) names

-- each name of the list is in the scope
unfoldable pub covers : Scope → List Name → Bool
covers s names = list_all (λ n. s n.kind n.iri) names

-- a name of this kind
abbrev pub name_of : Kind → List ℕ → Name
name_of k a = record { kind = k; iri = a }

-- the names of an expression, where those of its parts are known. owl:Thing and owl:Nothing are none
unfoldable pub names_step : ClassExpr-F (List Name) → List Name
names_step ClassExpr-F.Thing = []
names_step ClassExpr-F.Nothing = []
names_step (ClassExpr-F.Class a) = name_of kind.Class a ∷ []
names_step (ClassExpr-F.And parts) = flat_map (λ p. p) parts
names_step (ClassExpr-F.Or parts) = flat_map (λ p. p) parts
names_step (ClassExpr-F.Not part) = part
names_step (ClassExpr-F.Some r part) = name_of kind.Role r ∷ part
names_step (ClassExpr-F.All r part) = name_of kind.Role r ∷ part
names_step (ClassExpr-F.Min n r part) = name_of kind.Role r ∷ part
names_step (ClassExpr-F.Max n r part) = name_of kind.Role r ∷ part
names_step (ClassExpr-F.Exact n r part) = name_of kind.Role r ∷ part

-- the names in an expression
unfoldable pub names_in : ClassExpr → List Name
names_in = fold-ClassExpr (List Name) names_step

-- models speak of names of this kind
abbrev pub has_meaning : Kind → Bool
has_meaning kind.Class = true
has_meaning kind.Role = true
has_meaning kind.Individual = true
has_meaning kind.AnnotationProperty = false

-- the names of such kinds alone
abbrev pub meaningful : Scope → Scope
meaningful s k a = has_meaning k && s k a

-- owl:Thing or owl:Nothing, as a class
abbrev pub is_top_or_bottom : Kind → List ℕ → Bool
is_top_or_bottom kind.Class a = bytes_eq a owl_thing || bytes_eq a owl_nothing
is_top_or_bottom kind.Role a = false
is_top_or_bottom kind.Individual a = false
is_top_or_bottom kind.AnnotationProperty a = false

-- a name that may be in a signature
unfoldable pub is_signed : Kind → List ℕ → Bool
is_signed k a = has_meaning k && not (is_top_or_bottom k a)

-- the name itself, where it may be
abbrev pub subject_names : Name → List Name
subject_names name = name_if (is_signed name.kind name.iri)
  where
    name_if : Bool → List Name
    name_if true = name ∷ []
    name_if false = []

abbrev pub one_role : List ℕ → List Name
one_role r = name_of kind.Role r ∷ []

abbrev pub two_roles : List ℕ → List ℕ → List Name
two_roles r s = name_of kind.Role r ∷ name_of kind.Role s ∷ []

-- the names in what an axiom says: of a declaration or an annotation that of its subject
unfoldable pub body_names : Body → List Name
body_names (body.Sub c d) = names_in c ++ names_in d
body_names (body.Equiv c d) = names_in c ++ names_in d
body_names (body.Disjoint c d) = names_in c ++ names_in d
body_names (body.SubRole r s) = two_roles r s
body_names (body.Chain r s t) = name_of kind.Role r ∷ two_roles s t
body_names (body.EquivRoles r s) = two_roles r s
body_names (body.DisjointRoles r s) = two_roles r s
body_names (body.Inverse r s) = two_roles r s
body_names (body.Transitive r) = one_role r
body_names (body.Reflexive r) = one_role r
body_names (body.Symmetric r) = one_role r
body_names (body.Asymmetric r) = one_role r
body_names (body.Functional r) = one_role r
body_names (body.InverseFunctional r) = one_role r
body_names (body.Domain r c) = name_of kind.Role r ∷ names_in c
body_names (body.Range r c) = name_of kind.Role r ∷ names_in c
body_names (body.ClassAssertion c a) = name_of kind.Individual a ∷ names_in c
body_names (body.RoleAssertion r a b) = name_of kind.Role r ∷ name_of kind.Individual a ∷ name_of kind.Individual b ∷ []
body_names (body.Declaration name) = subject_names name
body_names (body.Note subject property value) = subject_names subject
body_names (body.OntologyNote property value) = []

-- the names in axioms
unfoldable pub names_of : List Axiom → List Name
names_of axioms = flat_map (λ a. body_names a.body) axioms
