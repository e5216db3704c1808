-- What is known of each node of a pool, and the index by which it is renewed. (Own.)
use Rattle.std.specs.Prelude.{ℕ, ◌≡◌, ◌<◌, ◌&&◌, ◌||◌, List, [], Option, None, Some, get_or, length, map, slice_get}
use Rattle.std.specs.Str.{bytes_eq}
use Rattle.fact_rows.specs.Member.{In}
use Rattle.name_lists.specs.Lists.{HasNumber, NamedState}
use Rattle.expr_pool.specs.Part.{parts_of}
use Rattle.owl_axioms.specs.Names.{Scope, name_of}
use Rattle.owl_axioms.specs.contracts.name.KindPartialEq.TheImpl as kind_eq
use Rattle.owl_axioms.specs.declared.expr.ClassExpr.{ClassExpr, out-ClassExpr}
use Rattle.owl_axioms.specs.declared.expr.ClassExpr.TheOpen as layer
use Rattle.owl_axioms.specs.declared.expr.ClassExpr.TheOpen.{ClassExpr-F}
use Rattle.owl_axioms.specs.declared.name.Kind.{Kind}
use Rattle.owl_axioms.specs.declared.name.Kind.TheVariants as kind
use Rattle.owl_axioms.specs.declared.name.Name.{Name}
use Rattle.locality_tables.specs.Verdict.{verdict}
use Rattle.locality_tables.specs.declared.fills.ClassFill.{ClassFill}
use Rattle.locality_tables.specs.declared.fills.RoleFill.{RoleFill}
use Rattle.locality_tables.specs.declared.finding.Finding.{Finding}

-- what is known of each node, in the order of their places; the places of the nodes that each is a part of; and of each
-- name the places of the nodes that have it at the top
pub record VerdictState : Type 0 where
  pub findings : List Finding
  pub wholes : List (List ℕ)
  pub uses : NamedState

-- the class that a layer is, or the role that it has
abbrev pub top_name_of : {A : Type 0} → ClassExpr-F A → Option Name
top_name_of (layer.Class a) = Some (name_of kind.Class a)
top_name_of (layer.Some r c) = Some (name_of kind.Role r)
top_name_of (layer.All r c) = Some (name_of kind.Role r)
top_name_of (layer.Min n r c) = Some (name_of kind.Role r)
top_name_of (layer.Max n r c) = Some (name_of kind.Role r)
top_name_of (layer.Exact n r c) = Some (name_of kind.Role r)
top_name_of _ = None

-- the name at the top of an expression
unfoldable pub top_name : ClassExpr → Option Name
top_name c = top_name_of (out-ClassExpr c)

-- the index of a pool of these trees: with each node its parts lead to it, and so does the name at its top
pub record IsIndex (trees : List ClassExpr) (wholes : List (List ℕ)) (uses : NamedState) : Type 0 where
  pub parts : (i j : ℕ) (t p : ClassExpr) → slice_get trees i ≡ Some t → slice_get trees j ≡ Some p → In p (parts_of t) → In i (get_or wholes j [])
  pub names : (i : ℕ) (t : ClassExpr) (n : Name) → slice_get trees i ≡ Some t → top_name t ≡ Some n → HasNumber uses n i
  pub many : length wholes ≡ length trees
  pub above : (j i : ℕ) → In i (get_or wholes j []) → i < length trees
  pub using : (s i : ℕ) → In i (get_or uses.lists s []) → i < length trees

-- what is known stands for a pool and a signature: of each node the verdict of its tree is known
pub record StandFor (classes : ClassFill) (roles : RoleFill) (inside : Scope) (trees : List ClassExpr) (state : VerdictState) : Type 0 where
  pub verdicts : state.findings ≡ map (verdict classes roles inside) trees
  pub index : IsIndex trees state.wholes state.uses

-- the names of the one scope are those of the other and this name
abbrev pub is_named : Name → Scope
is_named n k a = kind_eq.ghosts.eq n.kind k && bytes_eq n.iri a

abbrev pub IsWithName : Scope → Scope → Name → Type 0
IsWithName before after n = (k : Kind) (a : List ℕ) → after k a ≡ (before k a || is_named n k a)

-- what is known stands for a pool and the signature without a name
abbrev pub StandWithout : ClassFill → RoleFill → Scope → Name → List ClassExpr → VerdictState → Type 0
StandWithout classes roles inside n trees state = (before : Scope) × IsWithName before inside n × StandFor classes roles before trees state
