-- Numbers of nodes and of roles, and what is made of them. (Own.)
use Rattle.std.specs.Prelude.{ℕ, ◌≡◌, ◌<◌, List, [], ◌∷◌, Some, get_or, length, map, nat_eq, slice_get}
use Rattle.std.specs.Cmp.Lexicographic.{pointwise}
use Rattle.std.specs.List.{flat_map}
use Rattle.std.specs.Prelude.{Bool, position}
use Rattle.std.specs.Option.{option_map_or}
use Rattle.fact_rows.specs.Member.{In}
use Rattle.owl_axioms.specs.declared.expr.ClassExpr.{ClassExpr}
use Rattle.owl_axioms.specs.declared.expr.ClassExpr.TheVariants as expr
use Rattle.expr_pool.specs.Pool.{nodes_of, tree_at, tree_of}
use Rattle.expr_pool.specs.declared.cell.Cell.{Cell}
use Rattle.expr_pool.specs.declared.cell.Cell.TheVariants as cell
use Rattle.expr_pool.specs.declared.cell.Node.{Node}
use Rattle.el_numbers.specs.declared.part.NumberedPart.{NumberedPart}
use Rattle.el_numbers.specs.declared.part.Shape.{Shape}
use Rattle.el_numbers.specs.declared.part.Shape.TheVariants as shape
use Rattle.el_part.specs.Part.{PartState}
use Rattle.el_part.specs.declared.el_axiom.ElAxiom.{ElAxiom}
use Rattle.el_part.specs.declared.el_axiom.ElAxiom.TheVariants as el

-- no number
abbrev pub none : ℕ
none = 4294967295

-- each of some nodes has its place as its number, and no other node of the pool has one of these numbers
pub record AreNumbers (nodes : List Node) (count : ℕ) (numbers : List ℕ) : Type 0 where
  pub long : length numbers ≡ count
  pub number : (k : ℕ) (n : Node) → slice_get nodes k ≡ Some n → slice_get numbers n.place ≡ Some k
  pub only : (p k : ℕ) → slice_get numbers p ≡ Some k → k < none → (n : Node) × (slice_get nodes k ≡ Some n) × (n.place ≡ p)

-- the number of a node, and of a role
abbrev pub number_of : List ℕ → Node → ℕ
number_of numbers n = get_or numbers n.place 0

abbrev pub same_iri : List ℕ → List ℕ → Bool
same_iri = pointwise nat_eq

abbrev pub role_of : List (List ℕ) → List ℕ → ℕ
role_of roles r = option_map_or (λ k. k) (position (same_iri r) roles) 0

-- the roles in an axiom and in a cell
unfoldable pub roles_in : ElAxiom → List (List ℕ)
roles_in (el.Sub c d) = []
roles_in (el.Disjoint c d) = []
roles_in (el.Domain r c) = r ∷ []
roles_in (el.SubRole r s) = r ∷ s ∷ []
roles_in (el.Chain r s t) = r ∷ s ∷ t ∷ []

unfoldable pub role_in : Cell → List (List ℕ)
role_in (cell.Some r n) = r ∷ []
role_in _ = []

-- the shape and the operands of a cell
unfoldable pub shape_in : List ℕ → List (List ℕ) → Cell → Shape
shape_in numbers roles (cell.And nodes) = shape.And
shape_in numbers roles (cell.Some r n) = shape.Some (role_of roles r) (number_of numbers n)
shape_in numbers roles _ = shape.Name

unfoldable pub operands_in : List ℕ → Cell → List ℕ
operands_in numbers (cell.And nodes) = map (number_of numbers) nodes
operands_in numbers _ = []

-- the axioms of each kind
unfoldable pub inclusion_in : List ℕ → ElAxiom → List (ℕ × ℕ)
inclusion_in numbers (el.Sub c d) = (number_of numbers c, number_of numbers d) ∷ []
inclusion_in numbers _ = []

unfoldable pub disjoint_in : List ℕ → ElAxiom → List (ℕ × ℕ)
disjoint_in numbers (el.Disjoint c d) = (number_of numbers c, number_of numbers d) ∷ []
disjoint_in numbers _ = []

unfoldable pub sub_role_in : List (List ℕ) → ElAxiom → List (ℕ × ℕ)
sub_role_in roles (el.SubRole r s) = (role_of roles r, role_of roles s) ∷ []
sub_role_in roles _ = []

unfoldable pub chain_in : List (List ℕ) → ElAxiom → List (ℕ × ℕ × ℕ)
chain_in roles (el.Chain r s t) = (role_of roles r, role_of roles s, role_of roles t) ∷ []
chain_in roles _ = []

unfoldable pub domain_in : List ℕ → List (List ℕ) → ElAxiom → List (ℕ × ℕ)
domain_in numbers roles (el.Domain r c) = (role_of roles r, number_of numbers c) ∷ []
domain_in numbers roles _ = []

-- cells whose trees are these expressions
abbrev pub AreCells : List ClassExpr → List ClassExpr → List Cell → Type 0
AreCells trees exprs cells = map (tree_of trees) cells ≡ exprs

-- shapes and operands of the cells of expressions
pub record AreShapes (trees exprs : List ClassExpr) (numbers : List ℕ) (roles : List (List ℕ)) (shapes : List Shape) (operands : List (List ℕ)) : Type 0 where
  pub cells : List Cell
  pub are : AreCells trees exprs cells
  pub within : (c : Cell) → In c cells → (n : Node) → In n (nodes_of c) → n.place < length trees
  pub shaped : shapes ≡ map (shape_in numbers roles) cells
  pub operated : operands ≡ map (operands_in numbers) cells

-- the roles have each role that is wanted, and none twice
abbrev pub HasRoles : List (List ℕ) → List (List ℕ) → Type 0
HasRoles roles wanted = (r : List ℕ) → In r wanted → In r roles

-- roles with those of the restrictions among these expressions
abbrev pub HasRestrictions : List ClassExpr → List (List ℕ) → Type 0
HasRestrictions exprs roles = (r : List ℕ) (c : ClassExpr) → In (expr.Some r c) exprs → In r roles

-- a part over numbers
pub record IsPartOver (trees : List ClassExpr) (part : PartState) (numbers : List ℕ) (roles : List (List ℕ)) (made : NumberedPart) : Type 0 where
  pub expressions : AreShapes trees (map (tree_at trees) part.occurring) numbers roles made.shapes.items made.operands.items
  pub role_count : made.role_count ≡ length roles
  pub inclusions : made.inclusions.items ≡ flat_map (inclusion_in numbers) part.axioms
  pub disjoints : made.disjoints.items ≡ flat_map (disjoint_in numbers) part.axioms
  pub sub_roles : made.role_inclusions.items ≡ flat_map (sub_role_in roles) part.axioms
  pub chains : made.chains.items ≡ flat_map (chain_in roles) part.axioms
  pub domains : made.domains.items ≡ flat_map (domain_in numbers roles) part.axioms
