-- What a tree tells of its cell.
use Rattle.std.proofs.Common.{◌≡◌, ℕ, List, [], ◌∷◌, Option, None, Some, map, refl, sym, ap, ◌∙◌}
use Rattle.owl_axioms.specs.declared.expr.ClassExpr.{ClassExpr}
use Rattle.owl_axioms.specs.declared.expr.ClassExpr.TheOpen.{ClassExpr-F}
use Rattle.owl_axioms.specs.declared.expr.ClassExpr.TheVariants as expr
use Rattle.owl_axioms.specs.declared.expr.ClassExpr.TheViews.{out-ClassExpr, out-roll-ClassExpr, roll-ClassExpr}
use Rattle.expr_pool.specs.Pool.{nodes_of, tree_at, tree_of}
use Rattle.expr_pool.specs.declared.cell.Cell.{Cell}
use Rattle.expr_pool.specs.declared.cell.Cell.TheVariants as cell
use Rattle.expr_pool.specs.declared.cell.Node.{Node}
use Rattle.el_numbers.specs.declared.part.Shape.TheVariants as shape
use Rattle.el_saturate.specs.inner.Numbers.{number_of, operands_in, role_in, role_of, shape_in}

-- the operands of an intersection, and the role and the filler of a restriction
and_in : ClassExpr-F ClassExpr → Option (List ClassExpr)
and_in (ClassExpr-F.And es) = Some es
and_in _ = None

some_in : ClassExpr-F ClassExpr → Option (List ℕ × ClassExpr)
some_in (ClassExpr-F.Some r e) = Some (r, e)
some_in _ = None

of_layer : List ClassExpr → Cell → ClassExpr-F ClassExpr
of_layer ts cell.Thing = ClassExpr-F.Thing
of_layer ts cell.Nothing = ClassExpr-F.Nothing
of_layer ts (cell.Class iri) = ClassExpr-F.Class iri
of_layer ts (cell.And ns) = ClassExpr-F.And (map (tree_at ts) ns)
of_layer ts (cell.Or ns) = ClassExpr-F.Or (map (tree_at ts) ns)
of_layer ts (cell.Not n) = ClassExpr-F.Not (tree_at ts n)
of_layer ts (cell.Some r n) = ClassExpr-F.Some r (tree_at ts n)
of_layer ts (cell.All r n) = ClassExpr-F.All r (tree_at ts n)
of_layer ts (cell.Min k r n) = ClassExpr-F.Min k r (tree_at ts n)
of_layer ts (cell.Max k r n) = ClassExpr-F.Max k r (tree_at ts n)
of_layer ts (cell.Exact k r n) = ClassExpr-F.Exact k r (tree_at ts n)

layer_is : (ts : List ClassExpr) (c : Cell) → out-ClassExpr (tree_of ts c) ≡ of_layer ts c
unfolding of_layer tree_of roll-ClassExpr denote.Hole.Carrier.roll
layer_is ts cell.Thing = out-roll-ClassExpr ClassExpr-F.Thing
layer_is ts cell.Nothing = out-roll-ClassExpr ClassExpr-F.Nothing
layer_is ts (cell.Class iri) = out-roll-ClassExpr (ClassExpr-F.Class iri)
layer_is ts (cell.And ns) = out-roll-ClassExpr (ClassExpr-F.And (map (tree_at ts) ns))
layer_is ts (cell.Or ns) = out-roll-ClassExpr (ClassExpr-F.Or (map (tree_at ts) ns))
layer_is ts (cell.Not n) = out-roll-ClassExpr (ClassExpr-F.Not (tree_at ts n))
layer_is ts (cell.Some r n) = out-roll-ClassExpr (ClassExpr-F.Some r (tree_at ts n))
layer_is ts (cell.All r n) = out-roll-ClassExpr (ClassExpr-F.All r (tree_at ts n))
layer_is ts (cell.Min k r n) = out-roll-ClassExpr (ClassExpr-F.Min k r (tree_at ts n))
layer_is ts (cell.Max k r n) = out-roll-ClassExpr (ClassExpr-F.Max k r (tree_at ts n))
layer_is ts (cell.Exact k r n) = out-roll-ClassExpr (ClassExpr-F.Exact k r (tree_at ts n))

-- the cell of an intersection
and_layer : (ts : List ClassExpr) (c : Cell) (es : List ClassExpr) → and_in (of_layer ts c) ≡ Some es → (ns : List Node) × (c ≡ cell.And ns) × (map (tree_at ts) ns ≡ es)
unfolding of_layer and_in
and_layer ts cell.Thing es h = absurd cc
and_layer ts cell.Nothing es h = absurd cc
and_layer ts (cell.Class iri) es h = absurd cc
and_layer ts (cell.And ns) es h = (ns, refl, cc)
and_layer ts (cell.Or ns) es h = absurd cc
and_layer ts (cell.Not n) es h = absurd cc
and_layer ts (cell.Some r n) es h = absurd cc
and_layer ts (cell.All r n) es h = absurd cc
and_layer ts (cell.Min k r n) es h = absurd cc
and_layer ts (cell.Max k r n) es h = absurd cc
and_layer ts (cell.Exact k r n) es h = absurd cc

pub and_cell : (ts : List ClassExpr) (c : Cell) (es : List ClassExpr) → tree_of ts c ≡ expr.And es → (ns : List Node) × (c ≡ cell.And ns) × (map (tree_at ts) ns ≡ es)
unfolding and_in roll-ClassExpr denote.Hole.Carrier.roll
and_cell ts c es h = and_layer ts c es (ap and_in (sym (layer_is ts c)) ∙ ap (λ t. and_in (out-ClassExpr t)) h ∙ ap and_in (out-roll-ClassExpr (ClassExpr-F.And es)))

-- the cell of a restriction
first_or : List ℕ → Option (List ℕ × ClassExpr) → List ℕ
first_or r None = r
first_or r (Some p) = p.0

second_or : ClassExpr → Option (List ℕ × ClassExpr) → ClassExpr
second_or e None = e
second_or e (Some p) = p.1

some_layer : (ts : List ClassExpr) (c : Cell) (r : List ℕ) (e : ClassExpr) → some_in (of_layer ts c) ≡ Some (r, e) → (n : Node) × (c ≡ cell.Some r n) × (tree_at ts n ≡ e)
unfolding of_layer some_in first_or second_or
some_layer ts cell.Thing r e h = absurd cc
some_layer ts cell.Nothing r e h = absurd cc
some_layer ts (cell.Class iri) r e h = absurd cc
some_layer ts (cell.And ns) r e h = absurd cc
some_layer ts (cell.Or ns) r e h = absurd cc
some_layer ts (cell.Not n) r e h = absurd cc
some_layer ts (cell.Some s n) r e h = (n, ap (λ o. cell.Some (first_or r o) n) h, ap (second_or e) h)
some_layer ts (cell.All s n) r e h = absurd cc
some_layer ts (cell.Min k s n) r e h = absurd cc
some_layer ts (cell.Max k s n) r e h = absurd cc
some_layer ts (cell.Exact k s n) r e h = absurd cc

pub some_cell : (ts : List ClassExpr) (c : Cell) (r : List ℕ) (e : ClassExpr) → tree_of ts c ≡ expr.Some r e → (n : Node) × (c ≡ cell.Some r n) × (tree_at ts n ≡ e)
unfolding some_in roll-ClassExpr denote.Hole.Carrier.roll
some_cell ts c r e h = some_layer ts c r e (ap some_in (sym (layer_is ts c)) ∙ ap (λ t. some_in (out-ClassExpr t)) h ∙ ap some_in (out-roll-ClassExpr (ClassExpr-F.Some r e)))

-- ---- what a shape tells of its cell

pub and_shape : (numbers : List ℕ) (roles : List (List ℕ)) (c : Cell) → shape_in numbers roles c ≡ shape.And → (ns : List Node) × (c ≡ cell.And ns)
unfolding shape_in
and_shape numbers roles cell.Thing h = absurd cc
and_shape numbers roles cell.Nothing h = absurd cc
and_shape numbers roles (cell.Class iri) h = absurd cc
and_shape numbers roles (cell.And ns) h = (ns, refl)
and_shape numbers roles (cell.Or ns) h = absurd cc
and_shape numbers roles (cell.Not n) h = absurd cc
and_shape numbers roles (cell.Some r n) h = absurd cc
and_shape numbers roles (cell.All r n) h = absurd cc
and_shape numbers roles (cell.Min k r n) h = absurd cc
and_shape numbers roles (cell.Max k r n) h = absurd cc
and_shape numbers roles (cell.Exact k r n) h = absurd cc

pub some_shape : (numbers : List ℕ) (roles : List (List ℕ)) (c : Cell) (r d : ℕ) → shape_in numbers roles c ≡ shape.Some r d → (role : List ℕ) × (n : Node) × (c ≡ cell.Some role n) × (r ≡ role_of roles role) × (d ≡ number_of numbers n)
unfolding shape_in
some_shape numbers roles cell.Thing r d h = absurd cc
some_shape numbers roles cell.Nothing r d h = absurd cc
some_shape numbers roles (cell.Class iri) r d h = absurd cc
some_shape numbers roles (cell.And ns) r d h = absurd cc
some_shape numbers roles (cell.Or ns) r d h = absurd cc
some_shape numbers roles (cell.Not n) r d h = absurd cc
some_shape numbers roles (cell.Some role n) r d h = (role, n, refl, cc, cc)
some_shape numbers roles (cell.All role n) r d h = absurd cc
some_shape numbers roles (cell.Min k role n) r d h = absurd cc
some_shape numbers roles (cell.Max k role n) r d h = absurd cc
some_shape numbers roles (cell.Exact k role n) r d h = absurd cc

-- what has operands is an intersection
pub operands_cell : (numbers : List ℕ) (c : Cell) (x : ℕ) (xs : List ℕ) → operands_in numbers c ≡ x ∷ xs → (ns : List Node) × (c ≡ cell.And ns)
unfolding operands_in
operands_cell numbers cell.Thing x xs h = absurd cc
operands_cell numbers cell.Nothing x xs h = absurd cc
operands_cell numbers (cell.Class iri) x xs h = absurd cc
operands_cell numbers (cell.And ns) x xs h = (ns, refl)
operands_cell numbers (cell.Or ns) x xs h = absurd cc
operands_cell numbers (cell.Not n) x xs h = absurd cc
operands_cell numbers (cell.Some r n) x xs h = absurd cc
operands_cell numbers (cell.All r n) x xs h = absurd cc
operands_cell numbers (cell.Min k r n) x xs h = absurd cc
operands_cell numbers (cell.Max k r n) x xs h = absurd cc
operands_cell numbers (cell.Exact k r n) x xs h = absurd cc

-- ---- of an intersection and of a restriction

pub shape_and : (numbers : List ℕ) (roles : List (List ℕ)) (ns : List Node) → shape_in numbers roles (cell.And ns) ≡ shape.And
unfolding shape_in
shape_and numbers roles ns = refl

pub operands_and : (numbers : List ℕ) (ns : List Node) → operands_in numbers (cell.And ns) ≡ map (number_of numbers) ns
unfolding operands_in
operands_and numbers ns = refl

pub shape_some : (numbers : List ℕ) (roles : List (List ℕ)) (r : List ℕ) (n : Node) → shape_in numbers roles (cell.Some r n) ≡ shape.Some (role_of roles r) (number_of numbers n)
unfolding shape_in
shape_some numbers roles r n = refl

pub role_some : (r : List ℕ) (n : Node) → role_in (cell.Some r n) ≡ r ∷ []
unfolding role_in
role_some r n = refl

pub tree_and : (ts : List ClassExpr) (ns : List Node) → tree_of ts (cell.And ns) ≡ expr.And (map (tree_at ts) ns)
unfolding tree_of
tree_and ts ns = refl

pub tree_some : (ts : List ClassExpr) (r : List ℕ) (n : Node) → tree_of ts (cell.Some r n) ≡ expr.Some r (tree_at ts n)
unfolding tree_of
tree_some ts r n = refl

pub nodes_and : (ns : List Node) → nodes_of (cell.And ns) ≡ ns
unfolding nodes_of
nodes_and ns = refl

pub nodes_some : (r : List ℕ) (n : Node) → nodes_of (cell.Some r n) ≡ n ∷ []
unfolding nodes_of
nodes_some r n = refl
