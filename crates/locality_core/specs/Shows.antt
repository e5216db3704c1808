-- What a look at a tree shows of the expression that it stands for. (Own.)
use Rattle.std.specs.Prelude.{◌≡◌, ℕ, List, [], length, slice_get}
use Rattle.std.specs.declared.option.Option.TheVariants as option
use Rattle.owl_axioms.specs.declared.expr.ClassExpr.{ClassExpr, out-ClassExpr}
use Rattle.owl_axioms.specs.declared.expr.ClassExpr.TheOpen as layer
use Rattle.owl_axioms.specs.declared.expr.ClassExpr.TheOpen.{ClassExpr-F}
use Rattle.locality_core.specs.declared.forest.Look.{Look}
use Rattle.locality_core.specs.declared.forest.Look.TheVariants as look

-- the operands of an intersection or a union
abbrev pub operands_of : ClassExpr-F ClassExpr → List ClassExpr
operands_of (layer.And cs) = cs
operands_of (layer.Or cs) = cs
operands_of _ = []

-- those of an expression, their number, and the one at a place
unfoldable pub operands : ClassExpr → List ClassExpr
operands c = operands_of (out-ClassExpr c)

unfoldable pub operand_count : ClassExpr → ℕ
operand_count c = length (operands c)

unfoldable pub IsOperand : ClassExpr → ℕ → ClassExpr → Type 0
IsOperand c at d = slice_get (operands c) at ≡ option.Some d

-- the constructor is that of the expression, with its names and numbers, and each part is in the forest and stands for that
-- part of the expression
abbrev pub Shows : {T : Type 0} → (T → Type 0) → (T → ClassExpr) → ClassExpr → Look T → Type 0
Shows has stands c look.Thing = out-ClassExpr c ≡ layer.Thing
Shows has stands c look.Nothing = out-ClassExpr c ≡ layer.Nothing
Shows has stands c (look.Class a) = out-ClassExpr c ≡ layer.Class a.now
Shows has stands c (look.And n) = (cs : List ClassExpr) × (out-ClassExpr c ≡ layer.And cs) × (n ≡ length cs)
Shows has stands c (look.Or n) = (cs : List ClassExpr) × (out-ClassExpr c ≡ layer.Or cs) × (n ≡ length cs)
Shows has stands c (look.Not t) = has t × (out-ClassExpr c ≡ layer.Not (stands t))
Shows has stands c (look.Some r t) = has t × (out-ClassExpr c ≡ layer.Some r.now (stands t))
Shows has stands c (look.All r t) = has t × (out-ClassExpr c ≡ layer.All r.now (stands t))
Shows has stands c (look.Min n r t) = has t × (out-ClassExpr c ≡ layer.Min n r.now (stands t))
Shows has stands c (look.Max n r t) = has t × (out-ClassExpr c ≡ layer.Max n r.now (stands t))
Shows has stands c (look.Exact n r t) = has t × (out-ClassExpr c ≡ layer.Exact n r.now (stands t))
