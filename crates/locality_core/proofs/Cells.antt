-- What the cell of a node says of its tree.
use Rattle.std.proofs.Common.{◌≡◌, ℕ, ◌<◌, ◌&&◌, true, List, [], ◌∷◌, ◌∙◌, Some, length, map, nat_lt, slice_get, refl, sym, ap, subst, arith}
use Rattle.std.specs.List.{list_all}
use Rattle.std.proofs.lemmas.Option.{get_or_from_slice_get}
use Rattle.owl_axioms.specs.declared.expr.ClassExpr.{ClassExpr}
use Rattle.owl_axioms.specs.declared.expr.ClassExpr.TheOpen.{ClassExpr-F}
use Rattle.owl_axioms.specs.declared.expr.ClassExpr.TheViews.{out-ClassExpr, out-roll-ClassExpr, roll-ClassExpr}
use Rattle.expr_pool.proofs.Lists.{all_at, and_true, lt_from, map_get}
use Rattle.locality_core.proofs.Operands.{length_map}
use Rattle.locality_core.specs.Shows.{IsOperand, operand_count, operands, operands_of}
use Rattle.expr_pool.specs.Pool.{IsBefore, nodes_of, tree_at, tree_of}
use Rattle.expr_pool.specs.declared.cell.Cell.{Cell}
use Rattle.expr_pool.specs.declared.cell.Cell.TheVariants as cell
use Rattle.expr_pool.specs.declared.cell.Node.{Node}

-- the layer of a cell, whose nodes stand for these trees
unfoldable pub layer_of : List ClassExpr → Cell → ClassExpr-F ClassExpr
layer_of ts cell.Thing = ClassExpr-F.Thing
layer_of ts cell.Nothing = ClassExpr-F.Nothing
layer_of ts (cell.Class iri) = ClassExpr-F.Class iri
layer_of ts (cell.And ns) = ClassExpr-F.And (map (tree_at ts) ns)
layer_of ts (cell.Or ns) = ClassExpr-F.Or (map (tree_at ts) ns)
layer_of ts (cell.Not n) = ClassExpr-F.Not (tree_at ts n)
layer_of ts (cell.Some r n) = ClassExpr-F.Some r (tree_at ts n)
layer_of ts (cell.All r n) = ClassExpr-F.All r (tree_at ts n)
layer_of ts (cell.Min k r n) = ClassExpr-F.Min k r (tree_at ts n)
layer_of ts (cell.Max k r n) = ClassExpr-F.Max k r (tree_at ts n)
layer_of ts (cell.Exact k r n) = ClassExpr-F.Exact k r (tree_at ts n)

pub out_of : (ts : List ClassExpr) (c : Cell) → out-ClassExpr (tree_of ts c) ≡ layer_of ts c
unfolding layer_of tree_of roll-ClassExpr denote.Hole.Carrier.roll
out_of ts cell.Thing = out-roll-ClassExpr ClassExpr-F.Thing
out_of ts cell.Nothing = out-roll-ClassExpr ClassExpr-F.Nothing
out_of ts (cell.Class iri) = out-roll-ClassExpr (ClassExpr-F.Class iri)
out_of ts (cell.And ns) = out-roll-ClassExpr (ClassExpr-F.And (map (tree_at ts) ns))
out_of ts (cell.Or ns) = out-roll-ClassExpr (ClassExpr-F.Or (map (tree_at ts) ns))
out_of ts (cell.Not n) = out-roll-ClassExpr (ClassExpr-F.Not (tree_at ts n))
out_of ts (cell.Some r n) = out-roll-ClassExpr (ClassExpr-F.Some r (tree_at ts n))
out_of ts (cell.All r n) = out-roll-ClassExpr (ClassExpr-F.All r (tree_at ts n))
out_of ts (cell.Min k r n) = out-roll-ClassExpr (ClassExpr-F.Min k r (tree_at ts n))
out_of ts (cell.Max k r n) = out-roll-ClassExpr (ClassExpr-F.Max k r (tree_at ts n))
out_of ts (cell.Exact k r n) = out-roll-ClassExpr (ClassExpr-F.Exact k r (tree_at ts n))

module _ (ts : List ClassExpr) (n : Node) (c : Cell) (here : slice_get ts n.place ≡ Some (tree_of ts c)) where
  pub tree_is : tree_at ts n ≡ tree_of ts c
  tree_is = get_or_from_slice_get ts n.place (tree_of ts c) _ here

  pub out_at : (d : Cell) → c ≡ d → out-ClassExpr (tree_at ts n) ≡ layer_of ts d
  out_at d is = ap out-ClassExpr tree_is ∙ out_of ts c ∙ ap (layer_of ts) is

module _ (ts : List ClassExpr) (n : Node) (c : Cell) (here : slice_get ts n.place ≡ Some (tree_of ts c)) where
  pub at_thing : c ≡ cell.Thing → out-ClassExpr (tree_at ts n) ≡ ClassExpr-F.Thing
  unfolding layer_of
  at_thing is = out_at ts n c here cell.Thing is

  pub at_nothing : c ≡ cell.Nothing → out-ClassExpr (tree_at ts n) ≡ ClassExpr-F.Nothing
  unfolding layer_of
  at_nothing is = out_at ts n c here cell.Nothing is

  pub at_class : (iri : List ℕ) → c ≡ cell.Class iri → out-ClassExpr (tree_at ts n) ≡ ClassExpr-F.Class iri
  unfolding layer_of
  at_class iri is = out_at ts n c here (cell.Class iri) is

  pub at_and : (ns : List Node) → c ≡ cell.And ns → out-ClassExpr (tree_at ts n) ≡ ClassExpr-F.And (map (tree_at ts) ns)
  unfolding layer_of
  at_and ns is = out_at ts n c here (cell.And ns) is

  pub at_or : (ns : List Node) → c ≡ cell.Or ns → out-ClassExpr (tree_at ts n) ≡ ClassExpr-F.Or (map (tree_at ts) ns)
  unfolding layer_of
  at_or ns is = out_at ts n c here (cell.Or ns) is

  pub at_not : (m : Node) → c ≡ cell.Not m → out-ClassExpr (tree_at ts n) ≡ ClassExpr-F.Not (tree_at ts m)
  unfolding layer_of
  at_not m is = out_at ts n c here (cell.Not m) is

  pub at_some : (r : List ℕ) (m : Node) → c ≡ cell.Some r m → out-ClassExpr (tree_at ts n) ≡ ClassExpr-F.Some r (tree_at ts m)
  unfolding layer_of
  at_some r m is = out_at ts n c here (cell.Some r m) is

  pub at_all : (r : List ℕ) (m : Node) → c ≡ cell.All r m → out-ClassExpr (tree_at ts n) ≡ ClassExpr-F.All r (tree_at ts m)
  unfolding layer_of
  at_all r m is = out_at ts n c here (cell.All r m) is

  pub at_min : (k : ℕ) (r : List ℕ) (m : Node) → c ≡ cell.Min k r m → out-ClassExpr (tree_at ts n) ≡ ClassExpr-F.Min k r (tree_at ts m)
  unfolding layer_of
  at_min k r m is = out_at ts n c here (cell.Min k r m) is

  pub at_max : (k : ℕ) (r : List ℕ) (m : Node) → c ≡ cell.Max k r m → out-ClassExpr (tree_at ts n) ≡ ClassExpr-F.Max k r (tree_at ts m)
  unfolding layer_of
  at_max k r m is = out_at ts n c here (cell.Max k r m) is

  pub at_exact : (k : ℕ) (r : List ℕ) (m : Node) → c ≡ cell.Exact k r m → out-ClassExpr (tree_at ts n) ≡ ClassExpr-F.Exact k r (tree_at ts m)
  unfolding layer_of
  at_exact k r m is = out_at ts n c here (cell.Exact k r m) is

-- ---- the nodes of a cell come before it

module _ (place bound : ℕ) (c : Cell) (before : IsBefore place c) (within : place < bound) where
  one_before : (d : Cell) (m : Node) → c ≡ d → nodes_of d ≡ m ∷ [] → m.place < bound
  one_before d m is only =
      let b : (nat_lt m.place place && true) ≡ true = sym (ap (list_all (λ n. nat_lt n.place place)) (ap nodes_of is ∙ only)) ∙ before in
      let l : m.place < place = lt_from m.place place (and_true (nat_lt m.place place) b) in
      omega arith

  pub not_before : (m : Node) → c ≡ cell.Not m → m.place < bound
  unfolding nodes_of
  not_before m is = one_before (cell.Not m) m is refl

  pub some_before : (r : List ℕ) (m : Node) → c ≡ cell.Some r m → m.place < bound
  unfolding nodes_of
  some_before r m is = one_before (cell.Some r m) m is refl

  pub all_before : (r : List ℕ) (m : Node) → c ≡ cell.All r m → m.place < bound
  unfolding nodes_of
  all_before r m is = one_before (cell.All r m) m is refl

  pub min_before : (k : ℕ) (r : List ℕ) (m : Node) → c ≡ cell.Min k r m → m.place < bound
  unfolding nodes_of
  min_before k r m is = one_before (cell.Min k r m) m is refl

  pub max_before : (k : ℕ) (r : List ℕ) (m : Node) → c ≡ cell.Max k r m → m.place < bound
  unfolding nodes_of
  max_before k r m is = one_before (cell.Max k r m) m is refl

  pub exact_before : (k : ℕ) (r : List ℕ) (m : Node) → c ≡ cell.Exact k r m → m.place < bound
  unfolding nodes_of
  exact_before k r m is = one_before (cell.Exact k r m) m is refl

  -- one of the nodes of a cell
  pub node_before : (ns : List Node) (at : ℕ) (m : Node) → nodes_of c ≡ ns → slice_get ns at ≡ Some m → m.place < bound
  node_before ns at m is here =
      let b : nat_lt m.place place ≡ true = all_at (λ (k : Node). nat_lt k.place place) ns at m (sym (ap (list_all (λ n. nat_lt n.place place)) is) ∙ before) here in
      let l : m.place < place = lt_from m.place place b in
      omega arith

-- ---- the operands of a cell

operands_layer : (ts : List ClassExpr) (d : Cell) (at : ℕ) → at < length (operands_of (layer_of ts d)) → operands_of (layer_of ts d) ≡ map (tree_at ts) (nodes_of d)
unfolding layer_of nodes_of
operands_layer ts cell.Thing at l = absurd (omega arith)
operands_layer ts cell.Nothing at l = absurd (omega arith)
operands_layer ts (cell.Class iri) at l = absurd (omega arith)
operands_layer ts (cell.And ns) at l = refl
operands_layer ts (cell.Or ns) at l = refl
operands_layer ts (cell.Not n) at l = absurd (omega arith)
operands_layer ts (cell.Some r n) at l = absurd (omega arith)
operands_layer ts (cell.All r n) at l = absurd (omega arith)
operands_layer ts (cell.Min k r n) at l = absurd (omega arith)
operands_layer ts (cell.Max k r n) at l = absurd (omega arith)
operands_layer ts (cell.Exact k r n) at l = absurd (omega arith)

module _ (ts : List ClassExpr) (n : Node) (c : Cell) (here : slice_get ts n.place ≡ Some (tree_of ts c)) (at : ℕ) (within : at < operand_count (tree_at ts n)) where
  pub operands_at : operands (tree_at ts n) ≡ map (tree_at ts) (nodes_of c)
  unfolding operands operand_count
  operands_at =
      let is : out-ClassExpr (tree_at ts n) ≡ layer_of ts c = out_at ts n c here c refl in
      ap operands_of is ∙ operands_layer ts c at (subst (λ x. at < length (operands_of x)) is within)

  pub operand_within : (ns : List Node) → ns ≡ nodes_of c → at < length ns
  unfolding operand_count
  operand_within ns is =
      let long : length (operands (tree_at ts n)) ≡ length (nodes_of c) = ap length operands_at ∙ length_map (tree_at ts) (nodes_of c) in
      let short : length ns ≡ length (nodes_of c) = ap length is in
      omega (arith, within, long, short)

  pub operand_is : (ns : List Node) (m : Node) → ns ≡ nodes_of c → slice_get ns at ≡ Some m → IsOperand (tree_at ts n) at (tree_at ts m)
  unfolding IsOperand
  operand_is ns m is there = ap (λ xs. slice_get xs at) (operands_at ∙ ap (map (tree_at ts)) (sym is)) ∙ map_get (tree_at ts) ns at m there
