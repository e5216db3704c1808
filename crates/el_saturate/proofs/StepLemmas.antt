-- One expression more: its role, its shape, its operands.
use Rattle.std.proofs.Common.{◌≡◌, ℕ, ◌+◌, ◌<◌, ◌≤◌, List, [], ◌∷◌, ◌++◌, Some, inl, inr, length, map, slice_get, suc, take, refl, sym, ap, subst, ◌∙◌, arith}
use Rattle.fact_rows.specs.Member.{In, NoRepeats, here}
use Rattle.fact_rows.proofs.Members.{in_none, in_one, in_parts}
use Rattle.fact_rows.proofs.Places.{in_from_get}
use Rattle.indexmap.specs.IndexSet.{insert_all}
use Rattle.owl_axioms.specs.declared.expr.ClassExpr.{ClassExpr}
use Rattle.owl_axioms.specs.declared.expr.ClassExpr.TheVariants as expr
use Rattle.expr_pool.proofs.Lists.{map_get, map_snoc}
use Rattle.expr_pool.proofs.PartLemmas.{all_in}
use Rattle.std.proofs.lemmas.Option.{get_or_from_slice_get}
use Rattle.expr_pool.specs.Pool.{IsBefore, nodes_of, tree_at, tree_of}
use Rattle.expr_pool.specs.declared.cell.Cell.{Cell}
use Rattle.expr_pool.specs.declared.cell.Node.{Node}
use Rattle.el_numbers.specs.declared.part.Shape.{Shape}
use Rattle.el_part.specs.Part.{FitsPool, PartState}
use Rattle.el_saturate.proofs.CellLemmas.{role_some, some_cell}
use Rattle.el_saturate.proofs.NumberLemmas.{take_all, take_more}
use Rattle.el_saturate.proofs.RoleLemmas.{Iris, all_added}
use Rattle.el_saturate.specs.inner.Numbers.{AreShapes, HasRestrictions, HasRoles, operands_in, role_in, same_iri, shape_in}

pub node_within : (trees : List ClassExpr) (part : PartState) (i : ℕ) (n : Node) → FitsPool trees part → slice_get part.occurring i ≡ Some n → n.place < length trees
node_within trees part i n fits at = fits.within n (in_from_get part.occurring i n at)

expr_here : (trees : List ClassExpr) (nodes : List Node) (i : ℕ) (n : Node) (c : Cell) → slice_get nodes i ≡ Some n → slice_get trees n.place ≡ Some (tree_of trees c) → slice_get (map (tree_at trees) nodes) i ≡ Some (tree_of trees c)
expr_here trees nodes i n c at is = map_get (tree_at trees) nodes i n at ∙ ap Some (get_or_from_slice_get trees n.place (tree_of trees c) expr.Thing is)

pub long_map : (trees : List ClassExpr) (ns : List Node) → length (map (tree_at trees) ns) ≡ length ns
long_map trees [] = refl
long_map trees (n ∷ ns) = ap suc (long_map trees ns)

-- the role of a restriction more
pub restriction_next : (trees : List ClassExpr) (nodes : List Node) (i : ℕ) (n : Node) (c : Cell) (old new wanted : Iris) → slice_get nodes i ≡ Some n → slice_get trees n.place ≡ Some (tree_of trees c) → NoRepeats old → HasRoles old wanted → HasRestrictions (take i (map (tree_at trees) nodes)) old → new ≡ insert_all same_iri old (role_in c) → NoRepeats new × HasRoles new wanted × HasRestrictions (take (i + 1) (map (tree_at trees) nodes)) new
restriction_next trees nodes i n c old new wanted at is once has restrictions new_is =
    let added = all_added (role_in c) old once in (
      subst NoRepeats (sym new_is) added.once,
      λ r k. subst (In r) (sym new_is) (added.kept r (has r k)),
      λ r d k. subst (In r) (sym new_is) (elim (in_parts (take i (map (tree_at trees) nodes)) (subst (In (expr.Some r d)) (take_more (map (tree_at trees) nodes) i (tree_of trees c) (expr_here trees nodes i n c at is)) k)) [
        | inl j ↦ added.kept r (restrictions r d j)
        | inr j ↦
            let s = some_cell trees c r d (sym (in_one j)) in
            added.has r (subst (In r) (sym (ap role_in s.1 ∙ role_some r s.0)) here)
      ]),
    )

pub restrictions_done : (trees : List ClassExpr) (nodes : List Node) (i : ℕ) (roles : Iris) → length nodes ≤ i → HasRestrictions (take i (map (tree_at trees) nodes)) roles → HasRestrictions (map (tree_at trees) nodes) roles
restrictions_done trees nodes i roles l has = subst (λ es. HasRestrictions es roles) (take_all i (map (tree_at trees) nodes) (let e = long_map trees nodes in omega (arith, l, e))) has

pub shapes_none : (trees : List ClassExpr) (numbers : List ℕ) (roles : Iris) (shapes : List Shape) (operands : List (List ℕ)) → shapes ≡ [] → operands ≡ [] → AreShapes trees [] numbers roles shapes operands
shapes_none trees numbers roles shapes operands s o = record { cells = []; are = refl; within = λ c i. in_none i; shaped = s; operated = o }

-- the shape and the operands of one expression more
pub shapes_next : (trees : List ClassExpr) (nodes : List Node) (i : ℕ) (n : Node) (c : Cell) (numbers : List ℕ) (roles : Iris) (shapes more : List Shape) (operands rows : List (List ℕ)) → slice_get nodes i ≡ Some n → n.place < length trees → slice_get trees n.place ≡ Some (tree_of trees c) → IsBefore n.place c → AreShapes trees (take i (map (tree_at trees) nodes)) numbers roles shapes operands → more ≡ shapes ++ shape_in numbers roles c ∷ [] → rows ≡ operands ++ operands_in numbers c ∷ [] → AreShapes trees (take (i + 1) (map (tree_at trees) nodes)) numbers roles more rows
shapes_next trees nodes i n c numbers roles shapes more operands rows at within is before are more_is rows_is = record {
  cells = are.cells ++ c ∷ [];
  are = map_snoc (tree_of trees) are.cells c ∙ ap (λ l. l ++ tree_of trees c ∷ []) are.are ∙ sym (take_more (map (tree_at trees) nodes) i (tree_of trees c) (expr_here trees nodes i n c at is));
  within = λ d k m j. elim (in_parts are.cells k) [
    | inl l ↦ are.within d l m j
    | inr l ↦ let b : m.place < n.place = all_in n.place (nodes_of c) m before (subst (λ x. In m (nodes_of x)) (in_one l) j) in omega (arith, b, within)
  ];
  shaped = more_is ∙ ap (λ l. l ++ shape_in numbers roles c ∷ []) are.shaped ∙ sym (map_snoc (shape_in numbers roles) are.cells c);
  operated = rows_is ∙ ap (λ l. l ++ operands_in numbers c ∷ []) are.operated ∙ sym (map_snoc (operands_in numbers) are.cells c);
}

pub shapes_done : (trees : List ClassExpr) (nodes : List Node) (i : ℕ) (numbers : List ℕ) (roles : Iris) (shapes : List Shape) (operands : List (List ℕ)) → length nodes ≤ i → AreShapes trees (take i (map (tree_at trees) nodes)) numbers roles shapes operands → AreShapes trees (map (tree_at trees) nodes) numbers roles shapes operands
shapes_done trees nodes i numbers roles shapes operands l are = subst (λ es. AreShapes trees es numbers roles shapes operands) (take_all i (map (tree_at trees) nodes) (let e = long_map trees nodes in omega (arith, l, e))) are
