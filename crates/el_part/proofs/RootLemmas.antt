-- The nodes of named classes, one after the other.
use Rattle.std.proofs.Common.{◌≡◌, ℕ, ◌+◌, List, [], ◌∷◌, ◌++◌, suc, Some, map, slice_get, take, refl, sym, ap, ◌∙◌, arith}
use Rattle.std.proofs.lemmas.Grind.{flat_map-append}
use Rattle.owl_axioms.proofs.Adding.{take_suc}
use Rattle.owl_axioms.specs.declared.body.Axiom.{Axiom}
use Rattle.owl_axioms.specs.declared.expr.ClassExpr.{ClassExpr}
use Rattle.owl_axioms.specs.declared.expr.ClassExpr.TheVariants as expr
use Rattle.expr_pool.proofs.Lists.{get_grown}
use Rattle.expr_pool.proofs.PoolLemmas.{stand_more}
use Rattle.expr_pool.specs.Pool.{Grew, stand}
use Rattle.expr_pool.specs.declared.cell.Node.{Node}
use Rattle.el_part.specs.Part.{IsNodeOf}
use Rattle.el_part.specs.inner.Made.{declared_in, named_trees}

pub two_stand : (mid new : List ClassExpr) (x y : Node) (c d : ClassExpr) (nodes : List Node) → Grew mid new → IsNodeOf mid x c → IsNodeOf new y d → nodes ≡ x ∷ y ∷ [] → stand new nodes ≡ map Some (c ∷ d ∷ [])
two_stand mid new x y c d nodes g h k e =
    let first : slice_get new x.place ≡ Some c = get_grown mid new x.place c g h in
    ap (stand new) e ∙ (λ i. first i ∷ k i ∷ [])

map_append : {X Y : Type 0} (f : X → Y) (xs ys : List X) → map f (xs ++ ys) ≡ map f xs ++ map f ys
map_append f [] ys = refl
map_append f (x ∷ xs) ys = ap (λ l. f x ∷ l) (map_append f xs ys)

append_none : {X : Type 0} (xs : List X) → xs ++ [] ≡ xs
append_none [] = refl
append_none (x ∷ xs) = ap (λ l. x ∷ l) (append_none xs)

pub named_next : (old new : List ClassExpr) (roots more : List Node) (axioms : List Axiom) (i : ℕ) (a : Axiom) → Grew old new → stand old roots ≡ map Some (named_trees (take i axioms)) → stand new more ≡ map Some (declared_in a.body) → slice_get axioms i ≡ Some a → stand new (roots ++ more) ≡ map Some (named_trees (take (i + 1) axioms))
named_next old new roots more axioms i a g s t at =
    let next : suc i ≡ i + 1 = omega arith in
    let said : named_trees (take (i + 1) axioms) ≡ named_trees (take i axioms) ++ (declared_in a.body ++ []) =
    sym (ap (λ n. named_trees (take n axioms)) next) ∙ ap named_trees (take_suc axioms i a at) ∙ ap (λ l. expr.Thing ∷ expr.Nothing ∷ l) (flat_map-append (λ (x : Axiom). declared_in x.body) (take i axioms) (a ∷ [])) in
    let front : stand new roots ≡ map Some (named_trees (take i axioms)) = stand_more old new roots (named_trees (take i axioms)) g s in
    map_append (λ (n : Node). slice_get new n.place) roots more ∙ (λ k. front k ++ t k)
    ∙ sym (map_append (λ (x : ClassExpr). Some x) (named_trees (take i axioms)) (declared_in a.body))
    ∙ sym (ap (map Some) (said ∙ ap (λ l. named_trees (take i axioms) ++ l) (append_none (declared_in a.body))))
