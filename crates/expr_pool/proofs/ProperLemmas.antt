-- The operands of a proper group rise.
use Rattle.std.proofs.Common.{◌≡◌, ◌≤◌, ℕ, true, ◌&&◌, List, [], ◌∷◌, inl, inr, suc, length, map, refl, sym, ap, subst, ◌∙◌, arith}
use Rattle.std.specs.List.{list_all}
use Rattle.std.specs.Prelude.{nat_le}
use Rattle.std.proofs.lemmas.Bool.{and_parts}
use Rattle.std.proofs.lemmas.Bool.Decides.{nat_tests}
use Rattle.owl_axioms.specs.Proper.{is_proper_expr, rises}
use Rattle.owl_axioms.specs.Text.{expr_text}
use Rattle.owl_axioms.specs.declared.expr.ClassExpr.{ClassExpr}
use Rattle.owl_axioms.proofs.Layers.{proper_of_and, proper_of_or}
use Rattle.owl_axioms.proofs.Making.{are_proper_operands-is}
use Rattle.expr_pool.specs.Laws.{OperandsRise, Rise}
use Rattle.expr_pool.specs.Pool.{tree_at, tree_of}
use Rattle.expr_pool.specs.declared.cell.Cell.{Cell}
use Rattle.expr_pool.specs.declared.cell.Node.{Node}

texts_at : (ts : List ClassExpr) (ns : List Node) → map expr_text (map (tree_at ts) ns) ≡ map (λ n. expr_text (tree_at ts n)) ns
texts_at ts [] = refl
texts_at ts (n ∷ ns) = ap (λ texts. expr_text (tree_at ts n) ∷ texts) (texts_at ts ns)

trees_at : (ts : List ClassExpr) (ns : List Node) → length (map (tree_at ts) ns) ≡ length ns
trees_at ts [] = refl
trees_at ts (n ∷ ns) = ap suc (trees_at ts ns)

several : (n : ℕ) → nat_le 2 n ≡ true → 2 ≤ n
several n is = grind (arith, nat_tests, is)

operands : (ts : List ClassExpr) (ns : List Node) → (nat_le 2 (length (map (tree_at ts) ns)) && rises (map expr_text (map (tree_at ts) ns)) && list_all is_proper_expr (map (tree_at ts) ns)) ≡ true → Rise ts ns
operands ts ns is =
    let outer = and_parts (nat_le 2 (length (map (tree_at ts) ns)) && rises (map expr_text (map (tree_at ts) ns))) (list_all is_proper_expr (map (tree_at ts) ns)) is in
    let inner = and_parts (nat_le 2 (length (map (tree_at ts) ns))) (rises (map expr_text (map (tree_at ts) ns))) outer.0 in
    record { several = several (length ns) (subst (λ n. nat_le 2 n ≡ true) (trees_at ts ns) inner.0); rising = subst (λ texts. rises texts ≡ true) (texts_at ts ns) inner.1 }

pub cell_rises : (ts : List ClassExpr) (c : Cell) → OperandsRise ts c
unfolding tree_of
cell_rises ts c ns (inl is) proper = operands ts ns (sym (are_proper_operands-is (map (tree_at ts) ns)) ∙ sym (proper_of_and (map (tree_at ts) ns)) ∙ subst (λ d. is_proper_expr (tree_of ts d) ≡ true) is proper)
cell_rises ts c ns (inr is) proper = operands ts ns (sym (are_proper_operands-is (map (tree_at ts) ns)) ∙ sym (proper_of_or (map (tree_at ts) ns)) ∙ subst (λ d. is_proper_expr (tree_of ts d) ≡ true) is proper)
