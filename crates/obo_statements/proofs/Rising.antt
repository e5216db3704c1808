-- The operands of a proper group rise.
use Rattle.std.proofs.Common.{◌≡◌, ◌<◌, Bool, true, false, ◌&&◌, List, [], ◌∷◌, map, length, Some, refl, sym, ap, subst, ◌∙◌, arith}
use Rattle.std.specs.List.{list_all}
use Rattle.std.specs.Prelude.{nat_le}
use Rattle.std.proofs.lemmas.Bool.{and_parts}
use Rattle.std.proofs.lemmas.Option.{none-some, same_Some}
use Rattle.owl_axioms.specs.Proper.{are_proper_operands, is_proper_expr, proper_step, rises}
use Rattle.owl_axioms.specs.Text.{expr_text}
use Rattle.owl_axioms.specs.declared.expr.ClassExpr.{ClassExpr}
use Rattle.owl_axioms.specs.declared.expr.ClassExpr.TheOpen.{ClassExpr-F}
use Rattle.owl_axioms.specs.declared.expr.ClassExpr.TheFolds.{para-roll-ClassExpr}
use Rattle.owl_axioms.specs.declared.expr.ClassExpr.TheViews.{out-ClassExpr, roll-ClassExpr, roll-out-ClassExpr}
use Rattle.text_sets.specs.Sorted.{Rises}
use Rattle.obo_statements.specs.Groups.{Group, group_operands, intersection, operands_in, union}
use Rattle.obo_statements.proofs.GroupLaws.{Rises-from_test}

abbrev Tested : ClassExpr → ClassExpr × Bool
Tested e = (e, is_proper_expr e)

texts_of : (es : List ClassExpr) → map (λ (p : ClassExpr × Bool). expr_text p.0) (map Tested es) ≡ map expr_text es
texts_of [] = refl
texts_of (e ∷ es) = ap (λ xs. expr_text e ∷ xs) (texts_of es)

rising_operands : (es : List ClassExpr) → are_proper_operands (map Tested es) ≡ true → Rises expr_text es × (0 < length es)
unfolding are_proper_operands
rising_operands es is =
    let outer = and_parts (nat_le 2 (length (map Tested es)) && rises (map (λ (p : ClassExpr × Bool). expr_text p.0) (map Tested es))) (list_all (λ (p : ClassExpr × Bool). p.1) (map Tested es)) is in
    let inner = and_parts (nat_le 2 (length (map Tested es))) (rises (map (λ (p : ClassExpr × Bool). expr_text p.0) (map Tested es))) outer.0 in
    (Rises-from_test expr_text es (subst (λ xs. rises xs ≡ true) (texts_of es) inner.1), some es inner.0)
  where
    some : (es : List ClassExpr) → nat_le 2 (length (map Tested es)) ≡ true → 0 < length es
    some [] two = let h : false ≡ true = two in absurd (cc)
    some (e ∷ es) two = omega arith

layer_rises : (g : Group) (layer : ClassExpr-F ClassExpr) (es : List ClassExpr) → operands_in g layer ≡ Some es → is_proper_expr (roll-ClassExpr layer) ≡ true → Rises expr_text es × (0 < length es)
unfolding is_proper_expr proper_step
layer_rises intersection (ClassExpr-F.And all) es is proper =
    subst (λ xs. Rises expr_text xs × (0 < length xs)) (same_Some all es is) (rising_operands all (sym (para-roll-ClassExpr Bool proper_step (ClassExpr-F.And all)) ∙ proper))
layer_rises union (ClassExpr-F.Or all) es is proper =
    subst (λ xs. Rises expr_text xs × (0 < length xs)) (same_Some all es is) (rising_operands all (sym (para-roll-ClassExpr Bool proper_step (ClassExpr-F.Or all)) ∙ proper))
layer_rises _ _ es is proper = absurd (none-some es is)

pub group_rises : (g : Group) (whole : ClassExpr) (es : List ClassExpr) → group_operands g whole ≡ Some es → is_proper_expr whole ≡ true → Rises expr_text es × (0 < length es)
group_rises g whole es is proper = layer_rises g (out-ClassExpr whole) es is (subst (λ e. is_proper_expr e ≡ true) (sym (roll-out-ClassExpr whole)) proper)
