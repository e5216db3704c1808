-- What is made of proper parts is proper, and is the group of the parts given.
use Rattle.std.proofs.Common.{◌≡◌, ◌<◌, ℕ, suc, Bool, true, false, not, ◌&&◌, List, [], ◌∷◌, inl, length, map, refl, sym, ap, subst, ◌∙◌, arith, IfOk, Result, Ok, Err}
use Rattle.std.specs.List.{list_all}
use Rattle.std.specs.Ordering.{is_gt, nat_cmp, ordering_reverse}
use Rattle.std.specs.declared.cmp.Ordering.{Ordering}
use Rattle.std.specs.declared.cmp.Ordering.TheVariants.{Equal, Greater, Less}
use Rattle.std.specs.Cmp.Lexicographic.{slice_cmp}
use Rattle.std.specs.Prelude.{if◌then◌else◌, nat_le}
use Rattle.std.proofs.lemmas.Bool.{and_from, and_parts}
use Rattle.std.proofs.lemmas.Bool.Decides.{nat_tests}
use Rattle.std.proofs.lemmas.Cmp.{nat_list_cmp_total}
use Rattle.rel_io.specs.Texts.{is_clean_iri}
use Rattle.owl_axioms.specs.Made.{AreProperExprs, IsAxiomOf, IsGroup, IsProperExpr, IsSortedSet, group_or_one, is_proper_unordered, is_reversed, ordered, swapped}
use Rattle.owl_axioms.specs.Proper.{IsProper, are_proper_operands, are_proper_sides, in_order, is_proper, is_proper_body, is_proper_expr, is_proper_pair, is_proper_role_pair, is_proper_side, rises}
use Rattle.owl_axioms.specs.Text.{expr_text, iri_text, side_text}
use Rattle.owl_axioms.specs.declared.annotation.Side.{Side}
use Rattle.owl_axioms.specs.declared.body.Axiom.{Axiom}
use Rattle.owl_axioms.specs.declared.body.Body.{Body}
use Rattle.owl_axioms.specs.declared.body.Body.TheVariants as body
use Rattle.owl_axioms.specs.declared.expr.ClassExpr.{ClassExpr}
use Rattle.owl_axioms.specs.declared.expr.ClassExpr.TheVariants as expr
use Rattle.owl_axioms.proofs.Layers.{proper_of_and, proper_of_or, tested}
use Rattle.owl_axioms.proofs.Members.{Contains-in, In-contains, all_pass, passes}

-- ---- groups

pub IsGroup-one : (group : List ClassExpr → ClassExpr) (given all : List ClassExpr) (one : ClassExpr) → IsSortedSet expr_text given all → all ≡ one ∷ [] → IsGroup group given one
IsGroup-one group given all one sorted is = record { operands = one ∷ []; sorted = subst (IsSortedSet expr_text given) is sorted; is = refl }

pub IsGroup-several : (group : List ClassExpr → ClassExpr) (given all back : List ClassExpr) → IsSortedSet expr_text given all → back ≡ all → (length back ≡ 1 → ⊥) → IsGroup group given (group back)
IsGroup-several group given all back sorted is several =
    record { operands = back; sorted = subst (IsSortedSet expr_text given) (sym is) sorted; is = whole back several }
  where
    whole : (operands : List ClassExpr) → (length operands ≡ 1 → ⊥) → group operands ≡ group_or_one group operands
    whole [] several = refl
    whole (one ∷ []) several = absurd (several refl)
    whole (one ∷ two ∷ more) several = refl

-- ---- members of a sorted set

-- what each of those that were given passes, each that is kept passes
pub kept_pass : {X : Type 0} (text : X → List ℕ) (test : X → Bool) (given kept : List X) → IsSortedSet text given kept → list_all test given ≡ true → list_all test kept ≡ true
kept_pass text test given kept sorted all = all_pass test kept (λ x here. passes test x given all (In-contains x given ((sorted.same x).0 (Contains-in x kept here))))

kept_some : {X : Type 0} (text : X → List ℕ) (given kept : List X) → IsSortedSet text given kept → 0 < length given → 0 < length kept
kept_some text [] kept sorted some = absurd (omega (arith, some))
kept_some text (x ∷ given) [] sorted some = absurd (In-contains x [] ((sorted.same x).1 (Contains-in x (x ∷ given) (inl refl))))
kept_some text (x ∷ given) (y ∷ kept) sorted some = omega arith

-- ---- proper groups

texts_tested : (es : List ClassExpr) → map (λ (p : ClassExpr × Bool). expr_text p.0) (map tested es) ≡ map expr_text es
texts_tested [] = refl
texts_tested (e ∷ es) = ap (λ texts. expr_text e ∷ texts) (texts_tested es)

tests_tested : (es : List ClassExpr) → list_all (λ (p : ClassExpr × Bool). p.1) (map tested es) ≡ list_all is_proper_expr es
tests_tested [] = refl
tests_tested (e ∷ es) = ap (λ b. is_proper_expr e && b) (tests_tested es)

length_tested : (es : List ClassExpr) → length (map tested es) ≡ length es
length_tested [] = refl
length_tested (e ∷ es) = ap suc (length_tested es)

pub are_proper_operands-is : (es : List ClassExpr) → are_proper_operands (map tested es) ≡ (nat_le 2 (length es) && rises (map expr_text es) && list_all is_proper_expr es)
unfolding are_proper_operands
are_proper_operands-is es = λ i. nat_le 2 (length_tested es i) && rises (texts_tested es i) && tests_tested es i

two_or_more : (n : ℕ) → nat_le 2 (suc (suc n)) ≡ true
two_or_more n = grind (arith, nat_tests)

group_proper : (group : List ClassExpr → ClassExpr) → ((es : List ClassExpr) → is_proper_expr (group es) ≡ are_proper_operands (map tested es))
    → (es : List ClassExpr) → 0 < length es → rises (map expr_text es) ≡ true → list_all is_proper_expr es ≡ true → is_proper_expr (group_or_one group es) ≡ true
group_proper group by_parts [] some rising all = absurd (omega (arith, some))
group_proper group by_parts (one ∷ []) some rising all = (and_parts (is_proper_expr one) true all).0
group_proper group by_parts (one ∷ two ∷ more) some rising all =
    by_parts (one ∷ two ∷ more)
    ∙ are_proper_operands-is (one ∷ two ∷ more)
    ∙ and_from (nat_le 2 (length (one ∷ two ∷ more)) && rises (map expr_text (one ∷ two ∷ more))) (list_all is_proper_expr (one ∷ two ∷ more))
    (and_from (nat_le 2 (length (one ∷ two ∷ more))) (rises (map expr_text (one ∷ two ∷ more))) (two_or_more (length more)) rising) all

made_proper : (group : List ClassExpr → ClassExpr) → ((es : List ClassExpr) → is_proper_expr (group es) ≡ are_proper_operands (map tested es))
    → (given : List ClassExpr) (made : ClassExpr) → 0 < length given → AreProperExprs given → IsGroup group given made → IsProperExpr made
made_proper group by_parts given made some proper is =
    ap is_proper_expr is.is
    ∙ group_proper group by_parts is.operands (kept_some expr_text given is.operands is.sorted some) is.sorted.rising (kept_pass expr_text is_proper_expr given is.operands is.sorted proper)

pub and_proper : (given : List ClassExpr) (made : ClassExpr) → 0 < length given → AreProperExprs given → IsGroup expr.And given made → IsProperExpr made
and_proper = made_proper expr.And proper_of_and

pub or_proper : (given : List ClassExpr) (made : ClassExpr) → 0 < length given → AreProperExprs given → IsGroup expr.Or given made → IsProperExpr made
or_proper = made_proper expr.Or proper_of_or

-- ---- axioms

turned : (o p : Ordering) → o ≡ ordering_reverse p → not (not (is_gt o)) ≡ true → not (is_gt p) ≡ true
turned o Less is above = refl
turned o Equal is above = refl
turned o Greater is above = let h : not (not (is_gt Less)) ≡ true = subst (λ x. not (not (is_gt x)) ≡ true) is above in let k : false ≡ true = h in absurd (cc)

other_order : (x y : List ℕ) → not (in_order x y) ≡ true → in_order y x ≡ true
unfolding in_order
other_order x y reversed = turned (slice_cmp nat_cmp x y) (slice_cmp nat_cmp y x) (nat_list_cmp_total.antisymm x y) reversed

pair_either : (t : Bool) (P : Bool → Type 0) → ((not t ≡ true) → P true) → (t ≡ true → P false) → P (not t)
pair_either true P one other = other refl
pair_either false P one other = one refl

exprs_ordered : (c d : ClassExpr) (make : ClassExpr → ClassExpr → Body) → ((x y : ClassExpr) → is_proper_body (make x y) ≡ is_proper_pair x y) → (is_proper_expr c && is_proper_expr d) ≡ true
    → is_proper_body (if not (in_order (expr_text c) (expr_text d)) then make d c else make c d) ≡ true
unfolding is_proper_pair
exprs_ordered c d make by_pair proper =
    let parts = and_parts (is_proper_expr c) (is_proper_expr d) proper in
    pair_either (in_order (expr_text c) (expr_text d)) (λ b. is_proper_body (if b then make d c else make c d) ≡ true)
    (λ reversed. by_pair d c ∙ and_from (is_proper_expr d && is_proper_expr c) (in_order (expr_text d) (expr_text c)) (and_from (is_proper_expr d) (is_proper_expr c) parts.1 parts.0) (other_order (expr_text c) (expr_text d) reversed))
    (λ straight. by_pair c d ∙ and_from (is_proper_expr c && is_proper_expr d) (in_order (expr_text c) (expr_text d)) proper straight)

roles_ordered : (r s : List ℕ) (make : List ℕ → List ℕ → Body) → ((x y : List ℕ) → is_proper_body (make x y) ≡ is_proper_role_pair x y) → (is_clean_iri r && is_clean_iri s) ≡ true
    → is_proper_body (if not (in_order (iri_text r) (iri_text s)) then make s r else make r s) ≡ true
unfolding is_proper_role_pair
roles_ordered r s make by_pair proper =
    let parts = and_parts (is_clean_iri r) (is_clean_iri s) proper in
    pair_either (in_order (iri_text r) (iri_text s)) (λ b. is_proper_body (if b then make s r else make r s) ≡ true)
    (λ reversed. by_pair s r ∙ and_from (is_clean_iri s && is_clean_iri r) (in_order (iri_text s) (iri_text r)) (and_from (is_clean_iri s) (is_clean_iri r) parts.1 parts.0) (other_order (iri_text r) (iri_text s) reversed))
    (λ straight. by_pair r s ∙ and_from (is_clean_iri r && is_clean_iri s) (in_order (iri_text r) (iri_text s)) proper straight)

pub ordered_proper : (given : Body) → is_proper_unordered given ≡ true → is_proper_body (ordered given) ≡ true
unfolding ordered is_reversed swapped is_proper_unordered is_proper_body
ordered_proper (body.Equiv c d) proper = exprs_ordered c d body.Equiv (λ x y. refl) proper
ordered_proper (body.Disjoint c d) proper = exprs_ordered c d body.Disjoint (λ x y. refl) proper
ordered_proper (body.EquivRoles r s) proper = roles_ordered r s body.EquivRoles (λ x y. refl) proper
ordered_proper (body.DisjointRoles r s) proper = roles_ordered r s body.DisjointRoles (λ x y. refl) proper
ordered_proper (body.Inverse r s) proper = roles_ordered r s body.Inverse (λ x y. refl) proper
ordered_proper other proper = proper

pub axiom_proper : (given : Body) (sides : List Side) (made : Axiom) → is_proper_unordered given ≡ true → list_all is_proper_side sides ≡ true → IsAxiomOf given sides made → IsProper made
unfolding is_proper are_proper_sides
axiom_proper given sides made proper all is =
    and_from (is_proper_body made.body) (rises (map side_text made.sides) && list_all is_proper_side made.sides)
    (ap is_proper_body is.body ∙ ordered_proper given proper)
    (and_from (rises (map side_text made.sides)) (list_all is_proper_side made.sides) is.sides.rising (kept_pass side_text is_proper_side sides made.sides is.sides all))

-- ---- answers that may be errors

pub if_ok_map : {A E : Type 0} (P Q : A → Type 0) (r : Result A E) → ((x : A) → P x → Q x) → IfOk r P → IfOk r Q
if_ok_map P Q (Ok x) more found = more x found
if_ok_map P Q (Err e) more found = tt

pub if_ok_both : {A E : Type 0} (P Q S : A → Type 0) (r : Result A E) → ((x : A) → P x → Q x → S x) → IfOk r P → IfOk r Q → IfOk r S
if_ok_both P Q S (Ok x) more one other = more x one other
if_ok_both P Q S (Err e) more one other = tt
