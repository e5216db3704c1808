-- The tables of the small interpretation, computed.
use Rattle.std.proofs.Common.{◌≡◌, ℕ, ◌==◌, Bool, true, false, not, List, [], ◌∷◌, nat_le, refl, sym, ◌∙◌, true≢false, arith}
use Rattle.std.specs.List.{list_all, list_any}
use Rattle.owl_axioms.specs.declared.expr.ClassExpr.{ClassExpr}
use Rattle.owl_axioms.specs.declared.expr.ClassExpr.TheVariants as expr
use Rattle.owl_sem.specs.Examples.{AxiomTable, ExpressionTable, IndividualTable, before, beside, bicycle, front, has, of, owns, part, saddle, same, wheel, whole}
use Rattle.owl_sem.specs.Interp.{in_class, in_role, individual, member, reached}
use Rattle.owl_sem.specs.Models.{Satisfies}
use Rattle.owl_sem.proofs.Evaluate as test
use Rattle.owl_sem.proofs.Means.{of_all, of_and, of_class, of_exact, of_max, of_min, of_not, of_nothing, of_or, of_some, of_thing}

abbrev class : List ℕ → ClassExpr
class a = expr.Class a

-- what is computed of the members of named classes is so of the expressions over them
module _ (e : ℕ) (x : Bool) where
  one : (a : List ℕ) → in_class bicycle a e ≡ x → member bicycle (class a) e ≡ x
  one a h = (λ k. of_class bicycle a k e) ∙ h

  and_two : (a b : List ℕ) → list_all (λ c. c e) (in_class bicycle a ∷ in_class bicycle b ∷ []) ≡ x → member bicycle (expr.And (class a ∷ class b ∷ [])) e ≡ x
  and_two a b h = (λ k. of_and bicycle (class a ∷ class b ∷ []) k e) ∙ (λ k. list_all (λ c. c e) (of_class bicycle a k ∷ of_class bicycle b k ∷ [])) ∙ h

  or_two : (a b : List ℕ) → list_any (λ c. c e) (in_class bicycle a ∷ in_class bicycle b ∷ []) ≡ x → member bicycle (expr.Or (class a ∷ class b ∷ [])) e ≡ x
  or_two a b h = (λ k. of_or bicycle (class a ∷ class b ∷ []) k e) ∙ (λ k. list_any (λ c. c e) (of_class bicycle a k ∷ of_class bicycle b k ∷ [])) ∙ h

  outside : (a : List ℕ) → not (in_class bicycle a e) ≡ x → member bicycle (expr.Not (class a)) e ≡ x
  outside a h = (λ k. of_not bicycle (class a) k e) ∙ (λ k. not (of_class bicycle a k e)) ∙ h

  some : (r a : List ℕ) → nat_le 1 (reached bicycle r (in_class bicycle a) e) ≡ x → member bicycle (expr.Some r (class a)) e ≡ x
  some r a h = (λ k. of_some bicycle r (class a) k e) ∙ (λ k. nat_le 1 (reached bicycle r (of_class bicycle a k) e)) ∙ h

  all : (r a : List ℕ) → (reached bicycle r (λ f. not (in_class bicycle a f)) e == 0) ≡ x → member bicycle (expr.All r (class a)) e ≡ x
  all r a h = (λ k. of_all bicycle r (class a) k e) ∙ (λ k. reached bicycle r (λ f. not (of_class bicycle a k f)) e == 0) ∙ h

  min : (n : ℕ) (r a : List ℕ) → nat_le n (reached bicycle r (in_class bicycle a) e) ≡ x → member bicycle (expr.Min n r (class a)) e ≡ x
  min n r a h = (λ k. of_min bicycle n r (class a) k e) ∙ (λ k. nat_le n (reached bicycle r (of_class bicycle a k) e)) ∙ h

  max : (n : ℕ) (r a : List ℕ) → nat_le (reached bicycle r (in_class bicycle a) e) n ≡ x → member bicycle (expr.Max n r (class a)) e ≡ x
  max n r a h = (λ k. of_max bicycle n r (class a) k e) ∙ (λ k. nat_le (reached bicycle r (of_class bicycle a k) e) n) ∙ h

  exact : (n : ℕ) (r a : List ℕ) → (reached bicycle r (in_class bicycle a) e == n) ≡ x → member bicycle (expr.Exact n r (class a)) e ≡ x
  exact n r a h = (λ k. of_exact bicycle n r (class a) k e) ∙ (λ k. reached bicycle r (of_class bicycle a k) e == n) ∙ h

pub expressions : ExpressionTable
unfolding in_class in_role
expressions = record {
  thing = λ k. of_thing bicycle k 0;
  nothing = λ k. of_nothing bicycle k 0;
  class = (one 1 true front refl, one 2 false front refl, one 3 false front refl);
  and = (and_two 1 true wheel front refl, and_two 2 false wheel front refl);
  or = (or_two 0 true whole front refl, or_two 2 false whole front refl);
  not = (outside 0 true wheel refl, outside 1 false wheel refl);
  some = (some 0 true has front refl, some 1 false has front refl);
  all = (all 0 true has wheel refl, all 1 true has wheel refl, all 0 false has front refl);
  min = (min 0 true 2 has wheel refl, min 0 false 3 has wheel refl);
  max = (max 0 true 2 has wheel refl, max 0 false 1 has wheel refl);
  exact = (exact 0 true 2 has wheel refl, exact 0 false 3 has wheel refl);
  shared = (exact 1 true 1 of whole refl, exact 2 true 1 of whole refl);
}

pub individuals : IndividualTable
unfolding individual
individuals = record { first = refl; only = refl; none = refl }

pub axioms : AxiomTable
unfolding Satisfies in_class in_role individual
axioms = record {
  sub = (test.sub bicycle wheel part refl, test.not_sub bicycle part front 2 (omega arith) refl refl);
  equiv = (test.equiv bicycle wheel part refl refl, test.not_equiv bicycle wheel front 2 (omega arith) refl refl);
  disjoint = (test.disjoint bicycle whole wheel refl, test.not_disjoint bicycle wheel front 1 (omega arith) refl refl);
  disjoint_itself = (test.disjoint bicycle saddle saddle refl, test.not_disjoint bicycle wheel wheel 1 (omega arith) refl refl);
  sub_role = (test.sub_role bicycle before beside refl, test.not_sub_role bicycle beside before 2 1 refl refl);
  chain = (test.chain bicycle has before has refl, test.not_chain bicycle of has of 1 0 1 refl refl refl);
  chain_itself = (test.chain bicycle before before before refl, test.not_chain bicycle beside beside beside 1 2 1 refl refl refl);
  equiv_roles = (test.equiv_roles bicycle has owns refl refl, λ h. test.not_sub_role bicycle beside before 2 1 refl refl (λ e f k. h e f ∙ k));
  disjoint_roles = (test.disjoint_roles bicycle has of refl, test.not_disjoint_roles bicycle before beside 1 2 refl refl);
  inverse = (test.inverse bicycle has of refl refl, test.not_inverse bicycle has before 0 1 refl refl);
  inverse_itself = (test.inverse bicycle beside beside refl refl, test.not_inverse bicycle before before 1 2 refl refl);
  transitive = (test.chain bicycle same same same refl, test.not_chain bicycle beside beside beside 1 2 1 refl refl refl);
  reflexive = (test.reflexive bicycle same refl, test.not_reflexive bicycle beside 0 (omega arith) refl);
  symmetric = (test.from_pairs bicycle beside (λ e f. in_role bicycle beside f e) refl, λ h. true≢false (sym (h 1 2 refl)));
  asymmetric = (test.asymmetric bicycle before refl, λ h. true≢false (h 1 2));
  functional = (test.functional bicycle of refl, λ h. let e : 1 ≡ 2 = h 0 1 2 refl refl in omega (arith, e));
  inverse_functional = (test.inverse_functional bicycle has refl, λ h. let e : 1 ≡ 2 = h 0 1 2 refl refl in omega (arith, e));
  domain = (test.domain bicycle has whole refl, test.not_domain bicycle of front 2 0 refl refl);
  range = (test.range bicycle has wheel refl, test.not_range bicycle has front 0 2 refl refl);
  class_assertion = (one 0 true whole refl, λ h. true≢false (sym h ∙ one 0 false wheel refl));
  role_assertion = (refl, λ h. true≢false (sym h));
}
