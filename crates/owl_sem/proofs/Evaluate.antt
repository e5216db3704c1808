-- Axioms of named classes and of roles, tested element by element: what is computed of a small interpretation is so.
use Rattle.std.proofs.Common.{◌≡◌, ℕ, ◌<◌, ◌≤◌, ◌==◌, zero, suc, Bool, true, false, not, ◌&&◌, ◌||◌, List, refl, sym, ap, ◌∙◌, true≢false, arith, ⊎_elim}
use Rattle.std.proofs.lemmas.Bool.{cases_lt}
use Rattle.std.proofs.lemmas.Bool.Decides.{nat_tests}
use Rattle.owl_axioms.specs.declared.body.Body.TheVariants as body
use Rattle.owl_axioms.specs.declared.expr.ClassExpr.{ClassExpr}
use Rattle.owl_axioms.specs.declared.expr.ClassExpr.TheVariants as expr
use Rattle.owl_axioms.proofs.Tests.{both}
use Rattle.owl_sem.specs.Interp.{Interp, in_class, in_role, member}
use Rattle.owl_sem.specs.Models.{Satisfies, SatisfiesChain}
use Rattle.owl_sem.proofs.Means.{axioms_are, in_role_first, in_role_second, of_class}

-- each number below n passes
abbrev pub all_below : (ℕ → Bool) → ℕ → Bool
all_below p zero = true
all_below p (suc n) = p n && all_below p n

-- the second test passes where the first does
abbrev pub implies : Bool → Bool → Bool
implies x y = not x || y

pub from_all : (p : ℕ → Bool) (n : ℕ) → all_below p n ≡ true → (e : ℕ) → e < n → p e ≡ true
from_all p zero h e l = absurd (omega (arith, l))
from_all p (suc n) h e l =
    let parts : (p n ≡ true) × (all_below p n ≡ true) = both _ _ h in
    ⊎_elim
    (λ (below : e < n). from_all p n parts.1 e below)
    (λ (last : n ≤ e). let same : e ≡ n = omega (arith, l, last) in ap p same ∙ parts.0)
    (cases_lt e n)

use_implies : (x y : Bool) → implies x y ≡ true → x ≡ true → y ≡ true
use_implies true y h k = h
use_implies false y h k = absurd (true≢false (sym k))

not_both : (x y : Bool) → implies x (not y) ≡ true → (x && y) ≡ false
not_both true true h = absurd (true≢false (sym h))
not_both true false h = refl
not_both false y h = refl

same_tests : (x y : Bool) → (x ≡ true → y ≡ true) → (y ≡ true → x ≡ true) → x ≡ y
same_tests true y there back = sym (there refl)
same_tests false true there back = back refl
same_tests false false there back = refl

equal : (f g : ℕ) → (f == g) ≡ true → f ≡ g
equal f g h = grind (arith, nat_tests)

-- each pair of the role passes
abbrev pub all_pairs : Interp → List ℕ → (ℕ → ℕ → Bool) → Bool
all_pairs i r p = all_below (λ e. all_below (λ f. implies (in_role i r e f) (p e f)) i.size) i.size

pub from_pairs : (i : Interp) (r : List ℕ) (p : ℕ → ℕ → Bool) → all_pairs i r p ≡ true → (e f : ℕ) → in_role i r e f ≡ true → p e f ≡ true
from_pairs i r p h e f k =
    use_implies _ _ (from_all (λ f. implies (in_role i r e f) (p e f)) i.size (from_all (λ e. all_below (λ f. implies (in_role i r e f) (p e f)) i.size) i.size h e (in_role_first i r e f k)) f (in_role_second i r e f k)) k

-- ---- classes

module _ (i : Interp) (a b : List ℕ) where
  abbrev A : ClassExpr
  A = expr.Class a

  abbrev B : ClassExpr
  B = expr.Class b

  in_a : (e : ℕ) → member i A e ≡ in_class i a e
  in_a e = λ k. of_class i a k e

  in_b : (e : ℕ) → member i B e ≡ in_class i b e
  in_b e = λ k. of_class i b k e

  pub sub : all_below (λ e. implies (in_class i a e) (in_class i b e)) i.size ≡ true → Satisfies i (body.Sub A B)
  unfolding Satisfies
  sub h e l m = in_b e ∙ use_implies _ _ (from_all (λ e. implies (in_class i a e) (in_class i b e)) i.size h e l) (sym (in_a e) ∙ m)

  pub not_sub : (e : ℕ) → e < i.size → in_class i a e ≡ true → in_class i b e ≡ false → ¬ (Satisfies i (body.Sub A B))
  unfolding Satisfies
  not_sub e l h k s = true≢false (sym (s e l (in_a e ∙ h)) ∙ in_b e ∙ k)

  pub disjoint : all_below (λ e. implies (in_class i a e) (not (in_class i b e))) i.size ≡ true → Satisfies i (body.Disjoint A B)
  unfolding Satisfies
  disjoint h e l = (λ k. in_a e k && in_b e k) ∙ not_both _ _ (from_all (λ e. implies (in_class i a e) (not (in_class i b e))) i.size h e l)

  pub not_disjoint : (e : ℕ) → e < i.size → in_class i a e ≡ true → in_class i b e ≡ true → ¬ (Satisfies i (body.Disjoint A B))
  unfolding Satisfies
  not_disjoint e l h k s = true≢false ((λ j. sym (in_a e ∙ h) j && sym (in_b e ∙ k) j) ∙ s e l)

  pub not_equiv : (e : ℕ) → e < i.size → in_class i a e ≡ true → in_class i b e ≡ false → ¬ (Satisfies i (body.Equiv A B))
  unfolding Satisfies
  not_equiv e l h k s = true≢false (sym (in_a e ∙ h) ∙ s e l ∙ in_b e ∙ k)

pub equiv : (i : Interp) (a b : List ℕ) → all_below (λ e. implies (in_class i a e) (in_class i b e)) i.size ≡ true → all_below (λ e. implies (in_class i b e) (in_class i a e)) i.size ≡ true → Satisfies i (body.Equiv (expr.Class a) (expr.Class b))
equiv i a b h k = (axioms_are.equivalent i (expr.Class a) (expr.Class b)).1 (sub i a b h, sub i b a k)

-- ---- roles

module _ (i : Interp) (r : List ℕ) where
  pub sub_role : (s : List ℕ) → all_pairs i r (in_role i s) ≡ true → Satisfies i (body.SubRole r s)
  unfolding Satisfies
  sub_role s h = from_pairs i r (in_role i s) h

  pub not_sub_role : (s : List ℕ) (e f : ℕ) → in_role i r e f ≡ true → in_role i s e f ≡ false → ¬ (Satisfies i (body.SubRole r s))
  unfolding Satisfies
  not_sub_role s e f h k all = true≢false (sym (all e f h) ∙ k)

  pub not_equiv_roles : (s : List ℕ) (e f : ℕ) → in_role i r e f ≡ true → in_role i s e f ≡ false → ¬ (Satisfies i (body.EquivRoles r s))
  unfolding Satisfies
  not_equiv_roles s e f h k all = true≢false (sym h ∙ all e f ∙ k)

  pub disjoint_roles : (s : List ℕ) → all_pairs i r (λ e f. not (in_role i s e f)) ≡ true → Satisfies i (body.DisjointRoles r s)
  unfolding Satisfies
  disjoint_roles s h e f = by (in_role i r e f) refl
    where
      by : (x : Bool) → in_role i r e f ≡ x → (in_role i r e f && in_role i s e f) ≡ false
      by true k = not_both _ _ ((λ j. implies (k j) (not (in_role i s e f))) ∙ from_pairs i r (λ e f. not (in_role i s e f)) h e f k)
      by false k = λ j. k j && in_role i s e f

  pub asymmetric : all_pairs i r (λ e f. not (in_role i r f e)) ≡ true → Satisfies i (body.Asymmetric r)
  unfolding Satisfies
  asymmetric h e f = by (in_role i r e f) refl
    where
      by : (x : Bool) → in_role i r e f ≡ x → (in_role i r e f && in_role i r f e) ≡ false
      by true k = not_both _ _ ((λ j. implies (k j) (not (in_role i r f e))) ∙ from_pairs i r (λ e f. not (in_role i r f e)) h e f k)
      by false k = λ j. k j && in_role i r f e

  pub not_disjoint_roles : (s : List ℕ) (e f : ℕ) → in_role i r e f ≡ true → in_role i s e f ≡ true → ¬ (Satisfies i (body.DisjointRoles r s))
  unfolding Satisfies
  not_disjoint_roles s e f h k all = true≢false ((λ j. sym h j && sym k j) ∙ all e f)

  pub inverse : (s : List ℕ) → all_pairs i r (λ e f. in_role i s f e) ≡ true → all_pairs i s (λ e f. in_role i r f e) ≡ true → Satisfies i (body.Inverse r s)
  unfolding Satisfies
  inverse s h k e f = same_tests _ _ (from_pairs i r (λ e f. in_role i s f e) h e f) (from_pairs i s (λ e f. in_role i r f e) k f e)

  pub not_inverse : (s : List ℕ) (e f : ℕ) → in_role i r e f ≡ true → in_role i s f e ≡ false → ¬ (Satisfies i (body.Inverse r s))
  unfolding Satisfies
  not_inverse s e f h k all = true≢false (sym h ∙ all e f ∙ k)

  pub chain : (s t : List ℕ) → all_pairs i r (λ e f. all_below (λ g. implies (in_role i s f g) (in_role i t e g)) i.size) ≡ true → SatisfiesChain i r s t
  chain s t h e f g k l =
      use_implies _ _ (from_all (λ g. implies (in_role i s f g) (in_role i t e g)) i.size (from_pairs i r (λ e f. all_below (λ g. implies (in_role i s f g) (in_role i t e g)) i.size) h e f k) g (in_role_second i s f g l)) l

  pub not_chain : (s t : List ℕ) (e f g : ℕ) → in_role i r e f ≡ true → in_role i s f g ≡ true → in_role i t e g ≡ false → ¬ (SatisfiesChain i r s t)
  not_chain s t e f g h k l all = true≢false (sym (all e f g h k) ∙ l)

  pub reflexive : all_below (λ e. in_role i r e e) i.size ≡ true → Satisfies i (body.Reflexive r)
  unfolding Satisfies
  reflexive h = from_all (λ e. in_role i r e e) i.size h

  pub not_reflexive : (e : ℕ) → e < i.size → in_role i r e e ≡ false → ¬ (Satisfies i (body.Reflexive r))
  unfolding Satisfies
  not_reflexive e l h all = true≢false (sym (all e l) ∙ h)

  pub functional : all_pairs i r (λ e f. all_below (λ g. implies (in_role i r e g) (f == g)) i.size) ≡ true → Satisfies i (body.Functional r)
  unfolding Satisfies
  functional h e f g k l =
      equal f g (use_implies _ _ (from_all (λ g. implies (in_role i r e g) (f == g)) i.size (from_pairs i r (λ e f. all_below (λ g. implies (in_role i r e g) (f == g)) i.size) h e f k) g (in_role_second i r e g l)) l)

  pub inverse_functional : all_pairs i r (λ f e. all_below (λ g. implies (in_role i r g e) (f == g)) i.size) ≡ true → Satisfies i (body.InverseFunctional r)
  unfolding Satisfies
  inverse_functional h e f g k l =
      equal f g (use_implies _ _ (from_all (λ g. implies (in_role i r g e) (f == g)) i.size (from_pairs i r (λ f e. all_below (λ g. implies (in_role i r g e) (f == g)) i.size) h f e k) g (in_role_first i r g e l)) l)

  pub domain : (a : List ℕ) → all_pairs i r (λ e f. in_class i a e) ≡ true → Satisfies i (body.Domain r (expr.Class a))
  unfolding Satisfies
  domain a h e f k = (λ j. of_class i a j e) ∙ from_pairs i r (λ e f. in_class i a e) h e f k

  pub not_domain : (a : List ℕ) (e f : ℕ) → in_role i r e f ≡ true → in_class i a e ≡ false → ¬ (Satisfies i (body.Domain r (expr.Class a)))
  unfolding Satisfies
  not_domain a e f h k all = true≢false (sym (all e f h) ∙ (λ j. of_class i a j e) ∙ k)

  pub range : (a : List ℕ) → all_pairs i r (λ e f. in_class i a f) ≡ true → Satisfies i (body.Range r (expr.Class a))
  unfolding Satisfies
  range a h e f k = (λ j. of_class i a j f) ∙ from_pairs i r (λ e f. in_class i a f) h e f k

  pub not_range : (a : List ℕ) (e f : ℕ) → in_role i r e f ≡ true → in_class i a f ≡ false → ¬ (Satisfies i (body.Range r (expr.Class a)))
  unfolding Satisfies
  not_range a e f h k all = true≢false (sym (all e f h) ∙ (λ j. of_class i a j f) ∙ k)

pub equiv_roles : (i : Interp) (r s : List ℕ) → all_pairs i r (in_role i s) ≡ true → all_pairs i s (in_role i r) ≡ true → Satisfies i (body.EquivRoles r s)
equiv_roles i r s h k = (axioms_are.equivalent_roles i r s).1 (sub_role i r s h, sub_role i s r k)
