-- The test of a part, one thing more after the other.
use Rattle.std.proofs.Common.{◌≡◌, ℕ, ◌<◌, ◌≤◌, ◌^◌, List, [], ◌∷◌, ◌++◌, Some, length, slice_get, refl, sym, ap, subst, arith, ⊎_elim}
use Rattle.fact_rows.specs.Member.{In}
use Rattle.fact_rows.specs.Rows.{row}
use Rattle.fact_rows.proofs.Members.{in_none, in_one, in_parts, no_items}
use Rattle.el_numbers.specs.declared.part.Shape.{Shape}
use Rattle.el_numbers.specs.declared.part.Shape.TheVariants as shape
use Rattle.fact_rows.proofs.Places.{get_inside}
use Rattle.fact_rows.proofs.RowLemmas.{row_inside}
use Rattle.el_numbers.specs.declared.part.NumberedPart.{NumberedPart}
use Rattle.el_numbers.specs.Proper.{IsProper}
use Rattle.el_numbers.specs.inner.Fits.{Fits}

pub below_more : (xs : List ℕ) (y n : ℕ) → ((x : ℕ) → In x xs → x < n) → y < n → (x : ℕ) → In x (xs ++ y ∷ []) → x < n
below_more xs y n h l x i = ⊎_elim (λ j. h x j) (λ j. subst (λ z. z < n) (sym (in_one j)) l) (in_parts xs i)

pub pairs_more : (ps : List (ℕ × ℕ)) (p : ℕ × ℕ) (n m : ℕ) → ((d e : ℕ) → In (d, e) ps → (d < n) × (e < m)) → p.0 < n → p.1 < m → (d e : ℕ) → In (d, e) (ps ++ p ∷ []) → (d < n) × (e < m)
pairs_more ps p n m h k l d e i = ⊎_elim (λ j. h d e j)
    (λ j.
    let a : d ≡ p.0 = ap (λ (q : ℕ × ℕ). q.0) (in_one j) in
    let b : e ≡ p.1 = ap (λ (q : ℕ × ℕ). q.1) (in_one j) in
    (subst (λ z. z < n) (sym a) k, subst (λ z. z < m) (sym b) l))
    (in_parts ps i)

pub triples_more : (ts : List (ℕ × ℕ × ℕ)) (p : ℕ × ℕ × ℕ) (n : ℕ) → ((r s t : ℕ) → In (r, s, t) ts → (r < n) × (s < n) × (t < n)) → p.0 < n → p.1 < n → p.2 < n → (r s t : ℕ) → In (r, s, t) (ts ++ p ∷ []) → (r < n) × (s < n) × (t < n)
triples_more ts p n h k l m r s t i = ⊎_elim (λ j. h r s t j)
    (λ j.
    let a : r ≡ p.0 = ap (λ (q : ℕ × ℕ × ℕ). q.0) (in_one j) in
    let b : s ≡ p.1 = ap (λ (q : ℕ × ℕ × ℕ). q.1) (in_one j) in
    let c : t ≡ p.2 = ap (λ (q : ℕ × ℕ × ℕ). q.2) (in_one j) in
    (subst (λ z. z < n) (sym a) k, subst (λ z. z < n) (sym b) l, subst (λ z. z < n) (sym c) m))
    (in_parts ts i)

pub fits_name : (n : ℕ) (xs : List ℕ) → length xs ≡ 0 → Fits n (Some shape.Name) xs
fits_name n xs e = record {
  has_operand = λ h. cc;
  is_and = λ x i. none x i;
  operands = λ x i. none x i;
  filler = λ r d h. cc;
}
  where
    none : {P : Type 0} (x : ℕ) → In x xs → P
    none x i = in_none (subst (In x) (no_items xs e) i)

pub fits_and : (n : ℕ) (xs : List ℕ) → (length xs ≡ 0 → ⊥) → ((x : ℕ) → In x xs → x < n) → Fits n (Some shape.And) xs
fits_and n xs e b = record {
  has_operand = λ h q. e (ap length q);
  is_and = λ x i. refl;
  operands = b;
  filler = λ r d h. cc;
}

pub fits_some : (n : ℕ) (xs : List ℕ) (q f : ℕ) → length xs ≡ 0 → f < n → Fits n (Some (shape.Some q f)) xs
fits_some n xs q f e l = record {
  has_operand = λ h. cc;
  is_and = λ x i. none x i;
  operands = λ x i. none x i;
  filler = λ r d h. let k : f ≡ d = cc in subst (λ z. z < n) k l;
}
  where
    none : {P : Type 0} (x : ℕ) → In x xs → P
    none x i = in_none (subst (In x) (no_items xs e) i)

-- where all tests are passed, by n expressions
pub proper : (part : NumberedPart) (n : ℕ) → n ≡ length part.shapes.items → n < 2 ^ 32 → 1 < n → length part.operands.items ≤ n
    → ((a : ℕ) → a < n → Fits n (slice_get part.shapes.items a) (row part.operands.items a))
    → ((d e : ℕ) → In (d, e) part.inclusions.items → (d < n) × (e < n))
    → ((d e : ℕ) → In (d, e) part.disjoints.items → (d < n) × (e < n))
    → ((r s : ℕ) → In (r, s) part.role_inclusions.items → (r < part.role_count) × (s < part.role_count))
    → ((r s t : ℕ) → In (r, s, t) part.chains.items → (r < part.role_count) × (s < part.role_count) × (t < part.role_count))
    → ((r e : ℕ) → In (r, e) part.domains.items → (r < part.role_count) × (e < n))
    → IsProper part
proper part n e small nothing long fit i d r c o = record {
  small = omega arith;
  nothing = omega arith;
  has_operand = λ a h. (fit a (inside a shape.And h)).has_operand h;
  is_and = λ a x m. (fit a (within a x m)).is_and x m;
  operands = λ a x m. subst (λ z. x < z) e ((fit a (within a x m)).operands x m);
  fillers = λ s q f h. subst (λ z. f < z) e ((fit s (inside s (shape.Some q f) h)).filler q f h);
  inclusions = λ x y m. let p = i x y m in (subst (λ z. x < z) e p.0, subst (λ z. y < z) e p.1);
  disjoints = λ x y m. let p = d x y m in (subst (λ z. x < z) e p.0, subst (λ z. y < z) e p.1);
  role_inclusions = r;
  chains = c;
  domains = λ x y m. let p = o x y m in (p.0, subst (λ z. y < z) e p.1);
}
  where
    inside : (a : ℕ) (s : Shape) → slice_get part.shapes.items a ≡ Some s → a < n
    inside a s h = let l = get_inside part.shapes.items a s h in omega arith

    within : (a x : ℕ) → In x (row part.operands.items a) → a < n
    within a x m = let l = row_inside part.operands.items a m in omega arith
