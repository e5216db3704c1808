-- What was found of intersections: how far a search came, what a note changes, and that it stays true as the rows grow.
use Rattle.std.proofs.Common.{◌≡◌, ℕ, ◌<◌, ◌≤◌, ◌+◌, Bool, true, false, cond, if◌then◌else◌, List, length, take, slice_index_or, Option, Some, nat_eq, unwrap_or, refl, sym, ap, subst, ◌∙◌, ⊎_elim}
use Rattle.std.specs.List.{list_all, list_any}
use Rattle.std.proofs.lemmas.Bool.{eq-eqb}
use Rattle.std.proofs.lemmas.List.{take_more, take_all}
use Rattle.fact_rows.specs.Member.{In}
use Rattle.fact_rows.specs.Rows.{row}
use Rattle.fact_rows.proofs.Members.{in_none, in_parts, in_one}
use Rattle.indexmap.specs.IndexMap.{get}
use Rattle.el_numbers.proofs.ConcludeLemmas.{has_number, number_in, all_hold}
use Rattle.el_numbers.specs.declared.fact.Fact.{Fact}
use Rattle.el_numbers.specs.declared.fact.Fact.TheVariants.{Below}
use Rattle.el_numbers.specs.declared.met.Met.{Met}
use Rattle.el_numbers.specs.declared.storing.FactRows.{FactRows}
use Rattle.el_numbers.specs.inner.Met.{IsMet, known, same_pair}
use Rattle.el_numbers.specs.inner.Storing.{Adds}

-- one number more stands in the row ys
pub found_more : (xs ys : List ℕ) (i : ℕ) → i < length xs → list_any (nat_eq (slice_index_or xs i 0)) ys ≡ true → ((x : ℕ) → In x (take i xs) → In x ys) → (x : ℕ) → In x (take (i + 1) xs) → In x ys
found_more xs ys i l h all x m = ⊎_elim
    (λ j. all x j)
    (λ j. subst (λ y. In y ys) (sym (in_one j)) (number_in (slice_index_or xs i 0) ys h))
    (in_parts (take i xs) (subst (In x) (take_more xs i 0 l) m))

-- all of them do
pub found_all : (xs ys : List ℕ) (i : ℕ) → length xs ≤ i → ((x : ℕ) → In x (take i xs) → In x ys) → (x : ℕ) → In x xs → In x ys
found_all xs ys i l all x m = all x (subst (In x) (sym (take_all i xs l)) m)

pub has_all : (xs ys : List ℕ) → ((x : ℕ) → In x xs → In x ys) → nat_eq (length xs) (length xs) ≡ list_all (λ x. list_any (nat_eq x) ys) xs
has_all xs ys all = eq-eqb (length xs) (length xs) refl ∙ sym (all_hold (λ x. list_any (nat_eq x) ys) xs (λ x i. has_number (all x i)))

or_none : (b : Bool) (n : ℕ) (o : Option ℕ) → unwrap_or (cond b (Some n) o) 0 ≡ (if b then n else unwrap_or o 0)
or_none true n o = refl
or_none false n o = refl

-- a note at c and a
pub noted : (old new : Met) (c a n : ℕ) → ((q : ℕ × ℕ) → get same_pair new.counts q ≡ cond (same_pair (c, a) q) (Some n) (get same_pair old.counts q)) → (d b : ℕ) → known new d b ≡ (if same_pair (c, a) (d, b) then n else known old d b)
noted old new c a n h d b = ap (λ o. unwrap_or o 0) (h (d, b)) ∙ or_none (same_pair (c, a) (d, b)) n (get same_pair old.counts (d, b))

-- nothing is found yet
pub met_none : (operands below : List (List ℕ)) (met : Met) → ((c a : ℕ) → known met c a ≡ 0) → IsMet operands below met
met_none operands below met h c a x i = in_none (subst (λ n. In x (take n (row operands a))) (h c a) i)

-- rows only grow
pub met_grows : {t u : FactRows} {q w fs : List Fact} (operands : List (List ℕ)) (met : Met) → Adds t q fs u w → IsMet operands t.below.items met → IsMet operands u.below.items met
met_grows operands met adds m c a x i = adds.kept (Below c x) (m c a x i)
