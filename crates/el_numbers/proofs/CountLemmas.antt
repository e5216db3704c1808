-- A table with fewer facts is no larger; and the rows of a saturated table.
use Rattle.std.proofs.Common.{ℕ, zero, suc, ◌≤◌, List, [], ◌∷◌, length, arith}
use Rattle.std.specs.List.{sum_by}
use Rattle.std.proofs.lemmas.List.Sums.{sum_by-cons}
use Rattle.fact_rows.specs.Rows.{row}
use Rattle.fact_rows.proofs.Members.{in_none}
use Rattle.fact_rows.proofs.Repeats.{fits}
use Rattle.el_numbers.specs.declared.fact.Fact.{Fact}
use Rattle.el_numbers.specs.declared.fact.Fact.TheVariants.{Below, Link}
use Rattle.el_numbers.specs.declared.part.NumberedPart.{NumberedPart}
use Rattle.el_numbers.specs.Proper.{IsProper}
use Rattle.el_numbers.specs.Rules.{Derived, step, itself}
use Rattle.el_numbers.specs.Table.{TableState, Has, HasOnce, size}
use Rattle.el_numbers.specs.Saturated.{IsSaturated, IsMore}
use Rattle.el_numbers.specs.Laws.{RowsAreOrdered}
use Rattle.el_numbers.proofs.OrderLemmas.{above}
use Rattle.el_numbers.proofs.LoopLemmas.{upper_within}

sum_le : {A : Type 0} (xs ys : List (List A)) → ((c : ℕ) → length (row xs c) ≤ length (row ys c)) → sum_by length xs ≤ sum_by length ys
sum_le [] ys h = omega arith
sum_le (x ∷ xs) [] h = let a : length x ≤ 0 = h zero in let b : sum_by length xs ≤ 0 = sum_le xs [] (λ c. h (suc c)) in rw (sum_by-cons length x xs) (omega arith)
sum_le (x ∷ xs) (y ∷ ys) h = let a : length x ≤ length y = h zero in let b : sum_by length xs ≤ sum_by length ys = sum_le xs ys (λ c. h (suc c)) in rw (sum_by-cons length x xs, sum_by-cons length y ys) (omega arith)

pub no_larger : (t u : TableState) → HasOnce t → ((g : Fact) → Has t g → Has u g) → size t ≤ size u
no_larger t u w h =
    let a = sum_le t.below u.below (λ c. fits (w.below c) (row u.below c) (λ d i. h (Below c d) i)) in
    let b = sum_le t.links u.links (λ c. fits (w.links c) (row u.links c) (λ p i. h (Link c p.0 p.1) i)) in
    omega (arith, a, b)

pub largest : (part : NumberedPart) (limit : ℕ) (t u : TableState) → IsSaturated part limit t → HasOnce u → ((g : Fact) → Has u g → Derived part g) → size u ≤ size t
largest part limit t u s once made = no_larger u t once (λ g i. s.complete g (made g i))

pub exclude : (part : NumberedPart) (limit : ℕ) (t : TableState) → IsSaturated part limit t → IsMore part limit → ⊥
exclude part limit t s m =
    let l = largest part limit t m.table s m.once m.derived in
    omega (arith, l, m.more, s.few)

pub ordered : (part : NumberedPart) → IsProper part → (limit : ℕ) (t : TableState) → IsSaturated part limit t → RowsAreOrdered t
ordered part proper limit t s = record {
  itself = λ x l. s.complete (Below x x) (step (itself (let e = s.long in omega arith)) (λ p i. in_none i));
  goes_on = λ x y z i j. s.complete (Below x z) (above part proper x y (s.sound (Below x y) i) z (s.sound (Below y z) j));
  inside = λ x y i. let l = upper_within part proper (s.sound (Below x y) i) in let e = s.long in omega arith;
  once = s.once.below;
}
