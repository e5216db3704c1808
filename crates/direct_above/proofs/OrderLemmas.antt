-- What stands strictly above has a shorter row, and the other way round.
use Rattle.std.proofs.Common.{ℕ, ◌≤◌, length, arith}
use Rattle.direct_above.specs.Direct.{Rows, IsPreorder}
use Rattle.direct_above.specs.inner.Marks.{IsShorter, IsStrict}
use Rattle.fact_rows.specs.Member.{In}
use Rattle.fact_rows.specs.Rows.{row}
use Rattle.fact_rows.proofs.Repeats.{fits, fits_below}
use Rattle.fact_rows.proofs.RowLemmas.{row_inside}

module _ (rows : Rows) (o : IsPreorder rows) where
  pub no_longer : (x b : ℕ) → In b (row rows x) → length (row rows b) ≤ length (row rows x)
  no_longer x b i = fits (o.once b) (row rows x) (λ z j. o.goes_on x b z i j)

  pub shorter : (x b : ℕ) → In b (row rows x) → (In x (row rows b) → ⊥) → IsShorter rows b x
  shorter x b i n = fits_below (o.once b) (row rows x) (λ z j. o.goes_on x b z i j) x (o.itself x (row_inside rows x i)) n

  pub not_back : (x b : ℕ) → IsShorter rows b x → In x (row rows b) → ⊥
  not_back x b l i = let m = no_longer b x i in omega arith

  pub strict_on : (x y b : ℕ) → In y (row rows x) → IsStrict rows y b → IsStrict rows x b
  strict_on x y b i s = let m = no_longer x y i in let l = s.shorter in record { above = o.goes_on x y b i s.above; shorter = omega arith }
