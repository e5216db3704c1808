-- What the rules and the table amount to. (Own.)
use Rattle.std.specs.Prelude.{ℕ, ◌<◌, ◌≤◌, length}
use Rattle.fact_rows.specs.Member.{In, NoRepeats}
use Rattle.fact_rows.specs.Rows.{row}
use Rattle.el_numbers.specs.declared.fact.Fact.{Fact}
use Rattle.el_numbers.specs.declared.fact.Fact.TheVariants.{Below}
use Rattle.el_numbers.specs.declared.part.NumberedPart.{NumberedPart}
use Rattle.el_numbers.specs.Proper.{IsProper}
use Rattle.el_numbers.specs.Rules.{Derived}
use Rattle.el_numbers.specs.Table.{TableState, Has, HasOnce, size}
use Rattle.el_numbers.specs.Saturated.{IsSaturated, IsMore}

-- below is transitive, though no rule says so
abbrev pub BelowIsTransitive : Type 0
BelowIsTransitive = (part : NumberedPart) → IsProper part → (c d : ℕ) → Derived part (Below c d) → (e : ℕ) → Derived part (Below d e) → Derived part (Below c e)

-- there is not both a table of all derived facts within the limit and more of them than the limit
abbrev pub AnswersExclude : Type 0
AnswersExclude = (part : NumberedPart) (limit : ℕ) (t : TableState) → IsSaturated part limit t → IsMore part limit → ⊥

-- what the rows of a saturated table are: a reflexive and transitive relation on the expressions, without repeats
pub record RowsAreOrdered (t : TableState) : Type 0 where
  pub itself : (x : ℕ) → x < length t.below → In x (row t.below x)
  pub goes_on : (x y z : ℕ) → In y (row t.below x) → In z (row t.below y) → In z (row t.below x)
  pub inside : (x y : ℕ) → In y (row t.below x) → y < length t.below
  pub once : (x : ℕ) → NoRepeats (row t.below x)

abbrev pub SaturatedRowsAreOrdered : Type 0
SaturatedRowsAreOrdered = (part : NumberedPart) → IsProper part → (limit : ℕ) (t : TableState) → IsSaturated part limit t → RowsAreOrdered t

-- a table of derived facts alone, each once, is no larger than a saturated one
abbrev pub SaturatedIsLargest : Type 0
SaturatedIsLargest = (part : NumberedPart) (limit : ℕ) (t u : TableState) → IsSaturated part limit t → HasOnce u → ((g : Fact) → Has u g → Derived part g) → size u ≤ size t
