-- What stands directly above, in rows of all that stands above. (Direct subclasses of a taxonomy, with equal classes and
-- told edges: own.)
use Rattle.std.specs.Prelude.{◌≡◌, ℕ, ◌<◌, List, Bool, length}
use Rattle.fact_rows.specs.Member.{In, NoRepeats}
use Rattle.fact_rows.specs.Rows.{row}
use Rattle.fact_rows.specs.Marks.{IsFlagged}

-- a row for each number
abbrev pub Rows : Type 0
Rows = List (List ℕ)

-- the rows hold a reflexive and transitive relation on the numbers below their count, without repeats
pub record IsPreorder (rows : Rows) : Type 0 where
  pub itself : (x : ℕ) → x < length rows → In x (row rows x)
  pub goes_on : (x y z : ℕ) → In y (row rows x) → In z (row rows y) → In z (row rows x)
  pub inside : (x y : ℕ) → In y (row rows x) → y < length rows
  pub once : (x : ℕ) → NoRepeats (row rows x)

-- the class x is strictly between a and b: above a and below b, and neither the other way round
pub record IsStrictlyBetween (rows : Rows) (classes : List Bool) (a b x : ℕ) : Type 0 where
  pub is_class : IsFlagged classes x
  pub low : In x (row rows a)
  pub high : In b (row rows x)
  pub not_back : In a (row rows x) → ⊥
  pub not_return : In x (row rows b) → ⊥

-- the class b is directly above a: above it, another, not told to be above it, and no class is strictly between
pub record IsDirect (rows told : Rows) (classes : List Bool) (a b : ℕ) : Type 0 where
  pub is_class : IsFlagged classes b
  pub above : In b (row rows a)
  pub other : b ≡ a → ⊥
  pub untold : In b (row told a) → ⊥
  pub none : (x : ℕ) → IsStrictlyBetween rows classes a b x → ⊥

-- the pairs are those of each declared number with each that is directly above it, and none stands twice
pub record AreDirect (rows told : Rows) (classes declared : List Bool) (out : List (ℕ × ℕ)) : Type 0 where
  pub on : (a b : ℕ) → In (a, b) out → IsFlagged declared a × IsDirect rows told classes a b
  pub each : (a b : ℕ) → IsFlagged declared a → IsDirect rows told classes a b → In (a, b) out
  pub once : NoRepeats out
