-- Plain walks: marks by 1 for what a node reaches, and what is strictly between by four of them. (Own.)
use Rattle.std.specs.Prelude.{◌≡◌, ℕ, ◌≤◌, Bool, List, length, slice_get, Some, ◌⊎◌}
use Rattle.fact_rows.specs.Member.{In}
use Rattle.fact_rows.specs.Rows.{row}
use Rattle.fact_rows.specs.Marks.{IsFlagged, IsMarked}
use Rattle.edge_detours.specs.Reach.{Edges}
use Rattle.edge_detours.specs.Redundant.{IsRedundant}
use Rattle.edge_detours.specs.inner.Rows.{Rows, Walk}

-- marked by 1 is exactly what a reaches
pub record AreReached (rows : Rows) (a : ℕ) (marks : List ℕ) : Type 0 where
  pub on : (x : ℕ) → IsMarked marks 1 x → Walk rows a x
  pub each : (x : ℕ) → Walk rows a x → IsMarked marks 1 x

-- while the walk goes on
pub record IsWalking (rows : Rows) (a high : ℕ) (marks stack : List ℕ) : Type 0 where
  pub sound : (x : ℕ) → IsMarked marks 1 x → Walk rows a x
  pub start : IsMarked marks 1 a
  pub waits : (x : ℕ) → In x stack → IsMarked marks 1 x
  pub closed : (x : ℕ) → IsMarked marks 1 x → In x stack ⊎ ((y i : ℕ) → In (y, i) (row rows x) → y ≤ high → IsMarked marks 1 y)

-- b is reached by the one end and reaches the other, and neither the other way round
pub record IsApart (froms tos backs returns : List ℕ) (b : ℕ) : Type 0 where
  pub from : IsMarked froms 1 b
  pub to : IsMarked tos 1 b
  pub no_back : IsMarked backs 1 b → ⊥
  pub no_return : IsMarked returns 1 b → ⊥

-- the same by walks, where the rows of back have the edges turned round
pub record HasBetween (rows back : Rows) (a c : ℕ) : Type 0 where
  pub it : ℕ
  pub from : Walk rows a it
  pub to : Walk back c it
  pub no_back : Walk back a it → ⊥
  pub no_return : Walk rows c it → ⊥

-- the flags of the edges done so far
pub record AreDone (es done : Edges) (flags : List Bool) : Type 0 where
  pub long : length flags ≡ length done
  pub on : (i a c : ℕ) → slice_get done i ≡ Some (a, c) → IsFlagged flags i → IsRedundant es a c
  pub off : (i a c : ℕ) → slice_get done i ≡ Some (a, c) → IsRedundant es a c → IsFlagged flags i
