-- Flags of edges by their places, as walks from one rank after the other set them. (Own.)
use Rattle.std.specs.Prelude.{◌≡◌, ℕ, ◌<◌, Bool, List, length, ◌⊎◌}
use Rattle.fact_rows.specs.Member.{In}
use Rattle.fact_rows.specs.Rows.{row}
use Rattle.fact_rows.specs.Marks.{IsFlagged, IsMarked}
use Rattle.edge_detours.specs.inner.Rows.{Rows}
use Rattle.edge_detours.specs.inner.Detours.{HasDetour}

-- the flags of the targets that are marked are set too
pub record Flags (ts : List (ℕ × ℕ)) (k : ℕ) (marks : List ℕ) (old new : List Bool) : Type 0 where
  pub long : length new ≡ length old
  pub kept : (i : ℕ) → IsFlagged old i → IsFlagged new i
  pub each : (c i : ℕ) → In (c, i) ts → IsMarked marks k c → IsFlagged new i
  pub only : (i : ℕ) → IsFlagged new i → IsFlagged old i ⊎ ((c : ℕ) × In (c, i) ts × IsMarked marks k c)

-- the edges from k that have a detour are flagged too
pub record Turns (rows : Rows) (k : ℕ) (marks seen : List ℕ) (old new : List Bool) : Type 0 where
  pub long : length new ≡ length old
  pub kept : (i : ℕ) → IsFlagged old i → IsFlagged new i
  pub each : (c i : ℕ) → In (c, i) (row rows k) → HasDetour rows k c → IsFlagged new i
  pub only : (i : ℕ) → IsFlagged new i → IsFlagged old i ⊎ ((c : ℕ) × In (c, i) (row rows k) × HasDetour rows k c)
  pub others : (s x : ℕ) → IsMarked seen s x → (s ≡ k) ⊎ IsMarked marks s x

-- the edges from each number below n that have a detour are flagged too
pub record AreFlagged (rows : Rows) (n : ℕ) (old new : List Bool) : Type 0 where
  pub long : length new ≡ length old
  pub kept : (i : ℕ) → IsFlagged old i → IsFlagged new i
  pub each : (k c i : ℕ) → k < n → In (c, i) (row rows k) → HasDetour rows k c → IsFlagged new i
  pub only : (i : ℕ) → IsFlagged new i → IsFlagged old i ⊎ ((k : ℕ) × (c : ℕ) × In (c, i) (row rows k) × HasDetour rows k c)

-- the edges from the numbers below k are flagged, and marks are fresh from k on
pub record IsUnderWay (rows : Rows) (n k : ℕ) (marks : List ℕ) (old flags : List Bool) : Type 0 where
  pub marks_long : length marks ≡ n
  pub fresh : (s x : ℕ) → IsMarked marks s x → (s < k) ⊎ (s ≡ n)
  pub flagged : AreFlagged rows k old flags
