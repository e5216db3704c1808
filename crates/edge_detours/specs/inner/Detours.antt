-- Detours, and the one walk that marks them for a start k. (Own.)
use Rattle.std.specs.Prelude.{◌≡◌, ℕ, ◌+◌, ◌<◌, ◌≤◌, ◌==◌, List, [], ◌∷◌, ◌++◌, length, ◌⊎◌, if◌then◌else◌}
use Rattle.fact_rows.specs.Member.{In}
use Rattle.fact_rows.specs.Rows.{row}
use Rattle.fact_rows.specs.Marks.{IsMarked}
use Rattle.edge_detours.specs.inner.Rows.{Rows, Walk}

-- a walk from k to x whose first two edges rise
pub record HasDetour (rows : Rows) (k x : ℕ) : Type 0 where
  pub first : ℕ
  pub second : ℕ
  pub place : ℕ
  pub next_place : ℕ
  pub out : In (first, place) (row rows k)
  pub up : k < first
  pub on : In (second, next_place) (row rows first)
  pub further : first < second
  pub to : Walk rows second x

-- how many marks are not k
abbrev pub unmarked : ℕ → List ℕ → ℕ
unmarked k [] = 0
unmarked k (m ∷ ms) = (if m == k then 0 else 1) + unmarked k ms

-- the targets from low up to high are marked, and those that were not wait
pub record Pushes (ts : List (ℕ × ℕ)) (low high k : ℕ) (old new before after : List ℕ) : Type 0 where
  pub added : List ℕ
  pub stack : after ≡ before ++ added
  pub from : (x : ℕ) → In x added → (i : ℕ) × In (x, i) ts
  pub above : (x : ℕ) → In x added → low ≤ x
  pub marked : (x : ℕ) → In x added → IsMarked new k x
  pub kept : (x : ℕ) → IsMarked old k x → IsMarked new k x
  pub only : (s x : ℕ) → IsMarked new s x → IsMarked old s x ⊎ ((s ≡ k) × In x added)
  pub each : (x i : ℕ) → In (x, i) ts → low ≤ x → x ≤ high → IsMarked new k x
  pub count : unmarked k new + length added ≡ unmarked k old
  pub long : length new ≡ length old

-- while the walk goes on: what is marked has a detour, and waits or has its own targets up to high marked
pub record IsGoing (rows : Rows) (k high : ℕ) (old marks stack : List ℕ) : Type 0 where
  pub long : length marks ≡ length old
  pub sound : (x : ℕ) → IsMarked marks k x → HasDetour rows k x
  pub others : (s x : ℕ) → IsMarked marks s x → (s ≡ k) ⊎ IsMarked old s x
  pub waits : (x : ℕ) → In x stack → IsMarked marks k x
  pub closed : (x : ℕ) → IsMarked marks k x → In x stack ⊎ ((y i : ℕ) → In (y, i) (row rows x) → x < y → y ≤ high → IsMarked marks k y)

-- of the first edges in a list the second edges' ends are marked, or the first edge's own end is
abbrev pub AreBegun : Rows → ℕ → ℕ → List (ℕ × ℕ) → List ℕ → Type 0
AreBegun rows k high ts marks = (d i : ℕ) → In (d, i) ts → k < d → d < high → IsMarked marks k d ⊎ ((e j : ℕ) → In (e, j) (row rows d) → d < e → e ≤ high → IsMarked marks k e)

-- marked by k is only what has a detour, and each target that has one
pub record MarksDetours (rows : Rows) (k : ℕ) (old new : List ℕ) : Type 0 where
  pub sound : (x : ℕ) → IsMarked new k x → HasDetour rows k x
  pub each : (c i : ℕ) → In (c, i) (row rows k) → HasDetour rows k c → IsMarked new k c
  pub others : (s x : ℕ) → IsMarked new s x → (s ≡ k) ⊎ IsMarked old s x
