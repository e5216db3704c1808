-- Counts of faults: they never fall, and stand still at the end of their type. (Own.)
use Rattle.std.specs.Prelude.{ℕ, ◌+◌, ◌-◌, ◌≤◌, ◌^◌, min}

-- what a count is after one more: it stands still at 2 ^ 64 - 1
abbrev pub count_after : ℕ → ℕ
count_after count = min (count + 1) (2 ^ 64 - 1)

-- the count rose at least once, or stands at its end
abbrev pub Rose : ℕ → ℕ → Type 0
Rose before now = count_after before ≤ now
