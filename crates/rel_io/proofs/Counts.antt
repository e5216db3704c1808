-- Counts that rose.
use Rattle.std.proofs.Common.{◌≡◌, ℕ, ◌≤◌, arith}
use Rattle.rel_io.specs.Count.{Rose, count_after}

-- a count after one more rose
pub rose : (before now : ℕ) → now ≡ count_after before → Rose before now
rose before now e = omega (arith, e)

-- no count is below zero
pub from_zero : (n : ℕ) → 0 ≤ n
from_zero n = omega arith
