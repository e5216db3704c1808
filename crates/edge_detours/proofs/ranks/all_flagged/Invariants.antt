use Rattle.std.proofs.Common.{◌≡◌, ℕ, ◌<◌, slice_get, Some, true}
use Rattle.edge_detours.proofs.ranks.all_flagged.Given as goal

abbrev pub invariant-loop-flag : goal.invariant-loop-flag
invariant-loop-flag l = (x : ℕ) → x < l.flag-index → slice_get l.flags x ≡ Some true
