use Rattle.std.proofs.Common.{◌≡◌, ℕ, List, None, drop}
use Rattle.std.specs.BTreeMap.{get}
use Rattle.std.specs.Cmp.Lexicographic.{slice_cmp}
use Rattle.std.specs.Ordering.{nat_cmp}
use Rattle.obo_frames.specs.inner.Summary.{summary_of}
use Rattle.obo_frames.proofs.groups.summed.Given as goal

abbrev pub invariant-loop-operand : goal.invariant-loop-operand
invariant-loop-operand l =
    (group : List ℕ) → summary_of group (get (slice_cmp nat_cmp) l.groups group) (drop l.operand-index l.operands) ≡ summary_of group None l.operands
