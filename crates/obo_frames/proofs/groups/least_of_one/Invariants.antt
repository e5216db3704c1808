use Rattle.std.proofs.Common.{◌≡◌, drop, filter, map}
use Rattle.std.specs.BTreeMap.{get}
use Rattle.std.specs.Cmp.Lexicographic.{slice_cmp}
use Rattle.std.specs.Ordering.{nat_cmp}
use Rattle.obo_frames.specs.Documents.{least_line}
use Rattle.obo_frames.specs.inner.Summary.{is_one}
use Rattle.obo_frames.proofs.groups.least_of_one.Given as goal

abbrev pub invariant-loop-operand : goal.invariant-loop-operand
invariant-loop-operand l =
    least_line l.least (map (λ one. one.line) (filter (λ one. is_one (get (slice_cmp nat_cmp) l.groups one.group)) (drop l.operand-index l.operands)))
    ≡ least_line l.fn.best (map (λ one. one.line) (filter (λ one. is_one (get (slice_cmp nat_cmp) l.groups one.group)) l.operands))
