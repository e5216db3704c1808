use Rattle.std.proofs.Common.{◌≡◌, ◌++◌, drop}
use Rattle.obo_frames.specs.Groups as spec
use Rattle.obo_frames.proofs.groups.operands_in.Given as goal

abbrev pub invariant-loop-one : goal.invariant-loop-one
invariant-loop-one l = l.operands.items ++ spec.operands_in l.tag l.name (drop l.one-index l.placed) ≡ spec.operands_in l.tag l.name l.placed
