use Rattle.std.proofs.Common.{◌≡◌, ◌≤◌, ◌++◌, length, drop, ◌-◌}
use Rattle.obo_clause.specs.Marks.{marks_of}
use Rattle.clause_reader.proofs.marks.marks_of.Given as goal

-- the marks so far and those of the rest are all
abbrev pub invariant-loop-place : goal.invariant-loop-place
invariant-loop-place l = record {
  within : l.place ≤ length l.bytes;
  all : l.marks.items ++ marks_of (drop l.place l.bytes) ≡ marks_of l.bytes;
}

abbrev pub decreases-loop-place : goal.decreases-loop-place
decreases-loop-place l = length l.bytes - l.place
