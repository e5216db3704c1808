use Rattle.std.proofs.Common.{length, ◌-◌, ℕ}
use Rattle.obo_clause.specs.ReadingLines.{is_before_colon}
use Rattle.clause_reader.proofs.ScanLemmas.{RunsTo}
use Rattle.clause_reader.proofs.bytes.colon_place.Given as goal

abbrev pub invariant-loop-place : goal.invariant-loop-place
invariant-loop-place l = RunsTo ℕ is_before_colon l.bytes l.place

abbrev pub decreases-loop-place : goal.decreases-loop-place
decreases-loop-place l = length l.bytes - l.place
