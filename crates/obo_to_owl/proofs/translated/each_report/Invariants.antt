-- The reports so far are those of the clauses so far.
use Rattle.std.proofs.Common.{◌≡◌, map, take}
use Rattle.obo_to_owl.specs.Reports.{report_of}
use Rattle.obo_to_owl.specs.inner.Rows.{clause_of}
use Rattle.obo_to_owl.proofs.translated.each_report.Given as goal

abbrev pub invariant-loop-row : goal.invariant-loop-row
invariant-loop-row l = l.reports.items ≡ map report_of (map clause_of (take l.row-index l.left))
