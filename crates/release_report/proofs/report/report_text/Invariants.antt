use Rattle.std.proofs.Common.{◌≡◌, take}
use Rattle.release_report.specs.EntryText.{report_text}
use Rattle.release_report.proofs.report.report_text.Given as goal

abbrev pub invariant-loop-entry : goal.invariant-loop-entry
invariant-loop-entry l = l.text.items ≡ report_text (take l.entry-index l.entries.items)
