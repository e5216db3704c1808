use Rattle.std.proofs.Common.{◌≡◌, ◌++◌, take}
use Rattle.std.specs.List.{flat_map}
use Rattle.release_report.specs.EntryText.{dropped_text}
use Rattle.release_report.proofs.report.add_all_dropped.Given as goal

abbrev pub invariant-loop-clause : goal.invariant-loop-clause
invariant-loop-clause l = l.text.items ≡ l.fn.text.items ++ flat_map (dropped_text l.fn.name) (take l.clause-index l.dropped)
