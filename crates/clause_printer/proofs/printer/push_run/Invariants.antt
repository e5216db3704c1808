use Rattle.std.proofs.Common.{◌≡◌, ◌++◌, ◌==◌, true, drop}
use Rattle.clause_printer.specs.Printing as spec
use Rattle.clause_printer.proofs.printer.push_run.Given as goal

-- what is appended and what is left to append are the run
abbrev pub invariant-loop-index : goal.invariant-loop-index
invariant-loop-index l =
    l.out.items ++ spec.run_text (l.index == 0) (drop l.index l.text) ≡ l.fn.out.items ++ spec.run_text true l.text
