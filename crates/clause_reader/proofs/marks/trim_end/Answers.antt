use Rattle.std.proofs.Common.{sym}
use Rattle.obo_clause.specs.Vocabulary.{is_space}
use Rattle.clause_reader.proofs.ScanLemmas.{trims-end, trims-on, trims-stop}
use Rattle.clause_reader.proofs.marks.trim_end.Goals as goal
use Rattle.clause_reader.proofs.marks.trim_end.Goals.{then-loop-end-test+else-is_in, else-loop-end-test}

pub loop-end-preserved : goal.loop-end-preserved
loop-end-preserved c =
    trims-on is_space c.args.marks.now c.loop-end.end _ c.loop-end.invariant c.loop-end-test.true (sym c.if-is_in.ensures)

pub returns : goal.returns
returns c =
    elim c.loop-end-test.branch [ then-loop-end-test+else-is_in w ↦ trims-stop is_space c.args.marks.now c.loop-end.end _ c.loop-end.invariant w.loop-end-test.true (sym w.if-is_in.ensures) | else-loop-end-test w ↦ trims-end is_space c.args.marks.now c.loop-end.end c.loop-end.invariant w.loop-end-test.false ]
