use Rattle.std.proofs.Common.{sym}
use Rattle.obo_lexer.specs.Tokens.{is_blank}
use Rattle.clause_reader.proofs.ScanLemmas.{trims-end, trims-on, trims-stop}
use Rattle.clause_reader.proofs.bytes.without_last_blanks.Goals as goal
use Rattle.clause_reader.proofs.bytes.without_last_blanks.Goals.{then-loop-end-test+else-is_blank, else-loop-end-test}

pub loop-end-preserved : goal.loop-end-preserved
loop-end-preserved c =
    trims-on is_blank c.args.bytes.now c.loop-end.end 0 c.loop-end.invariant c.loop-end-test.true (sym c.if-is_blank.ensures)

pub returns : goal.returns
returns c =
    elim c.loop-end-test.branch [ then-loop-end-test+else-is_blank w ↦ trims-stop is_blank c.args.bytes.now c.loop-end.end 0 c.loop-end.invariant w.loop-end-test.true (sym w.if-is_blank.ensures) | else-loop-end-test w ↦ trims-end is_blank c.args.bytes.now c.loop-end.end c.loop-end.invariant w.loop-end-test.false ]
