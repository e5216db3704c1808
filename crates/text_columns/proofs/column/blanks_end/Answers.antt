use Rattle.std.proofs.Common.{sym}
use Rattle.obo_lexer.specs.Tokens.{is_blank}
use Rattle.text_columns.proofs.ColumnLemmas.{runs-begin, runs-on}
use Rattle.text_columns.proofs.column.blanks_end.Goals as goal

pub loop-end-init : goal.loop-end-init
loop-end-init c = runs-begin is_blank c.args.text.now

pub loop-end-preserved : goal.loop-end-preserved
loop-end-preserved c =
    runs-on is_blank c.args.text.now c.loop-end.end _ c.loop-end.invariant c.loop-end-test.true (sym c.if-is_blank.ensures)
