use Rattle.std.proofs.Common.{append-nil, sym}
use Rattle.clause_printer.proofs.LoopLemmas.{all_told, one_more}
use Rattle.obo_text.specs.inner.Names.{look_in}
use Rattle.obo_text.specs.inner.Rows.{row_text}
use Rattle.obo_text.proofs.text.push_rows.Goals as goal

pub loop-row-preserved : goal.loop-row-preserved
loop-row-preserved c =
    one_more (row_text (look_in c.args.names.now) c.args.kind) c.args.rows.now c.loop-row.row-index c.row-item.result c.row-item.result c.args.out.now.items c.loop-row.out.items _ c.loop-row-test.true c.row-item.is c.loop-row.invariant c.in_ok-push_row.ensures

pub loop-row-init : goal.loop-row-init
loop-row-init c = sym (append-nil c.args.out.now.items)

pub returns : goal.returns
returns c =
    all_told (row_text (look_in c.args.names.now) c.args.kind) c.args.rows.now c.loop-row.row-index c.args.out.now.items c.loop-row.out.items c.loop-row-test.false c.loop-row.invariant
