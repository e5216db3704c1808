use Rattle.std.proofs.Common.{sym}
use Rattle.clause_reader.specs.inner.Classes.{in_class}
use Rattle.clause_reader.proofs.ScanLemmas.{runs-begin, runs-on}
use Rattle.clause_reader.proofs.marks.run_end.Goals as goal

pub loop-end-init : goal.loop-end-init
loop-end-init c = runs-begin (in_class c.args.class) c.args.marks.now

pub loop-end-preserved : goal.loop-end-preserved
loop-end-preserved c =
    runs-on (in_class c.args.class) c.args.marks.now c.loop-end.end _ c.loop-end.invariant c.loop-end-test.true (sym c.if-is_in.ensures)
