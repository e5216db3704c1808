use Rattle.expr_pool.proofs.ProperLemmas.{cell_rises}
use Rattle.expr_pool.proofs.laws.operands_rise.Goals as goal

pub returns : goal.returns
returns c = cell_rises c.args.pool.now c.args.cell.now
