use Rattle.expr_pool.proofs.PartLemmas.{parts_there}
use Rattle.expr_pool.proofs.laws.parts_are_there.Goals as goal

pub returns : goal.returns
returns c = parts_there c.args.pool.now c.args.node.place c.args.cell.now
