use Rattle.std.proofs.Common.{subst}
use Rattle.expr_pool.proofs.VisitLemmas.{pool_has_parts}
use Rattle.expr_pool.specs.Laws.{PartsHaveNodes}
use Rattle.expr_pool.proofs.laws.parts_have_nodes.Goals as goal

pub returns : goal.returns
returns c = subst PartsHaveNodes c.pool.view_is (pool_has_parts c.pool.inside.cells.keys c.pool.invariant)
