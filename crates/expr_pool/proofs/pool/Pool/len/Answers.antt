use Rattle.std.proofs.Common.{ap, length, subst, sym, ◌∙◌}
use Rattle.expr_pool.proofs.PoolLemmas.{pool_different, pool_long}
use Rattle.expr_pool.specs.Pool.{AreDifferent}
use Rattle.expr_pool.proofs.pool.Pool.len.Goals as goal

pub returns-clause-len : goal.returns-clause-len
returns-clause-len c = c.len.ensures.len ∙ sym (pool_long c.self.inside.cells.keys c.self.invariant) ∙ ap length c.self.view_is

pub returns-clause-different : goal.returns-clause-different
returns-clause-different c = subst AreDifferent c.self.view_is (pool_different c.self.inside.cells.keys c.self.invariant)
