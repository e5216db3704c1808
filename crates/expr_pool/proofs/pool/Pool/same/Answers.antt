use Rattle.std.proofs.Common.{subst}
use Rattle.expr_pool.proofs.PoolLemmas.{pool_different, same_nodes}
use Rattle.expr_pool.specs.Pool.{AreDifferent}
use Rattle.expr_pool.proofs.pool.Pool.same.Goals as goal

pub returns : goal.returns
returns c = same_nodes c.args.self.now (subst AreDifferent c.self.view_is (pool_different c.self.inside.cells.keys c.self.invariant)) c.args.a c.args.b c.requires.a c.requires.b
