use Rattle.std.proofs.Common.{ap, subst, sym, ◌∙◌}
use Rattle.expr_pool.proofs.PoolLemmas.{pool_none, trees_none}
use Rattle.expr_pool.specs.Pool.{IsPool, trees_of}
use Rattle.expr_pool.proofs.pool.Pool.clear.Goals as goal

pub invariant_of-self : goal.invariant_of-self
invariant_of-self c = subst IsPool (sym c.clear.ensures.empty) pool_none

pub returns : goal.returns
returns c = ap trees_of c.clear.ensures.empty ∙ trees_none
