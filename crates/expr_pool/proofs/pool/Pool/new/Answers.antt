use Rattle.std.proofs.Common.{ap, subst, sym, ◌∙◌}
use Rattle.expr_pool.proofs.PoolLemmas.{pool_none, trees_none}
use Rattle.expr_pool.specs.Pool.{IsPool, trees_of}
use Rattle.expr_pool.proofs.pool.Pool.new.Goals as goal

pub invariant_of-result : goal.invariant_of-result
invariant_of-result c = subst IsPool (sym c.with_hasher.ensures.empty) pool_none

pub returns : goal.returns
returns c = ap trees_of c.with_hasher.ensures.empty ∙ trees_none
