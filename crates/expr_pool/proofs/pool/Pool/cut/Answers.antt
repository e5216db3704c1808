use Rattle.std.proofs.Common.{◌≡◌, ◌≤◌, ap, arith, length, subst, sym, take, ◌∙◌}
use Rattle.expr_pool.proofs.PoolLemmas.{pool_long, pool_take, trees_of_take}
use Rattle.expr_pool.specs.Pool.{IsPool, trees_of}
use Rattle.expr_pool.proofs.pool.Pool.cut.Goals as goal

pub invariant_of-self : goal.invariant_of-self
invariant_of-self c =
    let long : length c.self.inside.cells.keys ≡ length c.args.self.now = sym (pool_long c.self.inside.cells.keys c.self.invariant) ∙ ap length c.self.view_is in
    subst IsPool (sym c.truncate.ensures.keys) (pool_take c.args.len c.self.inside.cells.keys (let r : c.args.len ≤ length c.args.self.now = c.requires in omega arith) c.self.invariant)

pub returns : goal.returns
returns c =
    let long : length c.self.inside.cells.keys ≡ length c.args.self.now = sym (pool_long c.self.inside.cells.keys c.self.invariant) ∙ ap length c.self.view_is in
    ap trees_of c.truncate.ensures.keys ∙ trees_of_take c.args.len c.self.inside.cells.keys (let r : c.args.len ≤ length c.args.self.now = c.requires in omega arith) ∙ ap (take c.args.len) c.self.view_is
