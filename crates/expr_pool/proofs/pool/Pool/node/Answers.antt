use Rattle.std.proofs.Common.{◌≡◌, ◌<◌, Some, option_copied, ap, arith, length, slice_get, subst, sym, ◌∙◌}
use Rattle.expr_pool.proofs.PoolLemmas.{pool_before, pool_long, tree_of_place}
use Rattle.expr_pool.specs.Pool.{tree_of}
use Rattle.expr_pool.proofs.pool.Pool.node.Goals as goal

pub unwrap-requires : goal.unwrap-requires
unwrap-requires c =
    let long : length c.self.inside.cells.keys ≡ length c.args.self.now = sym (pool_long c.self.inside.cells.keys c.self.invariant) ∙ ap length c.self.view_is in
    c.get_index.ensures.found.1 (let r : c.args.node.place < length c.args.self.now = c.requires in omega arith)

pub returns-clause-cell : goal.returns-clause-cell
returns-clause-cell c =
    let here : slice_get c.self.inside.cells.keys c.args.node.place ≡ Some c.unwrap.result.now = sym c.get_index.ensures.key ∙ ap option_copied c.unwrap.ensures in
    subst (λ ts. slice_get ts c.args.node.place ≡ Some (tree_of ts c.unwrap.result.now)) c.self.view_is (tree_of_place c.self.inside.cells.keys c.args.node.place c.unwrap.result.now c.self.invariant here)

pub returns-clause-before : goal.returns-clause-before
returns-clause-before c =
    let here : slice_get c.self.inside.cells.keys c.args.node.place ≡ Some c.unwrap.result.now = sym c.get_index.ensures.key ∙ ap option_copied c.unwrap.ensures in
    pool_before c.self.inside.cells.keys c.args.node.place c.unwrap.result.now c.self.invariant here
