use Rattle.std.proofs.Common.{◌≤◌, arith, length, subst, sym}
use Rattle.expr_pool.proofs.PoolLemmas.{is_before_more}
use Rattle.expr_pool.specs.Part.{AreBefore}
use Rattle.locality_core.proofs.Indexing.{index_all, index_none, index_step}
use Rattle.locality_core.proofs.index.index_of.Goals as goal

pub nodes-init : goal.nodes-init
nodes-init c = index_none c.args.pool.now c.len-count.result c.in_ok-wholes.wholes c.in_ok-uses.uses c.in_ok-wholes.ensures c.len-count.ensures.len c.in_ok-uses.ensures.lists

pub add_parts-requires : goal.add_parts-requires
add_parts-requires c =
    let e = c.at.ensures in
    let m = c.nodes.invariant.many in
    let w = c.nodes-test.true in
    let f = c.len-count.ensures.len in
    let l : c.at.result.place ≤ length c.nodes.wholes = omega (arith, e, m, w, f) in
    subst (AreBefore (length c.nodes.wholes)) (sym c.parts.ensures) (is_before_more c.at.result.place (length c.nodes.wholes) l c.node-cell.result.now c.node-cell.ensures.before)

pub nodes-preserved : goal.nodes-preserved
nodes-preserved c =
    let w = c.nodes-test.true in
    let f = c.len-count.ensures.len in
    index_step c.args.pool.now c.len-count.ensures.different c.nodes.at (omega (arith, w, f)) c.at.result.place c.at.ensures c.node-cell.result.now c.node-cell.ensures.cell c.node-cell.ensures.before c.nodes.wholes c.nodes.uses
    c.nodes.invariant c.add_parts.new.wholes c.add_top.new.uses c.parts.result.now c.parts.ensures c.in_ok-add_parts.ensures c.in_ok-add_top.ensures

pub returns : goal.returns
returns c =
    let w = c.nodes-test.false in
    let f = c.len-count.ensures.len in
    index_all c.args.pool.now c.nodes.at c.nodes.wholes c.nodes.uses (omega (arith, w, f)) c.nodes.invariant
