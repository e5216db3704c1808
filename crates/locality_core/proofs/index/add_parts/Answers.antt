use Rattle.std.proofs.Common.{◌<◌, arith, ap, get_or, length, ◌∙◌}
use Rattle.std.proofs.lemmas.Option.{slice_get-get_or}
use Rattle.expr_pool.specs.declared.cell.Node.{Node}
use Rattle.locality_core.proofs.Indexing.{above_all, above_next, above_none, node_within}
use Rattle.name_lists.specs.Lists.{list_with}
use Rattle.locality_core.proofs.index.add_parts.Goals as goal

pub parts-init : goal.parts-init
parts-init c = above_none c.args.wholes.now c.args.at

pub add-requires : goal.add-requires
add-requires c =
    let k = c.parts.node-index in
    let n : Node = get_or c.args.nodes.now k (record { place = 0 }) in
    let l : n.place < length c.args.wholes.now = node_within c.args.nodes.now k (length c.args.wholes.now) n c.requires (slice_get-get_or c.args.nodes.now k (record { place = 0 }) c.parts-test.true) in
    let e = c.place.ensures in
    let m = c.parts.invariant.long in
    omega (arith, l, e, m)

pub parts-preserved : goal.parts-preserved
parts-preserved c =
    let k = c.parts.node-index in
    let n : Node = get_or c.args.nodes.now k (record { place = 0 }) in
    let at = slice_get-get_or c.args.nodes.now k (record { place = 0 }) c.parts-test.true in
    let l : n.place < length c.args.wholes.now = node_within c.args.nodes.now k (length c.args.wholes.now) n c.requires at in
    let m = c.parts.invariant.long in
    above_next c.args.wholes.now c.parts.wholes c.add.new.self c.args.nodes.now k n c.args.at c.parts.invariant at (omega (arith, l, m)) (c.in_ok-add.ensures.added ∙ ap (λ p. list_with c.parts.wholes p c.args.at) c.place.ensures)

pub returns : goal.returns
returns c = above_all c.args.wholes.now c.parts.wholes c.args.nodes.now c.parts.node-index c.args.at c.parts-test.false c.parts.invariant
