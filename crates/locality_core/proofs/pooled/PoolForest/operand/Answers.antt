use Rattle.std.proofs.Common.{◌<◌, arith, length}
use Rattle.std.proofs.lemmas.Option.{slice_get-get_or}
use Rattle.locality_core.proofs.Cells.{operand_is, operand_within}
use Rattle.locality_core.proofs.pooled.PoolForest.operand.Goals as goal

pub offset_bounds-parts-at : goal.offset_bounds-parts-at
offset_bounds-parts-at c = let l = operand_within c.args.self.now c.args.tree c.node.result.now c.node.ensures.cell c.args.at c.requires.within c.parts.result.now c.parts.ensures in omega (arith, l, c.parts.type_inv)

pub bounds-parts-at : goal.bounds-parts-at
bounds-parts-at c = operand_within c.args.self.now c.args.tree c.node.result.now c.node.ensures.cell c.args.at c.requires.within c.parts.result.now c.parts.ensures

pub returns-clause-stands : goal.returns-clause-stands
returns-clause-stands c =
    let l : c.args.at < length c.parts.result.now = operand_within c.args.self.now c.args.tree c.node.result.now c.node.ensures.cell c.args.at c.requires.within c.parts.result.now c.parts.ensures in
    operand_is c.args.self.now c.args.tree c.node.result.now c.node.ensures.cell c.args.at c.requires.within c.parts.result.now _ c.parts.ensures (slice_get-get_or c.parts.result.now c.args.at _ l)
