use Rattle.std.proofs.Common.{arith}
use Rattle.fact_rows.proofs.Places.{in_from_get}
use Rattle.el_taxonomy.proofs.Numbers.{cell_none, cell_number, match_more, past_none}
use Rattle.el_taxonomy.proofs.numbering.class_of.Goals as goal

pub node-requires : goal.node-requires
node-requires c = c.requires.within c.occurs-node.result (in_from_get c.args.part.now.occurring c.args.number c.occurs-node.result c.occurs-node.ensures)

pub returns : goal.returns
returns c =
    match_more c.class_in.result
    (cell_none c.args.pool.now c.args.part.now c.args.number c.occurs-node.result c.node.result.now c.occurs-node.ensures c.node.ensures.cell)
    (λ iri. cell_number c.args.pool.now c.args.part.now c.args.number c.occurs-node.result c.node.result.now iri.now c.occurs-node.ensures c.node.ensures.cell)
    c.class_in.ensures

pub returns-then-number-occurring : goal.returns-then-number-occurring
returns-then-number-occurring c = past_none c.args.pool.now c.args.part.now c.args.number (λ low. let over = c.if-number-occurring.true in let is = c.occurring.ensures in omega (arith, low, over, is))
