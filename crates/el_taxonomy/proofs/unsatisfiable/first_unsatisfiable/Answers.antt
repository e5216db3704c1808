use Rattle.std.proofs.Common.{◌≡◌, arith, length}
use Rattle.el_taxonomy.proofs.Found.{judge}
use Rattle.el_taxonomy.proofs.unsatisfiable.first_unsatisfiable.Goals as goal

pub returns : goal.returns
returns c =
    let entries = c.args.ontology.now.entries in
    let long : c.loop-at.at ≡ length entries = let past = c.loop-at-test.false in let within = c.loop-at.auto.at-end in let is = c.len-at-end.ensures.len in omega (arith, past, within, is) in
    judge entries c.args.pool.now c.args.part.now c.requires.0 c.args.table.now c.requires.1 c.len-at-end.ensures.proper c.loop-at.at c.loop-at.found long c.loop-at.invariant
