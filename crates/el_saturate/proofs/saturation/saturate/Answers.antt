use Rattle.std.proofs.Common.{subst, sym}
use Rattle.el_part.specs.Part.{view_of}
use Rattle.el_saturate.proofs.SaturationLemmas.{IsMade, fault_made, made_from, proper_made, rows_made, table_made}
use Rattle.el_saturate.specs.Table.{IsFaultOf}
use Rattle.el_saturate.proofs.saturation.saturate.Goals as goal

pub saturate-requires : goal.saturate-requires
saturate-requires c =
    let made : IsMade c.args.pool.now c.args.part.now c.in_ok-numbers.numbers.items c.in_ok-roles.roles.keys c.in_ok-over.over =
    made_from c.args.pool.now c.args.part.now c.in_ok-numbers.numbers.items c.as_slice.result.now c.in_ok-roles.roles.keys c.in_ok-over.over c.len-2.result c.occurring.result c.len-2.ensures.different c.requires c.occurring.ensures c.if-occurring-gt-MOST.false c.len-2.ensures.len c.in_ok-numbers.ensures c.in_ok-roles.ensures.once c.in_ok-roles.ensures.axioms c.in_ok-roles.ensures.restrictions c.as_slice.ensures.value c.in_ok-over.ensures in
    record { proper = proper_made c.args.pool.now c.args.part.now c.in_ok-numbers.numbers.items c.in_ok-roles.roles.keys c.in_ok-over.over made }

pub returns-in-Ok-clause-ok : goal.returns-in-Ok-clause-ok
returns-in-Ok-clause-ok c =
    let made : IsMade c.args.pool.now c.args.part.now c.in_ok-numbers.numbers.items c.in_ok-roles.roles.keys c.in_ok-over.over =
    made_from c.args.pool.now c.args.part.now c.in_ok-numbers.numbers.items c.as_slice.result.now c.in_ok-roles.roles.keys c.in_ok-over.over c.len-2.result c.occurring.result c.len-2.ensures.different c.requires c.occurring.ensures c.if-occurring-gt-MOST.false c.len-2.ensures.len c.in_ok-numbers.ensures c.in_ok-roles.ensures.once c.in_ok-roles.ensures.axioms c.in_ok-roles.ensures.restrictions c.as_slice.ensures.value c.in_ok-over.ensures in
    table_made c.args.pool.now c.args.part.now c.in_ok-numbers.numbers.items c.in_ok-roles.roles.keys c.in_ok-over.over c.args.limit c.in-Ok.table c.of.result made c.in-Ok.ensures.ok c.of.ensures

pub returns-in-Ok-clause-rows : goal.returns-in-Ok-clause-rows
returns-in-Ok-clause-rows c =
    let made : IsMade c.args.pool.now c.args.part.now c.in_ok-numbers.numbers.items c.in_ok-roles.roles.keys c.in_ok-over.over =
    made_from c.args.pool.now c.args.part.now c.in_ok-numbers.numbers.items c.as_slice.result.now c.in_ok-roles.roles.keys c.in_ok-over.over c.len-2.result c.occurring.result c.len-2.ensures.different c.requires c.occurring.ensures c.if-occurring-gt-MOST.false c.len-2.ensures.len c.in_ok-numbers.ensures c.in_ok-roles.ensures.once c.in_ok-roles.ensures.axioms c.in_ok-roles.ensures.restrictions c.as_slice.ensures.value c.in_ok-over.ensures in
    rows_made c.args.pool.now c.args.part.now c.in_ok-numbers.numbers.items c.in_ok-roles.roles.keys c.in_ok-over.over c.args.limit c.in-Ok.table c.of.result made c.in-Ok.ensures.ok c.of.ensures

pub returns-in-Err-clause-err : goal.returns-in-Err-clause-err
returns-in-Err-clause-err c =
    let made : IsMade c.args.pool.now c.args.part.now c.in_ok-numbers.numbers.items c.in_ok-roles.roles.keys c.in_ok-over.over =
    made_from c.args.pool.now c.args.part.now c.in_ok-numbers.numbers.items c.as_slice.result.now c.in_ok-roles.roles.keys c.in_ok-over.over c.len-2.result c.occurring.result c.len-2.ensures.different c.requires c.occurring.ensures c.if-occurring-gt-MOST.false c.len-2.ensures.len c.in_ok-numbers.ensures c.in_ok-roles.ensures.once c.in_ok-roles.ensures.axioms c.in_ok-roles.ensures.restrictions c.as_slice.ensures.value c.in_ok-over.ensures in
    subst (IsFaultOf (view_of c.args.pool.now c.args.part.now) c.args.limit) (sym c.told.ensures) (fault_made c.args.pool.now c.args.part.now c.in_ok-numbers.numbers.items c.in_ok-roles.roles.keys c.in_ok-over.over c.args.limit c.in-Err.fault made c.in-Err.ensures.err)
