use Rattle.std.proofs.Common.{◌<◌, ◌+◌, arith, sym, ◌∙◌, length}
use Rattle.owl_axioms.proofs.Adding.{get_from_read}
use Rattle.module_extract.proofs.Counting.{count_next, flag_most}
use Rattle.star_module.proofs.alternation.count.Goals as goal

pub overflow_add-set : goal.overflow_add-set
overflow_add-set c =
    let v = c.args.flags.now in
    let at = get_from_read v.items c.loop-at.at c.index.result.now (omega arith) c.index.ensures in
    let most = flag_most v.items c.loop-at.at c.index.result.now at in
    let fits : length v.items < 9223372036854775808 = omega (arith, v.ok, v.small) in
    omega (arith, most, fits, c.loop-at.invariant, c.one-set.ensures)

pub loop-at-preserved : goal.loop-at-preserved
loop-at-preserved c =
    let v = c.args.flags.now in
    let at = get_from_read v.items c.loop-at.at c.index.result.now (omega arith) c.index.ensures in
    (λ i. c.loop-at.invariant i + c.one-set.ensures i) ∙ sym (count_next v.items c.loop-at.at c.index.result.now at)
