use Rattle.std.proofs.Common.{◌+◌, ap, drop, sym, ◌∙◌}
use Rattle.std.specs.BTreeMap.{get}
use Rattle.std.specs.Cmp.Lexicographic.{slice_cmp}
use Rattle.std.specs.Ordering.{nat_cmp}
use Rattle.obo_frames.specs.inner.Summary.{summary_of}
use Rattle.obo_frames.proofs.ListLemmas.{left_is}
use Rattle.obo_frames.proofs.groups.summed.Goals as goal

pub loop-operand-preserved : goal.loop-operand-preserved
loop-operand-preserved c group =
    let operands = c.args.operands.now in
    let at = c.loop-operand.operand-index in
    ap (λ held. summary_of group held (drop (at + 1) operands)) (c.in_ok-add_operand.ensures group)
    ∙ ap (summary_of group (get (slice_cmp nat_cmp) c.loop-operand.groups group)) (sym (left_is operands at c.operand-item.result c.loop-operand-test.true c.operand-item.is))
    ∙ c.loop-operand.invariant group
