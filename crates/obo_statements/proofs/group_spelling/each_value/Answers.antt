use Rattle.std.proofs.Common.{ap, sym, take, ◌∙◌}
use Rattle.obo_notes.specs.Context.{reading_in, writing_in}
use Rattle.obo_notes.proofs.ContextLemmas.{Agree-in}
use Rattle.obo_notes.proofs.LoopLemmas.{each_some-more, each_some-none}
use Rattle.obo_statements.specs.Groups.{group_meant, operand_value}
use Rattle.obo_statements.proofs.GroupLaws.{told_values}
use Rattle.obo_statements.proofs.group_spelling.each_value.Goals as goal

pub loop-operand-preserved : goal.loop-operand-preserved
loop-operand-preserved c =
    each_some-more (operand_value (writing_in c.args.space.now) (group_meant c.args.group)) c.args.operands.now c.loop-operand.operand-index c.operand-item.result c.loop-operand.values.items _ c.in-Some.value c.loop-operand-test.true c.operand-item.is c.loop-operand.invariant (sym c.in_ok-value.ensures ∙ c.in-Some.is) c.in_ok-push-in-Some.ensures.items

pub returns-in-None-clause-values : goal.returns-in-None-clause-values
returns-in-None-clause-values c =
    let part = operand_value (writing_in c.args.space.now) (group_meant c.args.group) in
    sym (each_some-none part c.args.operands.now c.loop-operand.operand-index c.operand-item.result c.loop-operand-test.true (ap part (sym c.operand-item.is) ∙ sym c.in_ok-value.ensures ∙ c.in-None.is))

pub returns-clause-told : goal.returns-clause-told
returns-clause-told c =
    let space = c.args.space.now in
    told_values (reading_in space) (writing_in space) (Agree-in space) (group_meant c.args.group) (take c.loop-operand.operand-index c.args.operands.now) c.loop-operand.values.items c.loop-operand.invariant
