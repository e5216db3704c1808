use Rattle.std.proofs.Common.{ap, sym, ◌∙◌, take_all}
use Rattle.std.specs.Borrow.{Bor}
use Rattle.text_sets.specs.Parts.{each_some}
use Rattle.obo_clause.specs.declared.clause.Clause.{Clause}
use Rattle.obo_notes.specs.Context.{reading_in}
use Rattle.obo_notes.proofs.LoopLemmas.{each_some-more, each_some-none}
use Rattle.obo_statements.specs.Groups.{group_meant, operand_of}
use Rattle.obo_statements.proofs.MeaningLoops.{each_some-map}
use Rattle.obo_statements.proofs.group_meaning.operands_of.Goals as goal

pub returns-in-None : goal.returns-in-None
returns-in-None c =
    let part = operand_of (reading_in c.args.space.now) (group_meant c.args.group) in
    sym (each_some-map part (λ (clause : Bor Clause). clause.now) c.args.clauses.now
    ∙ each_some-none (λ (clause : Bor Clause). part clause.now) c.args.clauses.now c.loop-clause.clause-index c.clause-item.result c.loop-clause-test.true (ap (λ (clause : Bor Clause). part clause.now) (sym c.clause-item.is) ∙ sym c.in_ok-operand.ensures ∙ c.in-None.is))

pub loop-clause-preserved : goal.loop-clause-preserved
loop-clause-preserved c =
    let part = operand_of (reading_in c.args.space.now) (group_meant c.args.group) in
    each_some-more (λ (clause : Bor Clause). part clause.now) c.args.clauses.now c.loop-clause.clause-index c.clause-item.result c.loop-clause.operands.items c.push.new.self.items c.in-Some.operand c.loop-clause-test.true c.clause-item.is c.loop-clause.invariant (sym c.in_ok-operand.ensures ∙ c.in-Some.is) c.in_ok-push-in-Some.ensures.items

pub returns : goal.returns
returns c =
    let part = operand_of (reading_in c.args.space.now) (group_meant c.args.group) in
    sym (each_some-map part (λ (clause : Bor Clause). clause.now) c.args.clauses.now
    ∙ sym (ap (each_some (λ (clause : Bor Clause). part clause.now)) (take_all c.loop-clause.clause-index c.args.clauses.now c.loop-clause-test.false))
    ∙ c.loop-clause.invariant)
