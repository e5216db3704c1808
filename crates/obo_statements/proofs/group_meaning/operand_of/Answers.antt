-- With a qualifier that has a meaning of its own a clause stands for nothing.
use Rattle.std.proofs.Common.{sym, ap, ◌∙◌}
use Rattle.std.specs.List.{list_any}
use Rattle.std.proofs.lemmas.Result.{IfOk-weaker}
use Rattle.obo_clause.specs.declared.clause.Qualifier.{Qualifier}
use Rattle.obo_notes.specs.Context.{reading_in}
use Rattle.obo_notes.specs.Keys.{is_reserved_key}
use Rattle.obo_statements.specs.Groups.{group_meant}
use Rattle.obo_statements.proofs.MeaningTexts.{nothing_meant, plainly_meant}
use Rattle.obo_statements.proofs.group_meaning.operand_of.Goals as goal

pub returns-then-has_extras : goal.returns-then-has_extras
returns-then-has_extras c =
    nothing_meant (reading_in c.args.space.now) (group_meant c.args.group) c.args.clause.now
    (ap (list_any (λ (q : Qualifier). is_reserved_key q.key)) (sym c.as_slice.ensures) ∙ sym c.has_extras.ensures ∙ c.if-has_extras.true)

pub returns-else-has_extras : goal.returns-else-has_extras
returns-else-has_extras c =
    let none = ap (list_any (λ (q : Qualifier). is_reserved_key q.key)) (sym c.as_slice.ensures) ∙ sym c.has_extras.ensures ∙ c.if-has_extras.false in
    let same = plainly_meant (reading_in c.args.space.now) (group_meant c.args.group) c.args.clause.now none in
    IfOk-weaker c.operand_plainly.result _ _ (λ operand is. is ∙ same) c.operand_plainly.ensures
