-- With a qualifier that has a meaning of its own nothing is stated.
use Rattle.std.proofs.Common.{sym, ap, ◌∙◌}
use Rattle.std.specs.List.{list_any}
use Rattle.std.proofs.lemmas.Result.{IfOk-weaker}
use Rattle.obo_clause.specs.declared.clause.Qualifier.{Qualifier}
use Rattle.obo_notes.specs.Context.{reading_in}
use Rattle.obo_notes.specs.Keys.{is_reserved_key}
use Rattle.obo_statements.specs.inner.Rows.{meant}
use Rattle.obo_statements.proofs.MeaningTexts.{nothing_stated, plainly_stated}
use Rattle.obo_statements.proofs.meaning.stated.Goals as goal

pub returns-then-has_extras : goal.returns-then-has_extras
returns-then-has_extras c =
    nothing_stated (reading_in c.args.space.now) c.args.x.now (meant c.args.statement) c.args.clause.now.qualifiers c.args.clause.now.value
    (ap (list_any (λ (q : Qualifier). is_reserved_key q.key)) (sym c.as_slice.ensures) ∙ sym c.has_extras.ensures ∙ c.if-has_extras.true)

pub returns-else-has_extras : goal.returns-else-has_extras
returns-else-has_extras c =
    let none = ap (list_any (λ (q : Qualifier). is_reserved_key q.key)) (sym c.as_slice.ensures) ∙ sym c.has_extras.ensures ∙ c.if-has_extras.false in
    let same = plainly_stated (reading_in c.args.space.now) c.args.x.now (meant c.args.statement) c.args.clause.now.qualifiers c.args.clause.now.value none in
    IfOk-weaker c.stated_plainly.result _ _ (λ body is. is ∙ same) c.stated_plainly.ensures
