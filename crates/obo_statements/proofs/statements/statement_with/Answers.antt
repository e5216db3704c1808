use Rattle.std.proofs.Common.{ap, sym, ◌∙◌}
use Rattle.text_sets.specs.Parts.{first_some}
use Rattle.obo_statements.specs.Statements.{statement_in}
use Rattle.obo_statements.specs.inner.Rows.{row_meant}
use Rattle.obo_statements.proofs.MeaningLoops.{first_some-map}
use Rattle.obo_statements.proofs.statements.statement_with.Goals as goal

pub loop-row-init : goal.loop-row-init
loop-row-init c =
    sym (first_some-map (statement_in c.args.tag.now) row_meant c.rows-table.result.now)
    ∙ ap (first_some (statement_in c.args.tag.now)) c.rows-table.ensures
