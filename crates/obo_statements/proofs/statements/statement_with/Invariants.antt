-- What is stated is what a row that is left says.
use Rattle.std.proofs.Common.{◌≡◌, drop}
use Rattle.text_sets.specs.Parts.{first_some}
use Rattle.obo_statements.specs.Statements.{statement_in, statements_of}
use Rattle.obo_statements.specs.inner.Rows.{row_meant}
use Rattle.obo_statements.proofs.statements.statement_with.Given as goal

abbrev pub invariant-loop-row : goal.invariant-loop-row
invariant-loop-row l = first_some (λ row. statement_in l.tag (row_meant row)) (drop l.row-index l.table) ≡ first_some (statement_in l.tag) (statements_of l.fn.kind)
