-- The clause is that of a row that is left.
use Rattle.std.proofs.Common.{◌≡◌, drop}
use Rattle.text_sets.specs.Parts.{first_some}
use Rattle.obo_notes.specs.Context.{writing_in}
use Rattle.obo_notes.specs.Notes.{spelling}
use Rattle.obo_notes.specs.inner.Rows.{clause_in}
use Rattle.obo_notes.proofs.clause.clause_of.Given as goal

abbrev pub invariant-loop-row : goal.invariant-loop-row
invariant-loop-row l =
    first_some (clause_in (writing_in l.space) l.kind l.note) (drop l.row-index l.table) ≡ spelling (writing_in l.space) l.kind l.note
