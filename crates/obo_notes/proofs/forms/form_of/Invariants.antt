-- The form is that of a row that is left.
use Rattle.std.proofs.Common.{◌≡◌, drop}
use Rattle.text_sets.specs.Parts.{first_some}
use Rattle.obo_notes.specs.Notes.{form_of}
use Rattle.obo_notes.specs.inner.Rows.{form_in}
use Rattle.obo_notes.proofs.forms.form_of.Given as goal

abbrev pub invariant-loop-row : goal.invariant-loop-row
invariant-loop-row l = first_some (form_in l.tag) (drop l.row-index l.table) ≡ form_of l.tag
