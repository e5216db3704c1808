-- The qualifiers so far are the annotations of the turns so far.
use Rattle.std.proofs.Common.{◌≡◌, Some, take}
use Rattle.text_sets.specs.Parts.{each_some}
use Rattle.obo_notes.specs.Keys.{qualifier_of}
use Rattle.obo_notes.proofs.taking.each_qualifier.Given as goal

abbrev pub invariant-loop-side : goal.invariant-loop-side
invariant-loop-side l = each_some qualifier_of (take l.side-index l.sides) ≡ Some l.qualifiers.items
