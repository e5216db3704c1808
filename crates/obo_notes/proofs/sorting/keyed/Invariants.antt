-- The items so far, and their texts, are those of the turns so far.
use Rattle.obo_notes.proofs.SortLemmas.{AreBeside}
use Rattle.obo_notes.proofs.sorting.keyed.Given as goal

abbrev pub invariant-loop-item : goal.invariant-loop-item
invariant-loop-item g l = AreBeside g.T.Printed.text l.keyed.items l.yielded
