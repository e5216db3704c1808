-- The items so far are those of the turns so far.
use Rattle.std.proofs.Common.{◌≡◌}
use Rattle.text_sets.specs.Keyed.{items_of}
use Rattle.text_sets.proofs.keyed.items_of.Given as goal

abbrev pub invariant-loop-one : goal.invariant-loop-one
invariant-loop-one g l = l.items.items ≡ items_of l.yielded
