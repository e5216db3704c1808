use Rattle.std.proofs.Common.{◌≡◌, take}
use Rattle.owl_axioms.proofs.sig.copy_set.Given as goal

abbrev pub invariant-loop-at : goal.invariant-loop-at
invariant-loop-at l = l.twin.keys ≡ take l.at l.set.keys
