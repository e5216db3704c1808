-- What is found of the rest is what is found of all.
use Rattle.std.proofs.Common.{◌≡◌, drop, map}
use Rattle.owl_to_obo.specs.Clashes.{given_meant}
use Rattle.owl_to_obo.specs.inner.Clashing.{clash_from}
use Rattle.owl_to_obo.proofs.least.clash_from.Given as goal

abbrev pub invariant-loop-next : goal.invariant-loop-next
invariant-loop-next l = clash_from (given_meant l.start) (map given_meant (drop l.next-index l.others)) ≡ clash_from (given_meant l.first) (map given_meant l.others)
