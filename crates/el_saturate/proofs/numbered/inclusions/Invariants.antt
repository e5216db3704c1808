use Rattle.std.proofs.Common.{◌≡◌, take}
use Rattle.std.specs.List.{flat_map}
use Rattle.el_saturate.specs.inner.Numbers.{inclusion_in}
use Rattle.el_saturate.proofs.numbered.inclusions.Given as goal

abbrev pub invariant-loop-at : goal.invariant-loop-at
invariant-loop-at l = l.made.items ≡ flat_map (inclusion_in l.numbers) (take l.at l.part.axioms)
