use Rattle.std.proofs.Common.{◌≡◌, take}
use Rattle.std.specs.List.{flat_map}
use Rattle.el_saturate.specs.inner.Numbers.{chain_in}
use Rattle.el_saturate.proofs.numbered.chains.Given as goal

abbrev pub invariant-loop-at : goal.invariant-loop-at
invariant-loop-at l = l.made.items ≡ flat_map (chain_in l.roles.keys) (take l.at l.part.axioms)
