use Rattle.std.proofs.Common.{◌≡◌, take}
use Rattle.std.specs.List.{flat_map}
use Rattle.el_saturate.specs.inner.Numbers.{domain_in}
use Rattle.el_saturate.proofs.numbered.domains.Given as goal

abbrev pub invariant-loop-at : goal.invariant-loop-at
invariant-loop-at l = l.made.items ≡ flat_map (domain_in l.numbers l.roles.keys) (take l.at l.part.axioms)
