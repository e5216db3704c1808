use Rattle.std.proofs.Common.{◌≡◌, take}
use Rattle.module_extract.specs.Module.{on_count}
use Rattle.star_module.proofs.alternation.count.Given as goal

abbrev pub invariant-loop-at : goal.invariant-loop-at
invariant-loop-at l = l.set ≡ on_count (take l.at l.flags.items)
