use Rattle.std.proofs.Common.{take}
use Rattle.locality_core.specs.inner.Renewal.{IsAbove}
use Rattle.locality_core.proofs.index.add_parts.Given as goal

abbrev pub invariant-parts : goal.invariant-parts
invariant-parts l = IsAbove l.initial.wholes (take l.node-index l.nodes) l.at l.wholes
