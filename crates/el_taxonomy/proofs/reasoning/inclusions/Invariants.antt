use Rattle.std.proofs.Common.{◌≡◌, take}
use Rattle.el_taxonomy.specs.inner.Adding.{said_of_all}
use Rattle.el_taxonomy.proofs.reasoning.inclusions.Given as goal

abbrev pub invariant-loop-one : goal.invariant-loop-one
invariant-loop-one l = l.bodies.keys ≡ said_of_all (take l.one-index l.edges)
