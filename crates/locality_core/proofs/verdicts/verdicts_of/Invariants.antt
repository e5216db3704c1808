use Rattle.std.proofs.Common.{◌≡◌, map, take}
use Rattle.owl_axioms.specs.Signature.{scope_of}
use Rattle.locality_tables.specs.Verdict.{verdict}
use Rattle.locality_core.proofs.verdicts.verdicts_of.Given as goal

abbrev pub invariant-nodes : goal.invariant-nodes
invariant-nodes g l = l.found.items ≡ map (verdict g.L.Locality.CLASSES g.L.Locality.ROLES (scope_of l.sig)) (take l.at l.pool)
