use Rattle.std.proofs.Common.{◌≡◌, take}
use Rattle.owl_ontology.specs.Ontology.{axioms_of}
use Rattle.module_extract.specs.Module.{logical_flags}
use Rattle.module_extract.proofs.logic.logical.Given as goal

abbrev pub invariant-loop-at : goal.invariant-loop-at
invariant-loop-at l = l.flags.items ≡ logical_flags (take l.at (axioms_of l.ontology.entries))
