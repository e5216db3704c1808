use Rattle.std.proofs.Common.{◌≡◌, take}
use Rattle.extract_step.specs.Known.{has_iri, missing_count}
use Rattle.owl_axioms.specs.Signature.{scope_of}
use Rattle.extract_step.proofs.known.count_unknown.Given as goal

abbrev pub invariant-loop-at : goal.invariant-loop-at
invariant-loop-at l = l.count ≡ missing_count (has_iri (scope_of l.names)) (take l.at l.iris)
