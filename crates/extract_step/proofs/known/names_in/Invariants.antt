use Rattle.std.proofs.Common.{◌≡◌, List, ℕ, take}
use Rattle.extract_step.specs.Known.{has_iri, is_known}
use Rattle.owl_axioms.specs.Signature.{scope_of}
use Rattle.owl_ontology.specs.Ontology.{axioms_of}
use Rattle.extract_step.proofs.known.names_in.Given as goal

abbrev pub invariant-loop-at : goal.invariant-loop-at
invariant-loop-at l = (iri : List ℕ) → has_iri (scope_of l.names) iri ≡ is_known (take l.at (axioms_of l.ontology.entries)) iri
