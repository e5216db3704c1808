-- The counts so far are those of the axioms so far.
use Rattle.std.proofs.Common.{◌≡◌, take}
use Rattle.owl_ontology.specs.Ontology.{axioms_of}
use Rattle.release_chain.specs.Counts.{counts_of}
use Rattle.release_chain.proofs.counting.counts_of.Given as goal

abbrev pub invariant-loop-at : goal.invariant-loop-at
invariant-loop-at l = l.counts ≡ counts_of (take l.at (axioms_of l.ontology.entries))
