use Rattle.std.proofs.Common.{◌≡◌, take}
use Rattle.owl_ontology.specs.Ontology.{axioms_of}
use Rattle.reduce_edges.specs.inner.Staying.{flags_left, stays_of}
use Rattle.reduce_edges.proofs.staying.staying.Given as goal

abbrev pub invariant-loop-at : goal.invariant-loop-at
invariant-loop-at l = (l.stays.items ≡ stays_of l.keep_annotated (take l.at (axioms_of l.ontology.entries)) l.fn.redundant) × (l.rest ≡ flags_left (take l.at (axioms_of l.ontology.entries)) l.fn.redundant)
