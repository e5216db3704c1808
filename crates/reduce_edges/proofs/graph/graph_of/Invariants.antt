use Rattle.std.proofs.Common.{take}
use Rattle.owl_ontology.specs.Ontology.{axioms_of}
use Rattle.reduce_edges.specs.Edges.{edges_of}
use Rattle.reduce_edges.specs.inner.Numbered.{StandFor}
use Rattle.reduce_edges.proofs.graph.graph_of.Given as goal

abbrev pub invariant-loop-at : goal.invariant-loop-at
invariant-loop-at l = StandFor l.graph.names.keys l.graph.edges.items (edges_of (take l.at (axioms_of l.ontology.entries)))
