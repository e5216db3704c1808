use Rattle.std.proofs.Common.{subst, sym, take}
use Rattle.owl_ontology.specs.Ontology.{axioms_of}
use Rattle.reduce_edges.specs.Edges.{edges_of}
use Rattle.reduce_edges.specs.inner.Numbered.{StandFor}
use Rattle.reduce_edges.proofs.Numbers.{edges_at}
use Rattle.reduce_edges.proofs.graph.graph_of.Goals as goal

pub loop-at-preserved : goal.loop-at-preserved
loop-at-preserved c =
    let axioms = axioms_of c.args.ontology.now.entries in
    subst (StandFor c.add_edge.new.graph.names.keys c.add_edge.new.graph.edges.items) (sym (edges_at axioms c.loop-at.at c.get.result.now c.get.ensures.found))
    (c.in_ok-add_edge.ensures (edges_of (take c.loop-at.at axioms)) c.loop-at.invariant)
