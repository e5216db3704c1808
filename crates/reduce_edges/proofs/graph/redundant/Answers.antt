use Rattle.std.proofs.Common.{length, subst, sym}
use Rattle.edge_detours.specs.Reach.{AreWithin}
use Rattle.reduce_edges.proofs.Numbers.{apart_from, stands_within}
use Rattle.reduce_edges.proofs.graph.redundant.Goals as goal

pub redundant_edges-requires : goal.redundant_edges-requires
redundant_edges-requires c = record {
  within = subst (λ n. AreWithin n c.as_slice.result.now) (sym c.len-count.ensures.len)
      (subst (AreWithin (length c.args.graph.now.names.keys)) (sym c.as_slice.ensures.value)
      (stands_within c.args.graph.now.names.keys c.args.graph.now.edges.items c.requires.0 c.requires.1));
}

pub returns-clause-apart : goal.returns-clause-apart
returns-clause-apart c = apart_from c.args.graph.now.names.keys c.len-count.ensures.unique
