use Rattle.std.proofs.Common.{◌∙◌, sym, subst}
use Rattle.edge_detours.specs.Reach.{AreWithin}
use Rattle.edge_detours.proofs.RootLemmas.{within_swapped}
use Rattle.edge_detours.proofs.by_walks.redundant_by_walks.Goals as goal

pub rows_of-requires-2-clause-within : goal.rows_of-requires-2-clause-within
rows_of-requires-2-clause-within c = subst (AreWithin c.args.node_count) (sym (c.as_slice.ensures.value ∙ c.in_ok-turned.ensures)) (within_swapped c.args.edges.now c.args.node_count c.requires.within)
