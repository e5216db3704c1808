use Rattle.std.proofs.Common.{refl}
use Rattle.edge_detours.proofs.RootLemmas.{ranks_hold}
use Rattle.edge_detours.specs.inner.Roots.{AreFromRoots}
use Rattle.edge_detours.proofs.ranks.are_ranks.Goals as goal

pub returns : goal.returns
returns c = λ _.
    let f : AreFromRoots c.args.rows.now c.args.ranks.now c.in_ok-roots.roots.items = rw c.as_slice.ensures.value at (c.in_ok-are_from_roots.ensures c.if-not-branch.false) in
    let g : AreFromRoots c.args.back.now c.args.ranks.now c.in_ok-roots.roots.items = rw c.as_slice-2.ensures.value at (c.in_ok-are_from_roots-2.ensures c.if-not-branch-2.false) in
    ranks_hold c.args.edges.now c.args.node_count c.args.rows.now c.args.back.now c.args.ranks.now c.in_ok-roots.roots.items c.requires.rows c.requires.back c.if-ranks-node_count.false (c.if-not-are_below.ensures refl) (c.if-not-no_edge_falls.ensures refl) f g
