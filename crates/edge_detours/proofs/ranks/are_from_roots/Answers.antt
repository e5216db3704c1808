use Rattle.edge_detours.proofs.RootLemmas.{spread_begins, spread_next}
use Rattle.edge_detours.specs.inner.Roots.{ReachesSame}
use Rattle.fact_rows.specs.Rows.{row}
use Rattle.edge_detours.proofs.ranks.are_from_roots.Goals as goal

pub loop-turn-init : goal.loop-turn-init
loop-turn-init c = spread_begins c.args.rows.now c.args.ranks.now c.args.roots.now c.admit_roots.new.flags c.admit_roots.new.stack.items c.in_ok-admit_roots.ensures.flags c.in_ok-admit_roots.ensures.stack

pub loop-turn-preserved : goal.loop-turn-preserved
loop-turn-preserved c =
    let r : ReachesSame (row c.args.rows.now c.in-Some.x) c.args.ranks.now c.in-Some.x c.loop-turn.flags c.reach_same.new.flags c.pop.new.self.items c.reach_same.new.stack.items = rw c.pairs_at.ensures at c.in_ok-reach_same.ensures in
    spread_next c.args.rows.now c.args.ranks.now c.args.roots.now c.in-Some.x c.loop-turn.flags c.reach_same.new.flags c.pop.new.self.items c.reach_same.new.stack.items (rw c.in-Some.ensures.items at c.loop-turn.invariant) r
