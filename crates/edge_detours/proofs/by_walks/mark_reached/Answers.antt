use Rattle.std.proofs.Common.{arith, ◌≡◌, ◌∙◌, ◌∷◌, []}
use Rattle.edge_detours.proofs.WalkLemmas.{walking_begins, walking_next, walked}
use Rattle.edge_detours.specs.inner.Detours.{Pushes}
use Rattle.fact_rows.proofs.Members.{no_items}
use Rattle.fact_rows.specs.Rows.{row}
use Rattle.edge_detours.proofs.by_walks.mark_reached.Goals as goal

pub loop-x-init : goal.loop-x-init
loop-x-init c =
    let high = c.args.node_count in
    let p : Pushes ((c.args.start, 0) ∷ []) 0 high 1 c.args.marks.now c.push_one.new.marks [] c.push_one.new.stack.items = rw c.new-stack.ensures.items at (c.in_ok-push_one.ensures 0) in
    record {
      long = p.long ∙ c.requires.long;
      walking = walking_begins c.args.rows.now c.args.start high c.args.marks.now c.push_one.new.marks c.push_one.new.stack.items c.requires.clear (let f = c.requires.start in omega arith) p;
    }

pub loop-x-preserved : goal.loop-x-preserved
loop-x-preserved c =
    let high = c.args.node_count in
    let p : Pushes (row c.args.rows.now c.in-Some.x) 0 high 1 c.loop-x.marks c.push_unmarked.new.marks c.pop.new.self.items c.push_unmarked.new.stack.items = rw c.pairs_at.ensures at c.in_ok-push_unmarked.ensures in
    record {
      long = p.long ∙ c.loop-x.invariant.long;
      walking = walking_next c.args.rows.now c.args.start high c.in-Some.x c.loop-x.marks c.push_unmarked.new.marks c.pop.new.self.items c.push_unmarked.new.stack.items (rw c.in-Some.ensures.items at c.loop-x.invariant.walking) p;
    }

pub returns-clause-reached : goal.returns-clause-reached
returns-clause-reached c =
    let none : c.loop-x.stack.items ≡ [] = no_items c.loop-x.stack.items (let l = c.in_default.ensures.cases.0 in omega arith) in
    walked c.args.rows.now c.args.start c.args.node_count c.loop-x.marks c.requires.inside (rw none at c.loop-x.invariant.walking)
