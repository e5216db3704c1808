use Rattle.std.proofs.Common.{◌≡◌, ℕ, ◌+◌, ◌-◌, ◌<◌, ◌≤◌, arith, length}
use Rattle.expr_pool.proofs.PartLemmas.{closed_next, closed_none, keeps_next, sound_first, sound_next}
use Rattle.expr_pool.proofs.part.mark_parts.Goals as goal

pub loop-done-init : goal.loop-done-init
loop-done-init c = (c.requires.long, λ i m. m, closed_none c.args.pool.now c.args.flags.now.items, sound_first c.args.pool.now c.args.flags.now.items)

pub loop-done-preserved : goal.loop-done-preserved
loop-done-preserved c =
    let at : ℕ = c.len-n.result - 1 - c.loop-done.done in
    let fs = c.loop-done.flags.items in
    let gs = c.mark_at.new.flags.items in
    let now = c.mark_at.ensures in
    let test : c.loop-done.done < c.len-n.result = c.loop-done-test.true in
    let long : c.len-n.result ≡ length c.args.pool.now = c.len-n.ensures.len in
    let e : at + c.loop-done.done + 1 ≡ length c.args.pool.now = omega arith in (
      now.long,
      keeps_next c.args.flags.now.items fs gs c.loop-done.invariant.1 now.kept,
      closed_next c.args.pool.now at c.loop-done.done fs gs e now.kept now.parts now.sound c.loop-done.invariant.2,
      sound_next c.args.pool.now at c.args.flags.now.items fs gs c.loop-done.invariant.3 now.sound,
    )

pub returns-clause-closed : goal.returns-clause-closed
returns-clause-closed c =
    let all : c.len-n.result ≤ c.loop-done.done = c.loop-done-test.false in
    let long : c.len-n.result ≡ length c.args.pool.now = c.len-n.ensures.len in
    λ i below marked. c.loop-done.invariant.2 i below (omega arith) marked
