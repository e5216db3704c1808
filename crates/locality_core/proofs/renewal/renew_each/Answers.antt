use Rattle.std.proofs.Common.{◌<◌, ◌+◌, subst, ◌∙◌, drop, get_or, length}
use Rattle.owl_axioms.specs.Signature.{scope_of}
use Rattle.locality_core.proofs.Renewing.{one_turn}
use Rattle.locality_core.proofs.Turns.{drop_all, drop_next, in_read, turn_long, turn_room, turn_within}
use Rattle.locality_core.specs.inner.Renewal.{IsRenewing}
use Rattle.locality_core.proofs.renewal.renew_each.Goals as goal

pub turn-sank-requires-clause-inside : goal.turn-sank-requires-clause-inside
turn-sank-requires-clause-inside g c = c.requires.inside (get_or c.args.list.now c.nodes.at-index 0) (in_read c.args.list.now c.nodes.at-index 0 c.nodes-test.true)

pub nodes-preserved : goal.nodes-preserved
nodes-preserved g c =
    let i = c.nodes.at-index in
    let xs = c.args.list.now in
    let at = get_or xs i 0 in
    let within : at < length c.args.pool.now = c.requires.inside at (in_read xs i 0 c.nodes-test.true) in
    let k = g.L.Locality.CLASSES in
    let r = g.L.Locality.ROLES in
    let s = scope_of c.args.sig.now in
    let ts = c.args.pool.now in
    let was = c.nodes.found.items in
    let waited = c.nodes.waiting.items in
    let now = c.turn-sank.new.found.items in
    let waits = c.turn-sank.new.waiting.items in
    let t = c.turn-sank.ensures.turn in
    record {
      renewing = λ wholes up first.
          one_turn k r s ts c.len-count.ensures.different wholes up c.parts_have_nodes.ensures at within (drop (i + 1) xs) was waited
          (subst (λ ys. IsRenewing k r s ts wholes ys was waited) (drop_next xs i 0 c.nodes-test.true) (c.nodes.invariant.renewing wholes up first)) now waits c.turn-sank.result t;
      long = turn_long k r s ts at was waited now waits c.turn-sank.result t ∙ c.nodes.invariant.long;
      room = turn_room k r s ts at was waited now waits c.turn-sank.result t ∙ c.nodes.invariant.room;
      within = turn_within k r s ts at was waited now waits (length ts) within c.nodes.invariant.within c.turn-sank.result t;
      capacity = c.turn-sank.ensures.capacity ∙ c.nodes.invariant.capacity;
    }

pub returns-clause-renewing : goal.returns-clause-renewing
returns-clause-renewing g c = λ wholes up first.
    subst (λ ys. IsRenewing g.L.Locality.CLASSES g.L.Locality.ROLES (scope_of c.args.sig.now) c.args.pool.now wholes ys c.nodes.found.items c.nodes.waiting.items)
    (drop_all c.args.list.now c.nodes.at-index c.nodes-test.false) (c.nodes.invariant.renewing wholes up first)
