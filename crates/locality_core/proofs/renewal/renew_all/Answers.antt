use Rattle.std.proofs.Common.{◌<◌, sym, ap, subst, ◌∙◌, length, arith}
use Rattle.owl_axioms.specs.Signature.{scope_of}
use Rattle.name_lists.proofs.ListLemmas.{long_more}
use Rattle.locality_core.proofs.Turns.{last_in, popped, rest_in}
use Rattle.locality_core.specs.inner.Renewal.{IsRenewing}
use Rattle.locality_core.proofs.renewal.renew_all.Goals as goal

pub get-requires : goal.get-requires
get-requires g c =
    let l : c.in-Some.at < length c.args.pool.now = last_in c.pop.new.self.items c.waits.waiting.items c.in-Some.at (length c.args.pool.now) c.in-Some.ensures.items c.waits.invariant.within in
    let e = c.requires.many in
    omega (arith, l, e)

pub renew_each-requires-clause-within : goal.renew_each-requires-clause-within
renew_each-requires-clause-within g c = rest_in c.pop.new.self.items c.waits.waiting.items c.in-Some.at (length c.args.pool.now) c.in-Some.ensures.items c.waits.invariant.within

pub waits-preserved : goal.waits-preserved
waits-preserved g c =
    let k = g.L.Locality.CLASSES in
    let r = g.L.Locality.ROLES in
    let s = scope_of c.args.sig.now in
    let ts = c.args.pool.now in
    let wholes = c.args.wholes.now in
    let found = c.waits.found.items in
    let rest = c.pop.new.self.items in
    let first : IsRenewing k r s ts wholes c.get.result.now found rest =
    subst (λ ys. IsRenewing k r s ts wholes ys found rest) (sym c.get.ensures) (popped k r s ts wholes found c.waits.waiting.items rest c.in-Some.at c.in-Some.ensures.items c.waits.invariant.renewing) in
    record {
      renewing = c.renew_each.ensures.renewing wholes c.requires.up first;
      room =
          let a = c.renew_each.ensures.room in
          let b = ap length c.in-Some.ensures.items in
          let l = long_more rest c.in-Some.at in
          let d = c.waits.invariant.room in
          let e = c.renew_each.ensures.capacity in
          let f = c.pop.ensures.capacity in
          omega (arith, a, b, l, d, e, f);
      within = c.renew_each.ensures.within;
      capacity = c.renew_each.ensures.capacity ∙ c.pop.ensures.capacity ∙ c.waits.invariant.capacity;
    }
