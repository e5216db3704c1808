use Rattle.std.proofs.Common.{[], arith, ap, length, subst, sym, ◌∙◌}
use Rattle.fact_rows.specs.Member.{In}
use Rattle.owl_axioms.specs.Signature.{scope_of}
use Rattle.locality_tables.specs.Verdict.{verdict}
use Rattle.locality_core.proofs.Renewing.{known_most, long_map, no_users, some_users, starts_with}
use Rattle.locality_core.specs.inner.Renewal.{IsRenewing}
use Rattle.locality_core.proofs.verdicts.renew_users.Goals as goal

pub renew_each-requires-clause-room : goal.renew_each-requires-clause-room
renew_each-requires-clause-room g c = let a = known_most c.args.found.now.items in let b = ap length c.requires.none in omega (arith, a, b, c.requires.room)

pub returns-in-None-clause-renewing : goal.returns-in-None-clause-renewing
returns-in-None-clause-renewing g c = λ wholes up.
    let s = c.requires.stands in
    let ts = c.args.pool.now in
    let long = ap length s.2 ∙ long_map (verdict g.L.Locality.CLASSES g.L.Locality.ROLES s.0) ts in
    subst (λ ws. IsRenewing g.L.Locality.CLASSES g.L.Locality.ROLES (scope_of c.args.sig.now) ts wholes [] c.args.found.now.items ws) (sym c.requires.none)
    (starts_with g.L.Locality.CLASSES g.L.Locality.ROLES s.0 (scope_of c.args.sig.now) c.args.name.now s.1 ts c.len-count.ensures.different c.parts_have_nodes.ensures c.args.found.now.items s.2 wholes []
    (λ i t h top. no_users c.args.uses.now c.args.name.now i (sym c.place.ensures.place ∙ c.in-None.is) (c.requires.names i t h top)) long)

pub returns-in-None-clause-room : goal.returns-in-None-clause-room
returns-in-None-clause-room g c = let a = known_most c.args.found.now.items in let b = ap length c.requires.none in omega (arith, a, b, c.requires.room)

pub returns-in-Some-clause-renewing : goal.returns-in-Some-clause-renewing
returns-in-Some-clause-renewing g c = λ wholes up.
    let s = c.requires.stands in
    let ts = c.args.pool.now in
    let long = ap length s.2 ∙ long_map (verdict g.L.Locality.CLASSES g.L.Locality.ROLES s.0) ts in
    c.renew_each.ensures.renewing wholes up
    (subst (λ ws. IsRenewing g.L.Locality.CLASSES g.L.Locality.ROLES (scope_of c.args.sig.now) ts wholes c.get.result.now c.args.found.now.items ws) (sym c.requires.none)
    (starts_with g.L.Locality.CLASSES g.L.Locality.ROLES s.0 (scope_of c.args.sig.now) c.args.name.now s.1 ts c.len-count.ensures.different c.parts_have_nodes.ensures c.args.found.now.items s.2 wholes c.get.result.now
    (λ i t h top. subst (λ xs. In i xs) (sym c.get.ensures) (some_users c.args.uses.now c.args.name.now i c.in-Some.at (sym c.place.ensures.place ∙ c.in-Some.is) (c.requires.names i t h top))) long))

pub returns-in-Some-clause-room : goal.returns-in-Some-clause-room
returns-in-Some-clause-room g c =
    let a = known_most c.args.found.now.items in
    let b = ap length c.requires.none in
    let d = c.renew_each.ensures.room in
    let e = c.renew_each.ensures.capacity in
    omega (arith, a, b, d, e, c.requires.room)
