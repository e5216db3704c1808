use Rattle.std.proofs.Common.{[], ◌∷◌, sym, subst, ◌∙◌, slice_set, false}
use Rattle.owl_axioms.specs.Signature.{scope_of}
use Rattle.module_extract.specs.Module.{fills_of}
use Rattle.module_extract.specs.inner.Front.{Entered, FrontState, IsFront}
use Rattle.module_extract.proofs.Fronts.{known_entered, none_entered, none_front, some_entered, some_front, with_name}
use Rattle.module_extract.proofs.front.Front.enter.Goals as goal

pub returns-then-not-is_new-clause-entered : goal.returns-then-not-is_new-clause-entered
returns-then-not-is_new-clause-entered g c =
    let k = fills_of g.L.Locality.CLASSES g.L.Locality.ROLES in
    let trees = c.args.setting.now.pool in
    let table = c.args.setting.now.table in
    let name = c.args.name.now in
    let f : FrontState = record { names = c.self.inside.names; verdicts = c.self.inside.verdicts; fresh = c.self.inside.fresh.items; waiting = c.self.inside.waiting.items } in
    let new = c.add.new.self in
    let are = c.in_ok-is_new.ensures.names in
    let front : IsFront k trees table f = subst (IsFront k trees table) (sym c.self.view_is) c.requires in
    subst (λ (a : FrontState). Entered table (name ∷ []) a (record { names = new; verdicts = f.verdicts; fresh = f.fresh; waiting = f.waiting })) c.self.view_is
    (known_entered k trees table name f new are (sym c.in_ok-is_new.ensures.is_new ∙ c.if-not-is_new.true))

pub grow-requires : goal.grow-requires
grow-requires g c =
    let k = fills_of g.L.Locality.CLASSES g.L.Locality.ROLES in
    let trees = c.args.setting.now.pool in
    let table = c.args.setting.now.table in
    let name = c.args.name.now in
    let f : FrontState = record { names = c.self.inside.names; verdicts = c.self.inside.verdicts; fresh = c.self.inside.fresh.items; waiting = c.self.inside.waiting.items } in
    let new = c.add.new.self in
    let are = c.in_ok-is_new.ensures.names in
    let front : IsFront k trees table f = subst (IsFront k trees table) (sym c.self.view_is) c.requires in
    (scope_of f.names, with_name f.names new name are (sym c.in_ok-is_new.ensures.is_new ∙ c.if-not-is_new.false), front.stand)

pub returns-in-None-clause-front : goal.returns-in-None-clause-front
returns-in-None-clause-front g c =
    let k = fills_of g.L.Locality.CLASSES g.L.Locality.ROLES in
    let trees = c.args.setting.now.pool in
    let table = c.args.setting.now.table in
    let name = c.args.name.now in
    let f : FrontState = record { names = c.self.inside.names; verdicts = c.self.inside.verdicts; fresh = c.self.inside.fresh.items; waiting = c.self.inside.waiting.items } in
    let new = c.add.new.self in
    let are = c.in_ok-is_new.ensures.names in
    let front : IsFront k trees table f = subst (IsFront k trees table) (sym c.self.view_is) c.requires in
    none_front k trees table name f new are (sym c.in_ok-is_new.ensures.is_new ∙ c.if-not-is_new.false) front c.place.ensures.have c.grow.new.self c.grow.ensures

pub returns-in-None-clause-entered : goal.returns-in-None-clause-entered
returns-in-None-clause-entered g c =
    let k = fills_of g.L.Locality.CLASSES g.L.Locality.ROLES in
    let trees = c.args.setting.now.pool in
    let table = c.args.setting.now.table in
    let name = c.args.name.now in
    let f : FrontState = record { names = c.self.inside.names; verdicts = c.self.inside.verdicts; fresh = c.self.inside.fresh.items; waiting = c.self.inside.waiting.items } in
    let new = c.add.new.self in
    let are = c.in_ok-is_new.ensures.names in
    let front : IsFront k trees table f = subst (IsFront k trees table) (sym c.self.view_is) c.requires in
    subst (λ (a : FrontState). Entered table (name ∷ []) a (record { names = new; verdicts = c.grow.new.self; fresh = f.fresh; waiting = f.waiting })) c.self.view_is
    (none_entered k trees table name f new are (sym c.in_ok-is_new.ensures.is_new ∙ c.if-not-is_new.false) front c.place.ensures.have c.grow.new.self c.grow.ensures (sym c.place.ensures.place ∙ c.in-None.is))

pub returns-in_ok-push-in-Some-clause-front : goal.returns-in_ok-push-in-Some-clause-front
returns-in_ok-push-in-Some-clause-front g c =
    let k = fills_of g.L.Locality.CLASSES g.L.Locality.ROLES in
    let trees = c.args.setting.now.pool in
    let table = c.args.setting.now.table in
    let name = c.args.name.now in
    let f : FrontState = record { names = c.self.inside.names; verdicts = c.self.inside.verdicts; fresh = c.self.inside.fresh.items; waiting = c.self.inside.waiting.items } in
    let new = c.add.new.self in
    let are = c.in_ok-is_new.ensures.names in
    let front : IsFront k trees table f = subst (IsFront k trees table) (sym c.self.view_is) c.requires in
    subst (λ ws. IsFront k trees table (record { names = new; verdicts = c.grow.new.self; fresh = slice_set f.fresh c.in-Some.at false; waiting = ws })) (sym c.in_ok-push-in-Some.ensures.items)
    (some_front k trees table name f new are (sym c.in_ok-is_new.ensures.is_new ∙ c.if-not-is_new.false) front c.place.ensures.have c.grow.new.self c.grow.ensures c.in-Some.at (sym c.place.ensures.place ∙ c.in-Some.is))

pub returns-in_ok-push-in-Some-clause-entered : goal.returns-in_ok-push-in-Some-clause-entered
returns-in_ok-push-in-Some-clause-entered g c =
    let k = fills_of g.L.Locality.CLASSES g.L.Locality.ROLES in
    let trees = c.args.setting.now.pool in
    let table = c.args.setting.now.table in
    let name = c.args.name.now in
    let f : FrontState = record { names = c.self.inside.names; verdicts = c.self.inside.verdicts; fresh = c.self.inside.fresh.items; waiting = c.self.inside.waiting.items } in
    let new = c.add.new.self in
    let are = c.in_ok-is_new.ensures.names in
    let front : IsFront k trees table f = subst (IsFront k trees table) (sym c.self.view_is) c.requires in
    subst (λ (a : FrontState). Entered table (name ∷ []) a (record { names = new; verdicts = c.grow.new.self; fresh = slice_set f.fresh c.in-Some.at false; waiting = c.push.new.self.items })) c.self.view_is
    (subst (λ ws. Entered table (name ∷ []) f (record { names = new; verdicts = c.grow.new.self; fresh = slice_set f.fresh c.in-Some.at false; waiting = ws })) (sym c.in_ok-push-in-Some.ensures.items)
    (some_entered k trees table name f new are (sym c.in_ok-is_new.ensures.is_new ∙ c.if-not-is_new.false) front c.place.ensures.have c.grow.new.self c.grow.ensures c.in-Some.at (sym c.place.ensures.place ∙ c.in-Some.is)))
