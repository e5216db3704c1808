use Rattle.std.proofs.Common.{ap, arith, length, subst, sym, ◌∙◌}
use Rattle.owl_axioms.specs.Signature.{scope_of}
use Rattle.owl_ontology.specs.Ontology.{axioms_of}
use Rattle.module_extract.specs.Module.{IsModule, fills_of}
use Rattle.module_extract.specs.inner.Front.{IsState, fresh_sum, waiting_sum}
use Rattle.module_extract.proofs.Extending.{closed_extends, closed_keeps}
use Rattle.module_extract.proofs.Fronts.{sum_first}
use Rattle.module_extract.proofs.Starting.{axioms_length, starts}
use Rattle.module_extract.proofs.States.{ended, first_state, taken, taken_lists, taken_tests, taken_within}
use Rattle.module_extract.proofs.Weights.{bound_is}
use Rattle.module_extract.proofs.growing.module.Goals as goal

pub test_each-requires-clause-state : goal.test_each-requires-clause-state
test_each-requires-clause-state g c =
    let k = fills_of g.L.Locality.CLASSES g.L.Locality.ROLES in
    let axioms = axioms_of c.args.ontology.now.entries in
    let part = c.args.part.now.items in
    let seed = scope_of c.args.sig.now in
    let setting = c.in_ok-setting.setting in
    let growing =
    starts k axioms part c.args.sig.now c.in_ok-front.front.names _ c.in_ok-kept.kept.items (c.in_ok-kept.ensures.items_if_clones_equal (λ y e. e)) (c.len.ensures.len ∙ sym (axioms_length c.args.ontology.now.entries)) c.in_ok-front.ensures.names in
    subst (λ ys. IsState k axioms part seed setting.pool setting.table ys c.in_ok-kept.kept.items c.in_ok-front.front) (sym c.as_slice.ensures.value)
    (first_state k axioms part seed setting.pool setting.plains.items setting.table setting.all.items c.in_ok-setting.ensures c.in_ok-kept.kept.items c.in_ok-front.front growing c.in_ok-front.ensures.front)

pub returns-in_err-test_each-clause-ticks : goal.returns-in_err-test_each-clause-ticks
returns-in_err-test_each-clause-ticks g c =
    let a = c.test_each.ensures.ticks in
    let b = ap length c.as_slice.ensures.value in
    let d = c.in_ok-setting.ensures.axioms_count in
    let e = bound_is (axioms_of c.args.ontology.now.entries) c.args.part.now.items in
    omega (arith, a, b, d, e)

pub waits-init : goal.waits-init
waits-init g c = record {
  state = c.in_ok-test_each.ensures.state;
  ticks =
      let a = c.test_each.ensures.ticks in
      let b = ap length c.as_slice.ensures.value in
      let d = c.in_ok-setting.ensures.axioms_count in
      let e = bound_is (axioms_of c.args.ontology.now.entries) c.args.part.now.items in
      let t = c.in_ok-test_each.ensures.tests in
      let lists = c.in_ok-setting.setting.table.lists in
      let f = ap (λ fs. fresh_sum fs lists) c.in_ok-front.ensures.fresh ∙ sum_first lists in
      let w = ap (waiting_sum lists) c.in_ok-front.ensures.waiting in
      let n = c.in_ok-setting.ensures.names_count in
      omega (arith, a, b, d, e, t, f, w, n);
}

pub get-requires : goal.get-requires
get-requires g c =
    let k = fills_of g.L.Locality.CLASSES g.L.Locality.ROLES in
    let axioms = axioms_of c.args.ontology.now.entries in
    let part = c.args.part.now.items in
    let seed = scope_of c.args.sig.now in
    let setting = c.in_ok-setting.setting in
    taken_within k axioms part seed setting.pool setting.plains.items setting.table setting.all.items c.in_ok-setting.ensures c.waits.kept.items c.waits.front c.pop.new.self c.in-Some.at c.in-Some.ensures.waiting c.pop.ensures.rest c.waits.invariant.state.front

pub test_each-requires-in-Some-clause-state : goal.test_each-requires-in-Some-clause-state
test_each-requires-in-Some-clause-state g c =
    let k = fills_of g.L.Locality.CLASSES g.L.Locality.ROLES in
    let axioms = axioms_of c.args.ontology.now.entries in
    let part = c.args.part.now.items in
    let seed = scope_of c.args.sig.now in
    let setting = c.in_ok-setting.setting in
    subst (λ ys. IsState k axioms part seed setting.pool setting.table ys c.waits.kept.items c.pop.new.self) (sym c.get.ensures) (taken k axioms part seed setting.pool setting.plains.items setting.table setting.all.items c.in_ok-setting.ensures c.waits.kept.items c.waits.front c.pop.new.self c.in-Some.at c.in-Some.ensures.waiting c.pop.ensures.rest c.waits.invariant.state)

pub returns-in_err-test_each-2-clause-ticks : goal.returns-in_err-test_each-2-clause-ticks
returns-in_err-test_each-2-clause-ticks g c =
    let k = fills_of g.L.Locality.CLASSES g.L.Locality.ROLES in
    let axioms = axioms_of c.args.ontology.now.entries in
    let part = c.args.part.now.items in
    let seed = scope_of c.args.sig.now in
    let setting = c.in_ok-setting.setting in
    let a = c.test_each-in-Some.ensures.ticks in
    let b = ap length c.get.ensures in
    let d = taken_tests k axioms part seed setting.pool setting.plains.items setting.table setting.all.items c.in_ok-setting.ensures c.waits.kept.items c.waits.front c.pop.new.self c.in-Some.at c.in-Some.ensures.waiting c.pop.ensures.rest in
    let e = c.waits.invariant.ticks in
    omega (arith, a, b, d, e)

pub waits-preserved : goal.waits-preserved
waits-preserved g c =
    let k = fills_of g.L.Locality.CLASSES g.L.Locality.ROLES in
    let axioms = axioms_of c.args.ontology.now.entries in
    let part = c.args.part.now.items in
    let seed = scope_of c.args.sig.now in
    let setting = c.in_ok-setting.setting in
    record {
      state = c.in_ok-test_each-2.ensures.state;
      ticks =
          let a = c.test_each-in-Some.ensures.ticks in
          let b = ap length c.get.ensures in
          let d = taken_tests k axioms part seed setting.pool setting.plains.items setting.table setting.all.items c.in_ok-setting.ensures c.waits.kept.items c.waits.front c.pop.new.self c.in-Some.at c.in-Some.ensures.waiting c.pop.ensures.rest in
          let e = c.waits.invariant.ticks in
          let t = c.in_ok-test_each-2.ensures.tests in
          omega (arith, a, b, d, e, t);
    }

pub waits-smaller : goal.waits-smaller
waits-smaller g c =
    let k = fills_of g.L.Locality.CLASSES g.L.Locality.ROLES in
    let axioms = axioms_of c.args.ontology.now.entries in
    let part = c.args.part.now.items in
    let seed = scope_of c.args.sig.now in
    let setting = c.in_ok-setting.setting in
    let a = c.in_ok-test_each-2.ensures.lists in
    let d = taken_lists k axioms part seed setting.pool setting.plains.items setting.table setting.all.items c.in_ok-setting.ensures c.waits.kept.items c.waits.front c.pop.new.self c.in-Some.at c.in-Some.ensures.waiting c.pop.ensures.rest in
    omega (arith, a, d)

pub returns-clause-exact : goal.returns-clause-exact
returns-clause-exact g c =
    let k = fills_of g.L.Locality.CLASSES g.L.Locality.ROLES in
    let axioms = axioms_of c.args.ontology.now.entries in
    let part = c.args.part.now.items in
    let seed = scope_of c.args.sig.now in
    let setting = c.in_ok-setting.setting in
    ended k axioms part seed setting.pool setting.plains.items setting.table setting.all.items c.in_ok-setting.ensures c.waits.kept.items c.waits.front c.in_default.ensures.end c.waits.invariant.state

pub returns-clause-keeps : goal.returns-clause-keeps
returns-clause-keeps g c =
    let k = fills_of g.L.Locality.CLASSES g.L.Locality.ROLES in
    let axioms = axioms_of c.args.ontology.now.entries in
    let part = c.args.part.now.items in
    let seed = scope_of c.args.sig.now in
    let setting = c.in_ok-setting.setting in
    let exact : IsModule k axioms part seed c.waits.kept.items = ended k axioms part seed setting.pool setting.plains.items setting.table setting.all.items c.in_ok-setting.ensures c.waits.kept.items c.waits.front c.in_default.ensures.end c.waits.invariant.state in
    closed_keeps k axioms part seed c.waits.kept.items exact.closed

pub returns-clause-extends : goal.returns-clause-extends
returns-clause-extends g c =
    let k = fills_of g.L.Locality.CLASSES g.L.Locality.ROLES in
    let axioms = axioms_of c.args.ontology.now.entries in
    let part = c.args.part.now.items in
    let seed = scope_of c.args.sig.now in
    let setting = c.in_ok-setting.setting in
    let exact : IsModule k axioms part seed c.waits.kept.items = ended k axioms part seed setting.pool setting.plains.items setting.table setting.all.items c.in_ok-setting.ensures c.waits.kept.items c.waits.front c.in_default.ensures.end c.waits.invariant.state in
    λ names covering i m. closed_extends k axioms part seed c.waits.kept.items exact.closed names covering i m
