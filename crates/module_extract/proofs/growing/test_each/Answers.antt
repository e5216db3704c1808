use Rattle.std.proofs.Common.{◌+◌, arith, drop, get_or, subst, ◌∙◌}
use Rattle.owl_axioms.specs.Signature.{scope_of}
use Rattle.owl_ontology.specs.Ontology.{axioms_of}
use Rattle.module_extract.specs.Module.{fills_of}
use Rattle.module_extract.specs.inner.Front.{IsState}
use Rattle.module_extract.proofs.States.{drop_all, drop_next, in_read, lists_same, one_test, tests_same}
use Rattle.module_extract.proofs.growing.test_each.Goals as goal

pub test_at-requires-clause-work : goal.test_at-requires-clause-work
test_at-requires-clause-work g c = c.requires.works (get_or c.args.list.now c.places.at-index 0) (in_read c.args.list.now c.places.at-index 0 c.places-test.true)

pub places-preserved : goal.places-preserved
places-preserved g c =
    let k = fills_of g.L.Locality.CLASSES g.L.Locality.ROLES in
    let axioms = axioms_of c.args.ontology.now.entries in
    let part = c.args.part.now.items in
    let seed = scope_of c.args.sig.now in
    let trees = c.args.setting.now.pool in
    let plains = c.args.setting.now.plains.items in
    let table = c.args.setting.now.table in
    let all = c.args.setting.now.all.items in
    let xs = c.args.list.now in
    let i = c.places.at-index in
    let at = get_or xs i 0 in
    let work = c.requires.works at (in_read xs i 0 c.places-test.true) in
    let kept = c.places.kept.items in
    let f = c.places.front in
    let t = c.in_ok-_joined.ensures.tested in
    record {
      state =
          one_test k axioms part seed trees plains table all c.requires.setting at work (drop (i + 1) xs) kept f
          (subst (λ ys. IsState k axioms part seed trees table ys kept f) (drop_next xs i 0 c.places-test.true) c.places.invariant.state) c.test_at.new.kept.items c.test_at.new.front c.in_ok-_joined._joined t;
      tests = tests_same k axioms part seed trees plains table all c.requires.setting at kept f c.test_at.new.kept.items c.test_at.new.front c.in_ok-_joined._joined t ∙ c.places.invariant.tests;
      lists = lists_same k axioms part seed trees plains table all c.requires.setting at kept f c.test_at.new.kept.items c.test_at.new.front c.in_ok-_joined._joined t ∙ c.places.invariant.lists;
      ticks = let a = c.in_ok-_joined.ensures.ticks in let b = c.places.invariant.ticks in omega (arith, a, b);
    }

pub returns-clause-state : goal.returns-clause-state
returns-clause-state g c =
    subst (λ ys. IsState (fills_of g.L.Locality.CLASSES g.L.Locality.ROLES) (axioms_of c.args.ontology.now.entries) c.args.part.now.items (scope_of c.args.sig.now) c.args.setting.now.pool c.args.setting.now.table ys c.places.kept.items c.places.front)
    (drop_all c.args.list.now c.places.at-index c.places-test.false) c.places.invariant.state
