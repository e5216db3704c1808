use Rattle.std.proofs.Common.{Bool, List, ◌≡◌, ◌+◌, arith, length, subst, sym}
use Rattle.std.proofs.lemmas.List.{length-map}
use Rattle.expr_pool.specs.Pool.{tree_at}
use Rattle.el_taxonomy.specs.inner.Numbers.{exprs_of}
use Rattle.el_taxonomy.proofs.Flags.{AreClassesTo, all_classes, class_next, tells_class}
use Rattle.el_taxonomy.proofs.numbering.class_flags.Goals as goal

pub loop-number-preserved : goal.loop-number-preserved
loop-number-preserved c =
    let exprs = exprs_of c.args.pool.now c.args.part.now in
    let n = c.loop-number.number in
    subst (AreClassesTo exprs (n + 1)) (sym {A = List Bool} c.in_ok-push.ensures.items)
    (class_next exprs n c.loop-number.flags.items c.is_some.result c.loop-number.invariant (tells_class exprs n c.class_of.result c.is_some.result (λ iri. iri.now) c.is_some.ensures c.class_of.ensures))

pub returns : goal.returns
returns c =
    let exprs = exprs_of c.args.pool.now c.args.part.now in
    let long : c.loop-number.number ≡ length exprs =
    let past = c.loop-number-test.false in
    let within = c.loop-number.auto.number-end in
    let is = c.occurring-number-end.ensures in
    let as_long = length-map c.args.part.now.occurring (tree_at c.args.pool.now) in
    omega (arith, past, within, is, as_long) in
    all_classes exprs c.loop-number.number c.loop-number.flags.items long c.loop-number.invariant
