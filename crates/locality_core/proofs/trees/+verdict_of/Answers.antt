use Rattle.std.proofs.Common.{rules, arith, sym, ◌∙◌}
use Rattle.owl_axioms.specs.declared.expr.ClassExpr.TheOpen as layer
use Rattle.locality_tables.specs.Verdict.{verdict, is_empty, is_full}
use Rattle.locality_core.proofs.Layers.{size_not, size_some, size_all, size_min, size_max, size_exact, verdict_at, any_more, all_more}
use Rattle.locality_core.specs.Shows.{operands, IsOperand}
use Rattle.locality_core.proofs.Operands.{and_within, and_smaller, and_verdict, or_within, or_smaller, or_verdict}
use Rattle.owl_axioms.specs.Signature.{scope_of}
use Rattle.locality_core.proofs.trees.+verdict_of.Goals as goal

pub operand-requires-clause-within : goal.operand-requires-clause-within
operand-requires-clause-within g t c = let s = c.in-And.ensures in and_within _ s.0 s.1 _ _ s.2 c.operands-test.true

pub verdict_of-found-requires : goal.verdict_of-found-requires
verdict_of-found-requires g t c κs within =
    let s = c.in-And.ensures in
    let small = and_smaller _ s.0 s.1 _ _ c.operand.ensures.stands in
    search rules

pub operands-preserved : goal.operands-preserved
unfolding IsOperand
operands-preserved g t c =
    let v = verdict g.L.Locality.CLASSES g.L.Locality.ROLES (scope_of c.args.sig.now) in
    let cs = operands (g.F.Forest.stands c.args.forest.now c.args.tree) in
    let one = any_more is_empty v cs c.operands.at _ c.operand.ensures.stands in
    let two = all_more is_full v cs c.operands.at _ c.operand.ensures.stands in
    record { any = cc; all = cc }

pub returns-then-any_empty : goal.returns-then-any_empty
returns-then-any_empty g t c =
    let s = c.in-And.ensures in
    let e = and_verdict _ s.0 s.1 g.L.Locality.CLASSES g.L.Locality.ROLES (scope_of c.args.sig.now) _ c.operands.at _ _ s.2 c.operands-test.false c.operands.invariant.any c.operands.invariant.all in
    grind (arith, e)

pub returns-then-all_full : goal.returns-then-all_full
returns-then-all_full g t c =
    let s = c.in-And.ensures in
    let e = and_verdict _ s.0 s.1 g.L.Locality.CLASSES g.L.Locality.ROLES (scope_of c.args.sig.now) _ c.operands.at _ _ s.2 c.operands-test.false c.operands.invariant.any c.operands.invariant.all in
    grind (arith, e)

pub returns-else-all_full : goal.returns-else-all_full
returns-else-all_full g t c =
    let s = c.in-And.ensures in
    let e = and_verdict _ s.0 s.1 g.L.Locality.CLASSES g.L.Locality.ROLES (scope_of c.args.sig.now) _ c.operands.at _ _ s.2 c.operands-test.false c.operands.invariant.any c.operands.invariant.all in
    grind (arith, e)

pub operand-requires-in-choices-clause-within : goal.operand-requires-in-choices-clause-within
operand-requires-in-choices-clause-within g t c = let s = c.in-Or.ensures in or_within _ s.0 s.1 _ _ s.2 c.choices-test.true

pub verdict_of-found-requires-in-choices : goal.verdict_of-found-requires-in-choices
verdict_of-found-requires-in-choices g t c κs within =
    let s = c.in-Or.ensures in
    let small = or_smaller _ s.0 s.1 _ _ c.operand-in-choices.ensures.stands in
    search rules

pub choices-preserved : goal.choices-preserved
unfolding IsOperand
choices-preserved g t c =
    let v = verdict g.L.Locality.CLASSES g.L.Locality.ROLES (scope_of c.args.sig.now) in
    let cs = operands (g.F.Forest.stands c.args.forest.now c.args.tree) in
    let one = any_more is_full v cs c.choices.at _ c.operand-in-choices.ensures.stands in
    let two = all_more is_empty v cs c.choices.at _ c.operand-in-choices.ensures.stands in
    record { any = cc; all = cc }

pub returns-then-any_full : goal.returns-then-any_full
returns-then-any_full g t c =
    let s = c.in-Or.ensures in
    let e = or_verdict _ s.0 s.1 g.L.Locality.CLASSES g.L.Locality.ROLES (scope_of c.args.sig.now) _ c.choices.at _ _ s.2 c.choices-test.false c.choices.invariant.any c.choices.invariant.all in
    grind (arith, e)

pub returns-then-all_empty : goal.returns-then-all_empty
returns-then-all_empty g t c =
    let s = c.in-Or.ensures in
    let e = or_verdict _ s.0 s.1 g.L.Locality.CLASSES g.L.Locality.ROLES (scope_of c.args.sig.now) _ c.choices.at _ _ s.2 c.choices-test.false c.choices.invariant.any c.choices.invariant.all in
    grind (arith, e)

pub returns-else-all_empty : goal.returns-else-all_empty
returns-else-all_empty g t c =
    let s = c.in-Or.ensures in
    let e = or_verdict _ s.0 s.1 g.L.Locality.CLASSES g.L.Locality.ROLES (scope_of c.args.sig.now) _ c.choices.at _ _ s.2 c.choices-test.false c.choices.invariant.any c.choices.invariant.all in
    grind (arith, e)

pub returns-in-Thing : goal.returns-in-Thing
returns-in-Thing g t c = sym (verdict_at g.L.Locality.CLASSES g.L.Locality.ROLES (scope_of c.args.sig.now) _ layer.Thing c.in-Thing.ensures)

pub returns-in-Nothing : goal.returns-in-Nothing
returns-in-Nothing g t c = sym (verdict_at g.L.Locality.CLASSES g.L.Locality.ROLES (scope_of c.args.sig.now) _ layer.Nothing c.in-Nothing.ensures)

pub returns-in-Class : goal.returns-in-Class
returns-in-Class g t c = c.class_of.ensures ∙ sym (verdict_at g.L.Locality.CLASSES g.L.Locality.ROLES (scope_of c.args.sig.now) _ _ c.in-Class.ensures)

pub verdict_of-requires : goal.verdict_of-requires
verdict_of-requires g t c κs within =
    let h = c.in-Not.ensures in
    let small = size_not _ _ h.1 in
    search rules

pub returns-in-Not : goal.returns-in-Not
returns-in-Not g t c =
    let h = c.in-Not.ensures in
    let e = verdict_at g.L.Locality.CLASSES g.L.Locality.ROLES (scope_of c.args.sig.now) _ _ h.1 in
    cc

pub verdict_of-requires-in-Some : goal.verdict_of-requires-in-Some
verdict_of-requires-in-Some g t c κs within =
    let h = c.in-Some.ensures in
    let small = size_some _ _ _ h.1 in
    search rules

pub returns-in-Some : goal.returns-in-Some
returns-in-Some g t c =
    let h = c.in-Some.ensures in
    let e = verdict_at g.L.Locality.CLASSES g.L.Locality.ROLES (scope_of c.args.sig.now) _ _ h.1 in
    cc

pub verdict_of-requires-in-All : goal.verdict_of-requires-in-All
verdict_of-requires-in-All g t c κs within =
    let h = c.in-All.ensures in
    let small = size_all _ _ _ h.1 in
    search rules

pub returns-in-All : goal.returns-in-All
returns-in-All g t c =
    let h = c.in-All.ensures in
    let e = verdict_at g.L.Locality.CLASSES g.L.Locality.ROLES (scope_of c.args.sig.now) _ _ h.1 in
    cc

pub verdict_of-requires-in-Min : goal.verdict_of-requires-in-Min
verdict_of-requires-in-Min g t c κs within =
    let h = c.in-Min.ensures in
    let small = size_min _ _ _ _ h.1 in
    search rules

pub returns-in-Min : goal.returns-in-Min
returns-in-Min g t c =
    let h = c.in-Min.ensures in
    let e = verdict_at g.L.Locality.CLASSES g.L.Locality.ROLES (scope_of c.args.sig.now) _ _ h.1 in
    cc

pub verdict_of-requires-in-Max : goal.verdict_of-requires-in-Max
verdict_of-requires-in-Max g t c κs within =
    let h = c.in-Max.ensures in
    let small = size_max _ _ _ _ h.1 in
    search rules

pub returns-in-Max : goal.returns-in-Max
returns-in-Max g t c =
    let h = c.in-Max.ensures in
    let e = verdict_at g.L.Locality.CLASSES g.L.Locality.ROLES (scope_of c.args.sig.now) _ _ h.1 in
    cc

pub verdict_of-requires-in-Exact : goal.verdict_of-requires-in-Exact
verdict_of-requires-in-Exact g t c κs within =
    let h = c.in-Exact.ensures in
    let small = size_exact _ _ _ _ h.1 in
    search rules

pub returns-in-Exact : goal.returns-in-Exact
returns-in-Exact g t c =
    let h = c.in-Exact.ensures in
    let e = verdict_at g.L.Locality.CLASSES g.L.Locality.ROLES (scope_of c.args.sig.now) _ _ h.1 in
    cc
