use Rattle.std.proofs.Common.{◌≡◌, ◌++◌, [], ◌∷◌, refl, sym, ap, subst, ◌∙◌, OnOk}
use Rattle.owl_axioms.specs.declared.expr.ClassExpr.TheVariants as expr
use Rattle.owl_axioms.specs.declared.expr.ClassExpr.TheOpen.{ClassExpr-F}
use Rattle.owl_axioms.specs.declared.name.Kind.TheVariants as kind
use Rattle.owl_axioms.specs.Names.{names_in, names_step}
use Rattle.owl_axioms.specs.Names.{name_of}
use Rattle.module_extract.specs.inner.Naming.{names_list, pushed}
use Rattle.owl_axioms.proofs.Adding.{flat_of_map, get_from_read}
use Rattle.module_extract.proofs.Pushed.{pushed_layer, pushed_next}
use Rattle.module_extract.proofs.naming.+naming.Goals as goal

pub push_expr-returns-in-Thing : goal.push_expr-returns-in-Thing
unfolding names_step pushed
push_expr-returns-in-Thing t c = sym (pushed_layer c.args.names.now.items _ ClassExpr-F.Thing (c.in-Thing.is ∙ sym (expr.rolls-Thing)))

pub push_expr-returns-in-Nothing : goal.push_expr-returns-in-Nothing
unfolding names_step pushed
push_expr-returns-in-Nothing t c = sym (pushed_layer c.args.names.now.items _ ClassExpr-F.Nothing (c.in-Nothing.is ∙ sym (expr.rolls-Nothing)))

pub push_expr-returns-in_ok-push_one-in-Class : goal.push_expr-returns-in_ok-push_one-in-Class
unfolding names_step pushed
push_expr-returns-in_ok-push_one-in-Class t c = let e = pushed_layer c.args.names.now.items _ (ClassExpr-F.Class c.in-Class.iri) (c.in-Class.is ∙ sym (expr.rolls-Class c.in-Class.iri)) in c.in_ok-push_one-in-Class.ensures ∙ sym e

pub push_expr-returns-in-And : goal.push_expr-returns-in-And
unfolding names_step pushed
push_expr-returns-in-And t c =
    let e = pushed_layer c.args.names.now.items _ (ClassExpr-F.And c.in-And.parts) (c.in-And.is ∙ sym (expr.rolls-And c.in-And.parts)) in
    subst (λ s. OnOk c.push_exprs.result (c.push_exprs.new.names.items ≡ s)) (ap (λ z. pushed c.args.names.now.items (names_list z)) c.as_slice.ensures ∙ sym (e ∙ ap (pushed c.args.names.now.items) (flat_of_map names_in c.in-And.parts))) c.push_exprs.ensures

pub push_expr-returns-in-Or : goal.push_expr-returns-in-Or
unfolding names_step pushed
push_expr-returns-in-Or t c =
    let e = pushed_layer c.args.names.now.items _ (ClassExpr-F.Or c.in-Or.parts) (c.in-Or.is ∙ sym (expr.rolls-Or c.in-Or.parts)) in
    subst (λ s. OnOk c.push_exprs-in-Or.result (c.push_exprs-in-Or.new.names.items ≡ s)) (ap (λ z. pushed c.args.names.now.items (names_list z)) c.as_slice-in-Or.ensures ∙ sym (e ∙ ap (pushed c.args.names.now.items) (flat_of_map names_in c.in-Or.parts))) c.push_exprs-in-Or.ensures

pub push_expr-returns-in-Not : goal.push_expr-returns-in-Not
unfolding names_step pushed
push_expr-returns-in-Not t c =
    let e = pushed_layer c.args.names.now.items _ (ClassExpr-F.Not c.in-Not.part) (c.in-Not.is ∙ sym (expr.rolls-Not c.in-Not.part)) in
    subst (λ s. OnOk c.push_expr.result (c.push_expr.new.names.items ≡ s)) (ap (λ z. pushed c.args.names.now.items (names_in z)) c.get.ensures ∙ sym e) c.push_expr.ensures

pub push_expr-returns-in-Some : goal.push_expr-returns-in-Some
unfolding names_step pushed
push_expr-returns-in-Some t c =
    let e = pushed_layer c.args.names.now.items _ (ClassExpr-F.Some c.in-Some.role c.in-Some.part) (c.in-Some.is ∙ sym (expr.rolls-Some c.in-Some.role c.in-Some.part)) in
    subst (λ s. OnOk c.push_filler.result (c.push_filler.new.names.items ≡ s)) (ap (λ z. pushed (c.args.names.now.items ++ name_of kind.Role c.in-Some.role ∷ []) (names_in z)) c.get-in-Some.ensures ∙ sym e) c.push_filler.ensures

pub push_expr-returns-in-All : goal.push_expr-returns-in-All
unfolding names_step pushed
push_expr-returns-in-All t c =
    let e = pushed_layer c.args.names.now.items _ (ClassExpr-F.All c.in-All.role c.in-All.part) (c.in-All.is ∙ sym (expr.rolls-All c.in-All.role c.in-All.part)) in
    subst (λ s. OnOk c.push_filler-in-All.result (c.push_filler-in-All.new.names.items ≡ s)) (ap (λ z. pushed (c.args.names.now.items ++ name_of kind.Role c.in-All.role ∷ []) (names_in z)) c.get-in-All.ensures ∙ sym e) c.push_filler-in-All.ensures

pub push_expr-returns-in-Min : goal.push_expr-returns-in-Min
unfolding names_step pushed
push_expr-returns-in-Min t c =
    let e = pushed_layer c.args.names.now.items _ (ClassExpr-F.Min c.in-Min.field-0 c.in-Min.role c.in-Min.part) (c.in-Min.is ∙ sym (expr.rolls-Min c.in-Min.field-0 c.in-Min.role c.in-Min.part)) in
    subst (λ s. OnOk c.push_filler-in-Min.result (c.push_filler-in-Min.new.names.items ≡ s)) (ap (λ z. pushed (c.args.names.now.items ++ name_of kind.Role c.in-Min.role ∷ []) (names_in z)) c.get-in-Min.ensures ∙ sym e) c.push_filler-in-Min.ensures

pub push_expr-returns-in-Max : goal.push_expr-returns-in-Max
unfolding names_step pushed
push_expr-returns-in-Max t c =
    let e = pushed_layer c.args.names.now.items _ (ClassExpr-F.Max c.in-Max.field-0 c.in-Max.role c.in-Max.part) (c.in-Max.is ∙ sym (expr.rolls-Max c.in-Max.field-0 c.in-Max.role c.in-Max.part)) in
    subst (λ s. OnOk c.push_filler-in-Max.result (c.push_filler-in-Max.new.names.items ≡ s)) (ap (λ z. pushed (c.args.names.now.items ++ name_of kind.Role c.in-Max.role ∷ []) (names_in z)) c.get-in-Max.ensures ∙ sym e) c.push_filler-in-Max.ensures

pub push_expr-returns-in-Exact : goal.push_expr-returns-in-Exact
unfolding names_step pushed
push_expr-returns-in-Exact t c =
    let e = pushed_layer c.args.names.now.items _ (ClassExpr-F.Exact c.in-Exact.field-0 c.in-Exact.role c.in-Exact.part) (c.in-Exact.is ∙ sym (expr.rolls-Exact c.in-Exact.field-0 c.in-Exact.role c.in-Exact.part)) in
    subst (λ s. OnOk c.push_filler-in-Exact.result (c.push_filler-in-Exact.new.names.items ≡ s)) (ap (λ z. pushed (c.args.names.now.items ++ name_of kind.Role c.in-Exact.role ∷ []) (names_in z)) c.get-in-Exact.ensures ∙ sym e) c.push_filler-in-Exact.ensures

pub push_exprs-loop-expr-init : goal.push_exprs-loop-expr-init
unfolding pushed
push_exprs-loop-expr-init t c = refl

pub push_exprs-loop-expr-preserved : goal.push_exprs-loop-expr-preserved
push_exprs-loop-expr-preserved t c =
    let at = get_from_read c.args.exprs.now c.loop-expr.expr-index c.expr-item.result c.loop-expr-test.true c.expr-item.is in
    c.in_ok-push_expr.ensures ∙ ap (λ s. pushed s (names_in c.expr-item.result)) c.loop-expr.invariant ∙ sym (pushed_next names_in c.args.names.now.items c.args.exprs.now c.loop-expr.expr-index c.expr-item.result at)
