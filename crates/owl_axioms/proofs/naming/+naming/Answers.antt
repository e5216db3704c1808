use Rattle.std.proofs.Common.{◌≡◌, refl, sym, ap, subst, ◌∙◌, OnOk}
use Rattle.owl_axioms.specs.declared.expr.ClassExpr.TheVariants as expr
use Rattle.owl_axioms.specs.declared.expr.ClassExpr.TheOpen.{ClassExpr-F}
use Rattle.owl_axioms.specs.declared.name.Kind.TheVariants as kind
use Rattle.owl_axioms.specs.Names.{names_in, names_step}
use Rattle.owl_axioms.specs.Signature.{add_name, added}
use Rattle.owl_axioms.specs.inner.Growth.{names_list}
use Rattle.owl_axioms.proofs.Adding.{added_layer, added_next, flat_of_map, get_from_read}
use Rattle.owl_axioms.proofs.naming.+naming.Goals as goal

pub add_expr-returns-in-Thing-clause-names : goal.add_expr-returns-in-Thing-clause-names
unfolding names_step added
add_expr-returns-in-Thing-clause-names t c = sym (added_layer c.args.sig.now _ ClassExpr-F.Thing (c.in-Thing.is ∙ sym (expr.rolls-Thing)))

pub add_expr-returns-in-Nothing-clause-names : goal.add_expr-returns-in-Nothing-clause-names
unfolding names_step added
add_expr-returns-in-Nothing-clause-names t c = sym (added_layer c.args.sig.now _ ClassExpr-F.Nothing (c.in-Nothing.is ∙ sym (expr.rolls-Nothing)))

pub add_expr-returns-in_ok-put-in-Class-clause-names : goal.add_expr-returns-in_ok-put-in-Class-clause-names
unfolding names_step added
add_expr-returns-in_ok-put-in-Class-clause-names t c = let e = added_layer c.args.sig.now _ (ClassExpr-F.Class c.in-Class.iri) (c.in-Class.is ∙ sym (expr.rolls-Class c.in-Class.iri)) in c.in_ok-put-in-Class.ensures.names ∙ sym e

pub add_expr-returns-in-And-clause-names : goal.add_expr-returns-in-And-clause-names
unfolding names_step added
add_expr-returns-in-And-clause-names t c =
    let e = added_layer c.args.sig.now _ (ClassExpr-F.And c.in-And.parts) (c.in-And.is ∙ sym (expr.rolls-And c.in-And.parts)) in
    subst (λ s. OnOk c.add_exprs.result (c.add_exprs.new.sig ≡ s)) (ap (λ z. added c.args.sig.now (names_list z)) c.as_slice.ensures ∙ sym (e ∙ ap (added c.args.sig.now) (flat_of_map names_in c.in-And.parts))) c.add_exprs.ensures.names

pub add_expr-returns-in-Or-clause-names : goal.add_expr-returns-in-Or-clause-names
unfolding names_step added
add_expr-returns-in-Or-clause-names t c =
    let e = added_layer c.args.sig.now _ (ClassExpr-F.Or c.in-Or.parts) (c.in-Or.is ∙ sym (expr.rolls-Or c.in-Or.parts)) in
    subst (λ s. OnOk c.add_exprs-in-Or.result (c.add_exprs-in-Or.new.sig ≡ s)) (ap (λ z. added c.args.sig.now (names_list z)) c.as_slice-in-Or.ensures ∙ sym (e ∙ ap (added c.args.sig.now) (flat_of_map names_in c.in-Or.parts))) c.add_exprs-in-Or.ensures.names

pub add_expr-returns-in-Not-clause-names : goal.add_expr-returns-in-Not-clause-names
unfolding names_step added
add_expr-returns-in-Not-clause-names t c =
    let e = added_layer c.args.sig.now _ (ClassExpr-F.Not c.in-Not.part) (c.in-Not.is ∙ sym (expr.rolls-Not c.in-Not.part)) in
    subst (λ s. OnOk c.add_expr.result (c.add_expr.new.sig ≡ s)) (ap (λ z. added c.args.sig.now (names_in z)) c.get.ensures ∙ sym e) c.add_expr.ensures.names

pub add_expr-returns-in-Some-clause-names : goal.add_expr-returns-in-Some-clause-names
unfolding names_step added
add_expr-returns-in-Some-clause-names t c =
    let e = added_layer c.args.sig.now _ (ClassExpr-F.Some c.in-Some.role c.in-Some.part) (c.in-Some.is ∙ sym (expr.rolls-Some c.in-Some.role c.in-Some.part)) in
    subst (λ s. OnOk c.add_filler.result (c.add_filler.new.sig ≡ s)) (ap (λ z. added (add_name c.args.sig.now kind.Role c.in-Some.role) (names_in z)) c.get-in-Some.ensures ∙ sym e) c.add_filler.ensures.names

pub add_expr-returns-in-All-clause-names : goal.add_expr-returns-in-All-clause-names
unfolding names_step added
add_expr-returns-in-All-clause-names t c =
    let e = added_layer c.args.sig.now _ (ClassExpr-F.All c.in-All.role c.in-All.part) (c.in-All.is ∙ sym (expr.rolls-All c.in-All.role c.in-All.part)) in
    subst (λ s. OnOk c.add_filler-in-All.result (c.add_filler-in-All.new.sig ≡ s)) (ap (λ z. added (add_name c.args.sig.now kind.Role c.in-All.role) (names_in z)) c.get-in-All.ensures ∙ sym e) c.add_filler-in-All.ensures.names

pub add_expr-returns-in-Min-clause-names : goal.add_expr-returns-in-Min-clause-names
unfolding names_step added
add_expr-returns-in-Min-clause-names t c =
    let e = added_layer c.args.sig.now _ (ClassExpr-F.Min c.in-Min.field-0 c.in-Min.role c.in-Min.part) (c.in-Min.is ∙ sym (expr.rolls-Min c.in-Min.field-0 c.in-Min.role c.in-Min.part)) in
    subst (λ s. OnOk c.add_filler-in-Min.result (c.add_filler-in-Min.new.sig ≡ s)) (ap (λ z. added (add_name c.args.sig.now kind.Role c.in-Min.role) (names_in z)) c.get-in-Min.ensures ∙ sym e) c.add_filler-in-Min.ensures.names

pub add_expr-returns-in-Max-clause-names : goal.add_expr-returns-in-Max-clause-names
unfolding names_step added
add_expr-returns-in-Max-clause-names t c =
    let e = added_layer c.args.sig.now _ (ClassExpr-F.Max c.in-Max.field-0 c.in-Max.role c.in-Max.part) (c.in-Max.is ∙ sym (expr.rolls-Max c.in-Max.field-0 c.in-Max.role c.in-Max.part)) in
    subst (λ s. OnOk c.add_filler-in-Max.result (c.add_filler-in-Max.new.sig ≡ s)) (ap (λ z. added (add_name c.args.sig.now kind.Role c.in-Max.role) (names_in z)) c.get-in-Max.ensures ∙ sym e) c.add_filler-in-Max.ensures.names

pub add_expr-returns-in-Exact-clause-names : goal.add_expr-returns-in-Exact-clause-names
unfolding names_step added
add_expr-returns-in-Exact-clause-names t c =
    let e = added_layer c.args.sig.now _ (ClassExpr-F.Exact c.in-Exact.field-0 c.in-Exact.role c.in-Exact.part) (c.in-Exact.is ∙ sym (expr.rolls-Exact c.in-Exact.field-0 c.in-Exact.role c.in-Exact.part)) in
    subst (λ s. OnOk c.add_filler-in-Exact.result (c.add_filler-in-Exact.new.sig ≡ s)) (ap (λ z. added (add_name c.args.sig.now kind.Role c.in-Exact.role) (names_in z)) c.get-in-Exact.ensures ∙ sym e) c.add_filler-in-Exact.ensures.names

pub add_exprs-loop-expr-init : goal.add_exprs-loop-expr-init
unfolding added
add_exprs-loop-expr-init t c = record { names = refl; more = λ s m. m }

pub add_exprs-loop-expr-preserved : goal.add_exprs-loop-expr-preserved
add_exprs-loop-expr-preserved t c =
    let at = get_from_read c.args.exprs.now c.loop-expr.expr-index c.expr-item.result c.loop-expr-test.true c.expr-item.is in
    record {
      names = c.in_ok-add_expr.ensures.names ∙ ap (λ s. added s (names_in c.expr-item.result)) c.loop-expr.invariant.names ∙ sym (added_next names_in c.args.sig.now c.args.exprs.now c.loop-expr.expr-index c.expr-item.result at);
      more = λ s m. c.in_ok-add_expr.ensures.grows s (c.loop-expr.invariant.more s m);
    }
