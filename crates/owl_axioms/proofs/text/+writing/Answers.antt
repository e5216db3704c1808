use Rattle.std.proofs.Common.{◌≡◌, ◌∷◌, ◌++◌, [], codes, get_or, map, nat_eq, take, sym, ap, subst, ◌∙◌, arith}
use Rattle.std.proofs.lemmas.Bool.Decides.{nat_tests}
use Rattle.std.specs.Fmt.{decimal}
use Rattle.std.specs.List.{join_with_byte}
use Rattle.std.specs.Result.{OnOk}
use Rattle.owl_axioms.specs.Text as spec
use Rattle.owl_axioms.specs.inner.Joined.{gap}
use Rattle.owl_axioms.proofs.JoinedTexts.{join_next, regrouped}
use Rattle.owl_axioms.proofs.Layers.{text_of_all, text_of_and, text_of_exact, text_of_max, text_of_min, text_of_not, text_of_some}
use Rattle.owl_axioms.proofs.text.+writing.Goals as goal

pub push_expr-returns-in-And : goal.push_expr-returns-in-And
push_expr-returns-in-And t c =
    subst (λ x. OnOk c.push_group.result (c.push_group.new.out.items ≡ c.args.out.now.items ++ x))
    (ap (λ es. spec.phrase (codes "ObjectIntersectionOf") (map spec.expr_text es)) c.as_slice-in-And.ensures ∙ sym (ap spec.expr_text c.in-And.is ∙ text_of_and c.in-And.operands))
    c.push_group.ensures

pub push_expr-returns-in-Some : goal.push_expr-returns-in-Some
push_expr-returns-in-Some t c =
    subst (λ x. OnOk c.push_filler.result (c.push_filler.new.out.items ≡ c.args.out.now.items ++ x))
    (ap (λ e. spec.phrase (codes "ObjectSomeValuesFrom") (spec.iri_text c.in-Some.role ∷ spec.expr_text e ∷ [])) c.get-in-Some.ensures ∙ sym (ap spec.expr_text c.in-Some.is ∙ text_of_some c.in-Some.role c.in-Some.part))
    c.push_filler.ensures

pub push_expr-returns-in-All : goal.push_expr-returns-in-All
push_expr-returns-in-All t c =
    subst (λ x. OnOk c.push_filler-in-All.result (c.push_filler-in-All.new.out.items ≡ c.args.out.now.items ++ x))
    (ap (λ e. spec.phrase (codes "ObjectAllValuesFrom") (spec.iri_text c.in-All.role ∷ spec.expr_text e ∷ [])) c.get-in-All.ensures ∙ sym (ap spec.expr_text c.in-All.is ∙ text_of_all c.in-All.role c.in-All.part))
    c.push_filler-in-All.ensures

pub push_expr-returns-in-Min : goal.push_expr-returns-in-Min
push_expr-returns-in-Min t c =
    subst (λ x. OnOk c.push_counted.result (c.push_counted.new.out.items ≡ c.args.out.now.items ++ x))
    (ap (λ e. spec.phrase (codes "ObjectMinCardinality") (decimal c.in-Min.n ∷ spec.iri_text c.in-Min.role ∷ spec.expr_text e ∷ [])) c.get-in-Min.ensures ∙ sym (ap spec.expr_text c.in-Min.is ∙ text_of_min c.in-Min.n c.in-Min.role c.in-Min.part))
    c.push_counted.ensures

pub push_expr-returns-in-Max : goal.push_expr-returns-in-Max
push_expr-returns-in-Max t c =
    subst (λ x. OnOk c.push_counted-in-Max.result (c.push_counted-in-Max.new.out.items ≡ c.args.out.now.items ++ x))
    (ap (λ e. spec.phrase (codes "ObjectMaxCardinality") (decimal c.in-Max.n ∷ spec.iri_text c.in-Max.role ∷ spec.expr_text e ∷ [])) c.get-in-Max.ensures ∙ sym (ap spec.expr_text c.in-Max.is ∙ text_of_max c.in-Max.n c.in-Max.role c.in-Max.part))
    c.push_counted-in-Max.ensures

pub push_expr-returns-in-Exact : goal.push_expr-returns-in-Exact
push_expr-returns-in-Exact t c =
    subst (λ x. OnOk c.push_counted-in-Exact.result (c.push_counted-in-Exact.new.out.items ≡ c.args.out.now.items ++ x))
    (ap (λ e. spec.phrase (codes "ObjectExactCardinality") (decimal c.in-Exact.n ∷ spec.iri_text c.in-Exact.role ∷ spec.expr_text e ∷ [])) c.get-in-Exact.ensures ∙ sym (ap spec.expr_text c.in-Exact.is ∙ text_of_exact c.in-Exact.n c.in-Exact.role c.in-Exact.part))
    c.push_counted-in-Exact.ensures

pub push_operands-loop-operand-preserved : goal.push_operands-loop-operand-preserved
push_operands-loop-operand-preserved t c = (
  c.in_ok-push_expr.ensures
      ∙ (λ k. c.in_ok-push_gap.ensures k ++ spec.expr_text c.operand-item.result)
      ∙ (λ k. (c.loop-operand.invariant.0 k ++ gap (c.loop-operand.invariant.1 k)) ++ spec.expr_text (c.operand-item.is k))
      ∙ regrouped c.args.out.now.items (join_with_byte 32 (map spec.expr_text (take c.loop-operand.operand-index c.args.operands.now))) (gap (nat_eq c.loop-operand.operand-index 0)) (spec.expr_text (get_or c.args.operands.now c.loop-operand.operand-index c.operand-item.result))
      ∙ ap (λ x. c.args.out.now.items ++ x) (sym (join_next spec.expr_text c.args.operands.now c.loop-operand.operand-index c.operand-item.result c.loop-operand-test.true)),
  grind (arith, nat_tests),
)

pub push_expr-returns-in-Not : goal.push_expr-returns-in-Not
push_expr-returns-in-Not t c =
    subst (λ x. OnOk c.push_part.result (c.push_part.new.out.items ≡ c.args.out.now.items ++ x))
    (ap (λ e. spec.phrase (codes "ObjectComplementOf") (spec.expr_text e ∷ [])) c.get.ensures ∙ sym (ap spec.expr_text c.in-Not.is ∙ text_of_not c.in-Not.part))
    c.push_part.ensures
