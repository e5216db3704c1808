-- Classes and their IRIs lead to one another.
use Rattle.std.proofs.Common.{◌≡◌, ℕ, Bool, true, false, not, ◌||◌, List, Some, if◌then◌else◌, refl, sym, ap, ◌∙◌, nat_eq}
use Rattle.std.specs.Cmp.Lexicographic.{pointwise, same_text}
use Rattle.std.proofs.lemmas.Bool.{and_from, and_parts, not-true, or_parts}
use Rattle.rel_io.proofs.Options.{none_there, same_there}
use Rattle.rel_io.specs.Texts.{is_clean_iri}
use Rattle.owl_axioms.specs.Classes.{class_iri, class_named}
use Rattle.owl_axioms.specs.Proper.{is_class_iri, is_proper_expr}
use Rattle.owl_axioms.specs.Text.{expr_text, iri_text}
use Rattle.owl_axioms.specs.Vocabulary.{owl_nothing, owl_thing}
use Rattle.owl_axioms.specs.declared.expr.ClassExpr.{ClassExpr}
use Rattle.owl_axioms.specs.declared.expr.ClassExpr.TheOpen.{ClassExpr-F}
use Rattle.owl_axioms.specs.declared.expr.ClassExpr.TheVariants as expr
use Rattle.owl_axioms.specs.declared.expr.ClassExpr.TheViews.{out-ClassExpr, roll-ClassExpr, roll-out-ClassExpr}
use Rattle.owl_axioms.proofs.Layers.{proper_of_class, proper_of_nothing, proper_of_thing, text_of_class, text_of_nothing, text_of_thing}

either : (b : Bool) (Q : Bool → Type 0) → (b ≡ true → Q true) → (b ≡ false → Q false) → Q b
either true Q one other = one refl
either false Q one other = other refl

named_cases : (P : ClassExpr → Type 0) (iri : List ℕ) → (iri ≡ owl_thing → P expr.Thing) → (iri ≡ owl_nothing → P expr.Nothing) → (pointwise nat_eq iri owl_thing ≡ false → pointwise nat_eq iri owl_nothing ≡ false → P (expr.Class iri)) → P (class_named iri)
unfolding class_named
named_cases P iri thing nothing class =
    either (pointwise nat_eq iri owl_thing) (λ b. P (if b then expr.Thing else (if pointwise nat_eq iri owl_nothing then expr.Nothing else expr.Class iri)))
    (λ is. thing (same_text iri owl_thing (sym is)))
    (λ one. either (pointwise nat_eq iri owl_nothing) (λ b. P (if b then expr.Nothing else expr.Class iri)) (λ is. nothing (same_text iri owl_nothing (sym is))) (λ other. class one other))

pub class_iri-named : (iri : List ℕ) → class_iri (class_named iri) ≡ Some iri
unfolding class_iri
class_iri-named iri = named_cases (λ e. class_iri e ≡ Some iri) iri (λ is. ap Some (sym is)) (λ is. ap Some (sym is)) (λ one other. refl)

pub expr_text-named : (iri : List ℕ) → expr_text (class_named iri) ≡ iri_text iri
expr_text-named iri = named_cases (λ e. expr_text e ≡ iri_text iri) iri (λ is. text_of_thing ∙ ap iri_text (sym is)) (λ is. text_of_nothing ∙ ap iri_text (sym is)) (λ one other. text_of_class iri)

pub is_proper-named : (iri : List ℕ) → is_clean_iri iri ≡ true → is_proper_expr (class_named iri) ≡ true
unfolding is_class_iri
is_proper-named iri clean =
    named_cases (λ e. is_proper_expr e ≡ true) iri (λ is. proper_of_thing) (λ is. proper_of_nothing)
    (λ one other. proper_of_class iri ∙ and_from (is_clean_iri iri) (not (pointwise nat_eq iri owl_thing || pointwise nat_eq iri owl_nothing)) clean (λ i. not (one i || other i)))

named_thing : class_named owl_thing ≡ expr.Thing
unfolding class_named owl_thing
named_thing = refl

named_nothing : class_named owl_nothing ≡ expr.Nothing
unfolding class_named owl_thing owl_nothing
named_nothing = refl

named_class : (iri : List ℕ) → is_proper_expr (expr.Class iri) ≡ true → class_named iri ≡ expr.Class iri
unfolding class_named is_class_iri
named_class iri proper =
    let parts = and_parts (is_clean_iri iri) (not (pointwise nat_eq iri owl_thing || pointwise nat_eq iri owl_nothing)) (sym (proper_of_class iri) ∙ proper) in
    let tests = or_parts (pointwise nat_eq iri owl_thing) (pointwise nat_eq iri owl_nothing) (not-true _ parts.1) in
    λ i. if tests.0 i then expr.Thing else (if tests.1 i then expr.Nothing else expr.Class iri)

layer_named : (layer : ClassExpr-F ClassExpr) (iri : List ℕ) → is_proper_expr (roll-ClassExpr layer) ≡ true → class_iri (roll-ClassExpr layer) ≡ Some iri → class_named iri ≡ roll-ClassExpr layer
unfolding class_iri roll-ClassExpr denote.Hole.Carrier.roll
layer_named ClassExpr-F.Thing iri proper is = ap class_named (sym (same_there is)) ∙ named_thing
layer_named ClassExpr-F.Nothing iri proper is = ap class_named (sym (same_there is)) ∙ named_nothing
layer_named (ClassExpr-F.Class j) iri proper is = ap class_named (sym (same_there is)) ∙ named_class j proper
layer_named layer iri proper is = absurd (none_there is)

pub class_named-iri : (e : ClassExpr) (iri : List ℕ) → is_proper_expr e ≡ true → class_iri e ≡ Some iri → class_named iri ≡ e
class_named-iri e iri proper is =
    let back = roll-out-ClassExpr e in
    layer_named (out-ClassExpr e) iri (ap is_proper_expr back ∙ proper) (ap class_iri back ∙ is) ∙ back
