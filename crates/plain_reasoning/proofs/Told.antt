-- What the tests of a plain answer tell: which facts are derived, which classes occur, and what is said.
use Rattle.std.proofs.Common.{◌≡◌, ℕ, Bool, true, false, not, List, refl, sym, ap, subst, ◌∙◌, true≢false}
use Rattle.std.specs.Cmp.Lexicographic.{same_text}
use Rattle.std.specs.Str.{bytes_eq}
use Rattle.fact_rows.specs.Member.{In, here}
use Rattle.fact_rows.proofs.Members.{in_flat_map, in_none, in_one}
use Rattle.owl_axioms.proofs.Listed.{own_bytes}
use Rattle.owl_axioms.proofs.Members.{Contains-in, In-contains}
use Rattle.owl_axioms.specs.declared.body.Axiom.{Axiom}
use Rattle.owl_axioms.specs.declared.expr.ClassExpr.{ClassExpr}
use Rattle.owl_axioms.specs.declared.expr.ClassExpr.TheVariants as expr
use Rattle.relax_axioms.proofs.Lists.{any_in, from_any}
use Rattle.relax_axioms.proofs.Wanted.{same_body-true, same_itself}
use Rattle.relax_axioms.specs.Implied.{is_said, same_body}
use Rattle.reduce_edges.specs.Edges.{IsEdge, edge}
use Rattle.el_rules.proofs.Sound.{derived_occurs}
use Rattle.el_rules.specs.Laws.{HasExprsIn}
use Rattle.el_rules.specs.Rules.{Derived, ElFact, ElView, IsBelow, IsElPartOf}
use Rattle.el_taxonomy.specs.Taxonomy.{AreBelow}
use Rattle.plain_reasoning.specs.Edges.{class_in, classes_in, facts_in}
use Rattle.plain_reasoning.specs.Facts.{facts_of, knows}
use Rattle.plain_reasoning.specs.Occurring.{occurring_of, view_of_axioms}
use Rattle.plain_reasoning.proofs.Facts.{facts_are_derived, in_known, known_in}
use Rattle.plain_reasoning.proofs.Occurring.{occurs_there}

-- ---- tests

pub not_true : (x : Bool) → not x ≡ true → x ≡ true → ⊥
not_true x h e = true≢false (sym h ∙ ap not e)

pub is_not : (x : Bool) → (x ≡ true → ⊥) → not x ≡ true
is_not true h = absurd (h refl)
is_not false h = refl

pub is_false : (x : Bool) → (x ≡ true → ⊥) → x ≡ false
is_false true h = absurd (h refl)
is_false false h = refl

pub same_name : (a b : List ℕ) → bytes_eq a b ≡ true → a ≡ b
same_name a b h = same_text a b (sym h)

pub own_name : (a b : List ℕ) → a ≡ b → bytes_eq a b ≡ true
own_name a b e = subst (λ c. bytes_eq a c ≡ true) e (own_bytes a)

-- ---- what is said

pub said_edge : (axioms : List Axiom) (sub super : List ℕ) → is_said axioms (edge sub super) ≡ true → IsEdge axioms sub super
said_edge axioms sub super h =
    let found = from_any (λ (a : Axiom). same_body a.body (edge sub super)) axioms h in
    record { one = found.0; stands = Contains-in found.0 axioms found.1; says = same_body-true found.0.body (edge sub super) found.2 }

pub edge_said : (axioms : List Axiom) (sub super : List ℕ) → IsEdge axioms sub super → is_said axioms (edge sub super) ≡ true
edge_said axioms sub super e = any_in (λ (a : Axiom). same_body a.body (edge sub super)) e.one axioms (In-contains e.one axioms e.stands) (same_itself e.one.body (edge sub super) e.says)

-- ---- which classes occur

class_is : (c : ClassExpr) (a : List ℕ) → In a (class_in c) → c ≡ expr.Class a
unfolding class_in
class_is (expr.Class b) a i = ap expr.Class (sym (in_one i))
class_is other a i = in_none i

class_there : (axioms : List Axiom) (a : List ℕ) → In (expr.Class a) (occurring_of axioms) → In a (classes_in axioms)
unfolding class_in classes_in
class_there axioms a i = in_flat_map class_in i here

-- ---- what is derived

module _ (axioms : List Axiom) (view : ElView) (of : IsElPartOf axioms view) where
  pub told : (fact : ElFact) → Derived view fact → knows (facts_in axioms) fact ≡ true
  unfolding facts_in
  told fact d = in_known (facts_of (view_of_axioms axioms)) fact (((facts_are_derived axioms view of).0 fact).1 d)

  pub derived : (fact : ElFact) → knows (facts_in axioms) fact ≡ true → Derived view fact
  unfolding facts_in
  derived fact h = ((facts_are_derived axioms view of).0 fact).0 (known_in (facts_of (view_of_axioms axioms)) fact h)

  pub above_occurs : (sub super : List ℕ) → AreBelow view sub super → In super (classes_in axioms)
  unfolding HasExprsIn
  above_occurs sub super d =
      let both : HasExprsIn view (IsBelow (expr.Class sub) (expr.Class super)) = derived_occurs axioms view of (IsBelow (expr.Class sub) (expr.Class super)) d in
      class_there axioms super (occurs_there axioms ((of.occurring_are (expr.Class super)).0 both.1))
