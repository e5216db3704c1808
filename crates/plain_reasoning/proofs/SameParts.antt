-- What is derived goes by the axioms of a part and by which expressions occur, not by their order.
use Rattle.std.proofs.Common.{sym, subst, ◌∙◌, List}
use Rattle.fact_rows.specs.Member.{In}
use Rattle.owl_axioms.specs.declared.body.Axiom.{Axiom}
use Rattle.owl_axioms.specs.declared.body.Body.{Body}
use Rattle.owl_axioms.specs.declared.expr.ClassExpr.{ClassExpr}
use Rattle.el_rules.specs.Rules.{Derived, ElFact, ElView, IsElPartOf, Rule, by_chain, by_disjoint, by_domain, by_inclusion, by_role, from_link, in_thing, itself, step, to_and, to_link, to_nothing, to_operand}

module _ (axioms : List Axiom) (one other : ElView) (of : IsElPartOf axioms one) (also : IsElPartOf axioms other) where
  occurs_there : {c : ClassExpr} → In c one.occurring → In c other.occurring
  occurs_there {c} i = (also.occurring_are c).1 ((of.occurring_are c).0 i)

  stands_there : {b : Body} → In b one.axioms → In b other.axioms
  stands_there {b} i = subst (In b) (of.axioms_are ∙ sym also.axioms_are) i

  rule_there : {ps : List ElFact} {fact : ElFact} → Rule one ps fact → Rule other ps fact
  rule_there (itself k) = itself (occurs_there k)
  rule_there (in_thing k) = in_thing (occurs_there k)
  rule_there (to_operand operands k) = to_operand operands k
  rule_there (to_and operands k o) = to_and operands (occurs_there k) (occurs_there o)
  rule_there (by_inclusion k) = by_inclusion (stands_there k)
  rule_there (by_disjoint k) = by_disjoint (stands_there k)
  rule_there (to_link) = to_link
  rule_there (by_role k) = by_role (stands_there k)
  rule_there (by_chain k) = by_chain (stands_there k)
  rule_there (from_link k) = from_link (occurs_there k)
  rule_there (by_domain k) = by_domain (stands_there k)
  rule_there (to_nothing) = to_nothing

  pub derived_there : {fact : ElFact} → Derived one fact → Derived other fact
  derived_there (step rule premises) = step (rule_there rule) (λ p i. derived_there (premises p i))
