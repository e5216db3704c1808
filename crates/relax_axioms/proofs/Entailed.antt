-- What relaxing adds follows from what is there.
use Rattle.std.proofs.Common.{◌≡◌, ℕ, true, ◌<◌, List, [], ◌∷◌, inl, inr, map, refl, sym, ap, subst, ◌∙◌}
use Rattle.owl_axioms.proofs.Members.{Contains-in, In, In-contains, In-map, passes}
use Rattle.owl_axioms.specs.declared.body.Body.{Body}
use Rattle.owl_axioms.specs.declared.body.Body.TheVariants as body
use Rattle.owl_axioms.specs.declared.expr.ClassExpr.{ClassExpr}
use Rattle.owl_axioms.specs.declared.expr.ClassExpr.TheVariants as expr
use Rattle.owl_ontology.specs.Ontology.{OntologyState, axioms_of}
use Rattle.owl_sem.proofs.Keeps.{adding_entailed_keeps}
use Rattle.owl_sem.proofs.Means.{of_and}
use Rattle.owl_sem.specs.Interp.{Interp, member}
use Rattle.owl_sem.specs.Laws.{KeepBoth}
use Rattle.owl_sem.specs.Models.{Satisfies}
use Rattle.relax_axioms.specs.Laws.{DefinitionEntails, MissingIsEntailed}
use Rattle.relax_axioms.specs.Relax.{Relaxes}
use Rattle.relax_axioms.specs.Relaxed.{Defines, below}
use Rattle.relax_axioms.proofs.Missing.{axioms_with}

equal_members : (i : Interp) (c d : ClassExpr) → Satisfies i (body.Equiv c d) → (e : ℕ) → e < i.size → member i c e ≡ member i d e
unfolding Satisfies
equal_members i c d sat = sat

below_from : (i : Interp) (c d : ClassExpr) → ((e : ℕ) → e < i.size → member i c e ≡ true → member i d e ≡ true) → Satisfies i (body.Sub c d)
unfolding Satisfies
below_from i c d each = each

-- a member of an intersection is one of each operand
member_of_operand : (i : Interp) (operands : List ClassExpr) (operand : ClassExpr) (e : ℕ) → In operand operands → member i (expr.And operands) e ≡ true → member i operand e ≡ true
member_of_operand i operands operand e has is =
    passes (λ c. c e) (member i operand) (map (member i) operands) (sym (λ k. of_and i operands k e) ∙ is) (In-map (member i) operand operands has)

same_members : (i : Interp) (said : Body) (class : List ℕ) (operands : List ClassExpr) → Defines said class operands → Satisfies i said → (e : ℕ) → e < i.size → member i (expr.Class class) e ≡ member i (expr.And operands) e
same_members i said class operands (inl is) sat e low = equal_members i (expr.Class class) (expr.And operands) (subst (Satisfies i) is sat) e low
same_members i said class operands (inr is) sat e low = sym (equal_members i (expr.And operands) (expr.Class class) (subst (Satisfies i) is sat) e low)

operand_above : (i : Interp) (said : Body) (class : List ℕ) (operands : List ClassExpr) (operand : ClassExpr) → Defines said class operands → In operand operands → Satisfies i said → Satisfies i (below class operand)
operand_above i said class operands operand defines has sat =
    below_from i (expr.Class class) operand (λ e low is. member_of_operand i operands operand e has (sym (same_members i said class operands defines sat e low) ∙ is))

pub definition_entails : DefinitionEntails
definition_entails definition class operands operand defines has i model =
    operand_above i definition.body class operands operand defines (In-contains operand operands has) (model.each definition (Contains-in definition (definition ∷ []) (inl refl)))

pub missing_is_entailed : MissingIsEntailed
missing_is_entailed axioms added one i model =
    let d = one.implied in
    subst (λ a. Satisfies i a.body) (sym one.is)
    (operand_above i d.definition.body one.class d.operands one.operand d.defines (In-contains one.operand d.operands d.has) (model.each d.definition d.stands))

pub relaxing_keeps : (before after : OntologyState) (count : ℕ) → Relaxes before after count → KeepBoth (axioms_of before.entries) (axioms_of after.entries)
relaxing_keeps before after count one =
    let axioms = axioms_of before.entries in
    subst (KeepBoth axioms) (sym (ap axioms_of one.entries ∙ axioms_with before.entries one.added))
    (adding_entailed_keeps axioms one.added (λ a here. missing_is_entailed axioms a ((one.exactly a).0 here)))
