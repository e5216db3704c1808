-- What the rules derive is true in each model, and of expressions that occur.
use Rattle.std.proofs.Common.{◌≡◌, ℕ, ◌<◌, Bool, true, false, ◌&&◌, List, [], ◌∷◌, inl, inr, map, refl, sym, subst, ◌∙◌, true≢false}
use Rattle.std.specs.List.{list_all}
use Rattle.fact_rows.specs.Member.{In, here, there}
use Rattle.fact_rows.proofs.Members.{contains_from_in, from_flat_map, in_cons, in_filter, in_map, in_none, in_one}
use Rattle.owl_axioms.proofs.Tests.{both}
use Rattle.owl_axioms.specs.declared.body.Axiom.{Axiom}
use Rattle.owl_axioms.specs.declared.body.Body.{Body}
use Rattle.owl_axioms.specs.declared.body.Body.TheVariants as body
use Rattle.owl_axioms.specs.declared.expr.ClassExpr.{ClassExpr}
use Rattle.owl_axioms.specs.declared.expr.ClassExpr.TheVariants as expr
use Rattle.owl_sem.proofs.Means.{axioms_are, fillers_are, in_role_second, of_and, some_from, thing_and_nothing}
use Rattle.owl_sem.specs.Interp.{Interp, in_role, member}
use Rattle.owl_sem.specs.Models.{IsModel, Satisfies, SatisfiesChain}
use Rattle.expr_pool.proofs.VisitLemmas.{parts_and, parts_some}
use Rattle.expr_pool.specs.Part.{parts_of}
use Rattle.el_rules.specs.ElPart.{el_axioms, el_bodies, has_some, if_el, is_el, is_used, used_of}
use Rattle.el_rules.specs.Laws.{DerivedIsTrue, DerivedOccurs, ElBodiesSayTheSame, HasExprsIn, said_by}
use Rattle.el_rules.specs.Occurs.{Occurs, exprs_in, nothing, part, standing, thing}
use Rattle.el_rules.specs.Rules.{Derived, ElFact, ElView, HasLink, IsBelow, IsElPartOf, Rule, by_chain, by_disjoint, by_domain, by_inclusion, by_role, from_link, in_thing, is_below, itself, step, to_and, to_link, to_nothing, to_operand}

-- ---- what the EL part has of an axiom

-- each of one or of two
each_one : (P : Body → Type 0) (b : Body) → P b → (x : Body) → In x (b ∷ []) → P x
each_one P b p x i = subst P (sym (in_one i)) p

each_two : (P : Body → Type 0) (b d : Body) → P b → P d → (x : Body) → In x (b ∷ d ∷ []) → P x
each_two P b d p q x i = elim (in_cons i) [
  | inl e ↦ subst P (sym e) p
  | inr j ↦ each_one P d q x j
]

-- where the expressions are EL expressions the part has what is said, and else nothing
by_el : (P : List Body → Type 0) (exprs : List ClassExpr) (said : List Body) → (P said) → has_some (if_el exprs said) ≡ true → P (if_el exprs said)
by_el P exprs said p used = by (list_all is_el exprs) refl
  where
    by : (b : Bool) → list_all is_el exprs ≡ b → P (if_el exprs said)
    by true e = rw e p
    by false e = absurd (true≢false (sym used ∙ rw e refl))

abbrev SaysTheSame : Interp → Body → List Body → Type 0
SaysTheSame i b said = (Satisfies i b → (x : Body) → In x said → Satisfies i x) × (((x : Body) → In x said → Satisfies i x) → Satisfies i b)

same_one : (i : Interp) (b : Body) → SaysTheSame i b (b ∷ [])
same_one i b = (λ s. each_one (Satisfies i) b s, λ h. h b here)

same_equiv : (i : Interp) (c d : ClassExpr) → SaysTheSame i (body.Equiv c d) (body.Sub c d ∷ body.Sub d c ∷ [])
same_equiv i c d = (
  λ s. let p = (axioms_are.equivalent i c d).0 s in each_two (Satisfies i) (body.Sub c d) (body.Sub d c) p.0 p.1,
  λ h. (axioms_are.equivalent i c d).1 (h (body.Sub c d) here, h (body.Sub d c) (there here)),
)

same_equiv_roles : (i : Interp) (r s : List ℕ) → SaysTheSame i (body.EquivRoles r s) (body.SubRole r s ∷ body.SubRole s r ∷ [])
same_equiv_roles i r s = (
  λ k. let p = (axioms_are.equivalent_roles i r s).0 k in each_two (Satisfies i) (body.SubRole r s) (body.SubRole s r) p.0 p.1,
  λ h. (axioms_are.equivalent_roles i r s).1 (h (body.SubRole r s) here, h (body.SubRole s r) (there here)),
)

same_transitive : (i : Interp) (r : List ℕ) → SaysTheSame i (body.Transitive r) (body.Chain r r r ∷ [])
same_transitive i r = (
  λ k. each_one (Satisfies i) (body.Chain r r r) ((axioms_are.transitive i r).0 k),
  λ h. (axioms_are.transitive i r).1 (h (body.Chain r r r) here),
)

none_used : (i : Interp) (b : Body) → has_some [] ≡ true → SaysTheSame i b []
none_used i b used = absurd (true≢false (sym used))

same_body : (i : Interp) (b : Body) → has_some (el_bodies b) ≡ true → SaysTheSame i b (el_bodies b)
unfolding el_bodies
same_body i (body.Sub c d) used = by_el (SaysTheSame i (body.Sub c d)) (c ∷ d ∷ []) (body.Sub c d ∷ []) (same_one i (body.Sub c d)) used
same_body i (body.Equiv c d) used = by_el (SaysTheSame i (body.Equiv c d)) (c ∷ d ∷ []) (body.Sub c d ∷ body.Sub d c ∷ []) (same_equiv i c d) used
same_body i (body.Disjoint c d) used = by_el (SaysTheSame i (body.Disjoint c d)) (c ∷ d ∷ []) (body.Disjoint c d ∷ []) (same_one i (body.Disjoint c d)) used
same_body i (body.SubRole r s) used = same_one i (body.SubRole r s)
same_body i (body.Chain r s t) used = same_one i (body.Chain r s t)
same_body i (body.EquivRoles r s) used = same_equiv_roles i r s
same_body i (body.DisjointRoles r s) used = none_used i (body.DisjointRoles r s) used
same_body i (body.Inverse r s) used = none_used i (body.Inverse r s) used
same_body i (body.Transitive r) used = same_transitive i r
same_body i (body.Reflexive r) used = none_used i (body.Reflexive r) used
same_body i (body.Symmetric r) used = none_used i (body.Symmetric r) used
same_body i (body.Asymmetric r) used = none_used i (body.Asymmetric r) used
same_body i (body.Functional r) used = none_used i (body.Functional r) used
same_body i (body.InverseFunctional r) used = none_used i (body.InverseFunctional r) used
same_body i (body.Domain r c) used = by_el (SaysTheSame i (body.Domain r c)) (c ∷ []) (body.Domain r c ∷ []) (same_one i (body.Domain r c)) used
same_body i (body.Range r c) used = none_used i (body.Range r c) used
same_body i (body.ClassAssertion c a) used = none_used i (body.ClassAssertion c a) used
same_body i (body.RoleAssertion r a b) used = none_used i (body.RoleAssertion r a b) used
same_body i (body.Declaration name) used = none_used i (body.Declaration name) used
same_body i (body.Note s p v) used = none_used i (body.Note s p v) used
same_body i (body.OntologyNote p v) used = none_used i (body.OntologyNote p v) used

pub same_bodies : ElBodiesSayTheSame
same_bodies i a used = same_body i a.body used

-- a model of the EL part satisfies all that the part has
some_used : (b : Body) (bs : List Body) → In b bs → has_some bs ≡ true
some_used b [] i = in_none i
some_used b (x ∷ bs) i = refl

model_of_part : (axioms : List Axiom) (i : Interp) → IsModel i (used_of axioms) → (b : Body) → In b (el_axioms axioms) → Satisfies i b
model_of_part axioms i model b k =
    let from = from_flat_map (λ (a : Axiom). el_bodies a.body) axioms k in
    let used : is_used from.it ≡ true = some_used b (el_bodies from.it.body) from.out in
    (same_bodies i from.it used).0 (model.each from.it (contains_from_in (in_filter is_used from.inside used))) b from.out

-- ---- members of intersections

abbrev Has : Interp → ClassExpr → ℕ → Type 0
Has i c e = member i c e ≡ true

each_passes : (i : Interp) {d : ClassExpr} {es : List ClassExpr} (e : ℕ) → list_all (λ c. c e) (map (member i) es) ≡ true → In d es → Has i d e
each_passes i e h (here {xs}) = (both _ _ h).0
each_passes i e h (there {y} {xs} k) = each_passes i e (both _ _ h).1 k

all_pass : (i : Interp) (es : List ClassExpr) (e : ℕ) → ((d : ClassExpr) → In d es → Has i d e) → list_all (λ c. c e) (map (member i) es) ≡ true
all_pass i [] e h = refl
all_pass i (d ∷ es) e h = let first = h d here in let rest = all_pass i es e (λ x k. h x (there k)) in λ j. first j && rest j

operand_has : (i : Interp) (d : ClassExpr) (es : List ClassExpr) (e : ℕ) → Has i (expr.And es) e → In d es → Has i d e
operand_has i d es e h k = each_passes i e (sym (λ j. of_and i es j e) ∙ h) k

and_has : (i : Interp) (es : List ClassExpr) (e : ℕ) → ((d : ClassExpr) → In d es → Has i d e) → Has i (expr.And es) e
and_has i es e h = (λ j. of_and i es j e) ∙ all_pass i es e h

both_in : (x y : Bool) → x ≡ true → y ≡ true → (x && y) ≡ false → {P : Type 0} → P
both_in true true p q h = absurd (true≢false h)
both_in true false p q h = absurd (true≢false (sym q))
both_in false y p q h = absurd (true≢false (sym p))

-- ---- each rule

-- what each kind of axiom says, as it is used
module _ (i : Interp) where
  abbrev True : ElFact → Type 0
  True fact = Satisfies i (said_by fact)

  below_is : (c d : ClassExpr) → True (IsBelow c d) → (e : ℕ) → e < i.size → Has i c e → Has i d e
  unfolding Satisfies said_by
  below_is c d t = t

  below_from : (c d : ClassExpr) → ((e : ℕ) → e < i.size → Has i c e → Has i d e) → True (IsBelow c d)
  unfolding Satisfies said_by
  below_from c d t = t

  -- what a link leads to
  link_is : (c d : ClassExpr) (r : List ℕ) → True (HasLink c r d) → (e : ℕ) → e < i.size → Has i c e → (f : ℕ) × (in_role i r e f ≡ true) × Has i d f
  unfolding Satisfies said_by
  link_is c d r t e l m = (fillers_are.some i r d e).0 (t e l m)

  link_from : (c d : ClassExpr) (r : List ℕ) → ((e : ℕ) → e < i.size → Has i c e → (f : ℕ) × (in_role i r e f ≡ true) × Has i d f) → True (HasLink c r d)
  unfolding Satisfies said_by
  link_from c d r t e l m = let f = t e l m in some_from i r d e f.0 f.1 f.2

  restriction_is_link : (c d : ClassExpr) (r : List ℕ) → True (IsBelow c (expr.Some r d)) → True (HasLink c r d)
  unfolding Satisfies said_by
  restriction_is_link c d r t = t

  sub_is : (c d : ClassExpr) → Satisfies i (body.Sub c d) → (e : ℕ) → e < i.size → Has i c e → Has i d e
  unfolding Satisfies
  sub_is c d t = t

  disjoint_is : (c d : ClassExpr) → Satisfies i (body.Disjoint c d) → (e : ℕ) → e < i.size → (member i c e && member i d e) ≡ false
  unfolding Satisfies
  disjoint_is c d t = t

  sub_role_is : (r s : List ℕ) → Satisfies i (body.SubRole r s) → (e f : ℕ) → in_role i r e f ≡ true → in_role i s e f ≡ true
  unfolding Satisfies
  sub_role_is r s t = t

  chain_is : (r s t : List ℕ) → Satisfies i (body.Chain r s t) → SatisfiesChain i r s t
  unfolding Satisfies
  chain_is r s t u = u

  domain_is : (r : List ℕ) (c : ClassExpr) → Satisfies i (body.Domain r c) → (e f : ℕ) → in_role i r e f ≡ true → Has i c e
  unfolding Satisfies
  domain_is r c t = t

module _ (view : ElView) (i : Interp) (model : (b : Body) → In b view.axioms → Satisfies i b) where
  rule_is_true : {ps : List ElFact} {fact : ElFact} → Rule view ps fact → ((p : ElFact) → In p ps → True i p) → True i fact
  rule_is_true (itself {c} k) h = below_from i c c (λ e l m. m)
  rule_is_true (in_thing {c} k) h = below_from i c expr.Thing (λ e l m. thing_and_nothing.thing i e)
  rule_is_true (to_operand {c} {d} operands k) h = below_from i c d (λ e l m. operand_has i d operands e (below_is i c (expr.And operands) (h (IsBelow c (expr.And operands)) here) e l m) k)
  rule_is_true (to_and {c} operands k o) h = below_from i c (expr.And operands) (λ e l m. and_has i operands e (λ d j. below_is i c d (h (is_below c d) (in_map (is_below c) j)) e l m))
  rule_is_true (by_inclusion {c} {d} {e = b} k) h = below_from i c b (λ e l m. sub_is i d b (model (body.Sub d b) k) e l (below_is i c d (h (IsBelow c d) here) e l m))
  rule_is_true (by_disjoint {c} {d} {e = b} k) h =
      below_from i c expr.Nothing
      (λ e l m. both_in (member i d e) (member i b e) (below_is i c d (h (IsBelow c d) here) e l m) (below_is i c b (h (IsBelow c b) (there here)) e l m) (disjoint_is i d b (model (body.Disjoint d b) k) e l))
  rule_is_true (to_link {c} {d} {r}) h = restriction_is_link i c d r (h (IsBelow c (expr.Some r d)) here)
  rule_is_true (by_role {c} {d} {r} {s} k) h =
      link_from i c d s (λ e l m. let f = link_is i c d r (h (HasLink c r d) here) e l m in (f.0, sub_role_is i r s (model (body.SubRole r s) k) e f.0 f.1, f.2))
  rule_is_true (by_chain {c} {d} {e = b} {r} {s} {t} k) h =
      link_from i c b t
      (λ e l m.
      let f = link_is i c d r (h (HasLink c r d) here) e l m in
      let g = link_is i d b s (h (HasLink d s b) (there here)) f.0 (in_role_second i r e f.0 f.1) f.2 in
      (g.0, chain_is i r s t (model (body.Chain r s t) k) e f.0 g.0 f.1 g.1, g.2))
  rule_is_true (from_link {c} {d} {e = b} {r} k) h =
      below_from i c (expr.Some r b)
      (λ e l m.
      let f = link_is i c d r (h (HasLink c r d) here) e l m in
      some_from i r b e f.0 f.1 (below_is i d b (h (IsBelow d b) (there here)) f.0 (in_role_second i r e f.0 f.1) f.2))
  rule_is_true (by_domain {c} {d} {e = b} {r} k) h =
      below_from i c b (λ e l m. let f = link_is i c d r (h (HasLink c r d) here) e l m in domain_is i r b (model (body.Domain r b) k) e f.0 f.1)
  rule_is_true (to_nothing {c} {d} {r}) h =
      below_from i c expr.Nothing
      (λ e l m.
      let f = link_is i c d r (h (HasLink c r d) here) e l m in
      absurd (true≢false (sym (below_is i d expr.Nothing (h (IsBelow d expr.Nothing) (there here)) f.0 (in_role_second i r e f.0 f.1) f.2) ∙ thing_and_nothing.nothing i f.0)))

  fact_is_true : {fact : ElFact} → Derived view fact → True i fact
  fact_is_true (step rule premises) = rule_is_true rule (λ p k. fact_is_true (premises p k))

pub derived_true : DerivedIsTrue
derived_true axioms view of i model fact derived = fact_is_true view i (λ b k. model_of_part axioms i model b (subst (In b) of.axioms_are k)) derived

-- ---- what occurs

module _ (axioms : List Axiom) (view : ElView) (of : IsElPartOf axioms view) where
  occurs : {c : ClassExpr} → Occurs axioms c → In c view.occurring
  occurs {c} o = (of.occurring_are c).1 o

  -- a part of what occurs
  part_occurs : {c p : ClassExpr} → In c view.occurring → In p (parts_of c) → In p view.occurring
  part_occurs {c} k i = occurs (part ((of.occurring_are c).0 k) i)

  stands : {b : Body} {c : ClassExpr} → In b view.axioms → In c (exprs_in b) → In c view.occurring
  stands {b} k i = occurs (standing (subst (In b) of.axioms_are k) i)

  sub_second : {c d : ClassExpr} → In (body.Sub c d) view.axioms → In d view.occurring
  unfolding exprs_in
  sub_second k = stands k (there here)

  domain_first : {r : List ℕ} {c : ClassExpr} → In (body.Domain r c) view.axioms → In c view.occurring
  unfolding exprs_in
  domain_first k = stands k here

  nothing_occurs : In expr.Nothing view.occurring
  nothing_occurs = occurs nothing

  rule_occurs : {ps : List ElFact} {fact : ElFact} → Rule view ps fact → ((p : ElFact) → In p ps → HasExprsIn view p) → HasExprsIn view fact
  unfolding HasExprsIn
  rule_occurs (itself k) h = (k, k)
  rule_occurs (in_thing k) h = (k, occurs thing)
  rule_occurs (to_operand {c} {d} operands k) h = let p = h (IsBelow c (expr.And operands)) here in (p.0, part_occurs p.1 (subst (In d) (sym (parts_and operands)) k))
  rule_occurs (to_and operands k o) h = (k, o)
  rule_occurs (by_inclusion {c} {d} k) h = ((h (IsBelow c d) here).0, sub_second k)
  rule_occurs (by_disjoint {c} {d} k) h = ((h (IsBelow c d) here).0, nothing_occurs)
  rule_occurs (to_link {c} {d} {r}) h = let p = h (IsBelow c (expr.Some r d)) here in (p.0, part_occurs p.1 (subst (In d) (sym (parts_some r d)) here))
  rule_occurs (by_role {c} {d} {r} k) h = h (HasLink c r d) here
  rule_occurs (by_chain {c} {d} {e = b} {r} {s} k) h = ((h (HasLink c r d) here).0, (h (HasLink d s b) (there here)).1)
  rule_occurs (from_link {c} {d} {r} k) h = ((h (HasLink c r d) here).0, k)
  rule_occurs (by_domain {c} {d} {r} k) h = ((h (HasLink c r d) here).0, domain_first k)
  rule_occurs (to_nothing {c} {d} {r}) h = ((h (HasLink c r d) here).0, nothing_occurs)

  fact_occurs : {fact : ElFact} → Derived view fact → HasExprsIn view fact
  fact_occurs (step rule premises) = rule_occurs rule (λ p k. fact_occurs (premises p k))

pub derived_occurs : DerivedOccurs
derived_occurs axioms view of fact derived = fact_occurs axioms view of derived
