-- Membership and satisfaction depend on the names alone.
use Rattle.std.proofs.Common.{◌≡◌, ℕ, ◌<◌, ◌==◌, Bool, true, false, not, ◌&&◌, List, [], ◌∷◌, flat_map, map, nat_le, ◌≤◌, refl, sym, ap, subst, ◌∙◌}
use Rattle.std.specs.List.{list_all, list_any}
use Rattle.owl_axioms.specs.declared.body.Body.{Body}
use Rattle.owl_axioms.specs.declared.body.Body.TheVariants as body
use Rattle.owl_axioms.specs.declared.expr.ClassExpr.{ClassExpr}
use Rattle.owl_axioms.specs.declared.expr.ClassExpr.TheOpen.{ClassExpr-F}
use Rattle.owl_axioms.specs.declared.expr.ClassExpr.TheFolds.{fold-roll-ClassExpr, ind-ClassExpr, map-ClassExpr}
use Rattle.owl_axioms.specs.declared.expr.ClassExpr.TheViews.{roll-ClassExpr}
use Rattle.owl_axioms.specs.declared.name.Kind.TheVariants as kind
use Rattle.owl_sem.specs.Interp.{Interp, in_class, in_role, individual, member, member_step, number_of}
use Rattle.owl_sem.specs.Laws.{MembersDependOnNames, ModelsDependOnNames, SatisfactionDependsOnNames}
use Rattle.owl_sem.specs.Models.{Agrees, Satisfies}
use Rattle.owl_axioms.specs.Names.{Scope, body_names, covers, names_in, names_step, one_role, two_roles}
use Rattle.owl_axioms.proofs.Listed.{covers_append, covers_axiom, covers_cons, names_layer}

pub member_layer : (i : Interp) (x : ClassExpr-F ClassExpr) → member i (roll-ClassExpr x) ≡ member_step i (map-ClassExpr _ _ (member i) x)
unfolding member
member_layer i x = fold-roll-ClassExpr (ℕ → Bool) (member_step i) x

module _ (s : Scope) (i j : Interp) (agree : Agrees i j s) where
  abbrev Same : ClassExpr → Type 0
  Same c = covers s (names_in c) ≡ true → member i c ≡ member j c

  abbrev Part : Type 0
  Part = (c : ClassExpr) × Same c

  abbrev first : Part → ClassExpr
  first p = p.0

  role : (r : List ℕ) → s kind.Role r ≡ true → in_role i r ≡ in_role j r
  role r h = λ k e f. agree.roles r h e f k

  class : (a : List ℕ) → s kind.Class a ≡ true → in_class i a ≡ in_class j a
  class a h = λ k e. agree.classes a h e k

  parts_same : (ps : List Part) → covers s (flat_map (λ p. p) (map names_in (map first ps))) ≡ true → map (member i) (map first ps) ≡ map (member j) (map first ps)
  parts_same [] h = refl
  parts_same (p ∷ ps) h =
      let hs = covers_append s (names_in p.0) (flat_map (λ p. p) (map names_in (map first ps))) h in
      λ k. p.1 hs.0 k ∷ parts_same ps hs.1 k

  layer_same : (y : ClassExpr-F Part) → covers s (names_step (map-ClassExpr _ _ names_in (map-ClassExpr _ _ first y))) ≡ true
      → member_step i (map-ClassExpr _ _ (member i) (map-ClassExpr _ _ first y)) ≡ member_step j (map-ClassExpr _ _ (member j) (map-ClassExpr _ _ first y))
  unfolding member_step names_step
  layer_same ClassExpr-F.Thing h = refl
  layer_same ClassExpr-F.Nothing h = refl
  layer_same (ClassExpr-F.Class a) h = let hs = covers_cons s _ _ h in class a hs.0
  layer_same (ClassExpr-F.And ps) h = λ k e. list_all (λ c. c e) (parts_same ps h k)
  layer_same (ClassExpr-F.Or ps) h = λ k e. list_any (λ c. c e) (parts_same ps h k)
  layer_same (ClassExpr-F.Not p) h = λ k e. not (p.1 h k e)
  layer_same (ClassExpr-F.Some r p) h = let hs = covers_cons s _ _ h in λ k e. nat_le 1 (number_of (λ f. role r hs.0 k e f && p.1 hs.1 k f) (agree.sizes k))
  layer_same (ClassExpr-F.All r p) h = let hs = covers_cons s _ _ h in λ k e. number_of (λ f. role r hs.0 k e f && not (p.1 hs.1 k f)) (agree.sizes k) == 0
  layer_same (ClassExpr-F.Min n r p) h = let hs = covers_cons s _ _ h in λ k e. nat_le n (number_of (λ f. role r hs.0 k e f && p.1 hs.1 k f) (agree.sizes k))
  layer_same (ClassExpr-F.Max n r p) h = let hs = covers_cons s _ _ h in λ k e. nat_le (number_of (λ f. role r hs.0 k e f && p.1 hs.1 k f) (agree.sizes k)) n
  layer_same (ClassExpr-F.Exact n r p) h = let hs = covers_cons s _ _ h in λ k e. number_of (λ f. role r hs.0 k e f && p.1 hs.1 k f) (agree.sizes k) == n

  pub same : (c : ClassExpr) → Same c
  same = ind-ClassExpr Same (λ x y is. subst (λ z. Same (roll-ClassExpr z)) is (made y))
    where
      made : (y : ClassExpr-F Part) → Same (roll-ClassExpr (map-ClassExpr _ _ first y))
      made y h =
          let x = map-ClassExpr _ _ first y in
          member_layer i x ∙ layer_same y (sym (ap (covers s) (names_layer x)) ∙ h) ∙ sym (member_layer j x)

  roles_two : (r r' : List ℕ) → covers s (two_roles r r') ≡ true → (in_role i r ≡ in_role j r) × (in_role i r' ≡ in_role j r')
  roles_two r r' h = let hs = covers_cons s _ _ h in let more = covers_cons s _ _ hs.1 in (role r hs.0, role r' more.0)

  role_one : (r : List ℕ) → covers s (one_role r) ≡ true → in_role i r ≡ in_role j r
  role_one r h = let hs = covers_cons s _ _ h in role r hs.0

  one_of : (a : List ℕ) → s kind.Individual a ≡ true → individual i a ≡ individual j a
  one_of a h = agree.individuals a h

  pub same_said : (b : Body) → covers s (body_names b) ≡ true → Satisfies i b ≡ Satisfies j b
  unfolding Satisfies body_names
  same_said (body.Sub c d) h = let hs = covers_append s _ _ h in λ k. (e : ℕ) → e < agree.sizes k → same c hs.0 k e ≡ true → same d hs.1 k e ≡ true
  same_said (body.Equiv c d) h = let hs = covers_append s _ _ h in λ k. (e : ℕ) → e < agree.sizes k → same c hs.0 k e ≡ same d hs.1 k e
  same_said (body.Disjoint c d) h = let hs = covers_append s _ _ h in λ k. (e : ℕ) → e < agree.sizes k → (same c hs.0 k e && same d hs.1 k e) ≡ false
  same_said (body.SubRole r r') h = let same' = roles_two r r' h in λ k. (e f : ℕ) → same'.0 k e f ≡ true → same'.1 k e f ≡ true
  same_said (body.Chain r r' t) h = let hs = covers_cons s _ _ h in let same' = roles_two r' t hs.1 in λ k. (e f g : ℕ) → role r hs.0 k e f ≡ true → same'.0 k f g ≡ true → same'.1 k e g ≡ true
  same_said (body.EquivRoles r r') h = let same' = roles_two r r' h in λ k. (e f : ℕ) → same'.0 k e f ≡ same'.1 k e f
  same_said (body.DisjointRoles r r') h = let same' = roles_two r r' h in λ k. (e f : ℕ) → (same'.0 k e f && same'.1 k e f) ≡ false
  same_said (body.Inverse r r') h = let same' = roles_two r r' h in λ k. (e f : ℕ) → same'.0 k e f ≡ same'.1 k f e
  same_said (body.Transitive r) h = let same' = role_one r h in λ k. (e f g : ℕ) → same' k e f ≡ true → same' k f g ≡ true → same' k e g ≡ true
  same_said (body.Reflexive r) h = let same' = role_one r h in λ k. (e : ℕ) → e < agree.sizes k → same' k e e ≡ true
  same_said (body.Symmetric r) h = let same' = role_one r h in λ k. (e f : ℕ) → same' k e f ≡ true → same' k f e ≡ true
  same_said (body.Asymmetric r) h = let same' = role_one r h in λ k. (e f : ℕ) → (same' k e f && same' k f e) ≡ false
  same_said (body.Functional r) h = let same' = role_one r h in λ k. (e f g : ℕ) → same' k e f ≡ true → same' k e g ≡ true → f ≡ g
  same_said (body.InverseFunctional r) h = let same' = role_one r h in λ k. (e f g : ℕ) → same' k f e ≡ true → same' k g e ≡ true → f ≡ g
  same_said (body.Domain r c) h = let hs = covers_cons s _ _ h in λ k. (e f : ℕ) → role r hs.0 k e f ≡ true → same c hs.1 k e ≡ true
  same_said (body.Range r c) h = let hs = covers_cons s _ _ h in λ k. (e f : ℕ) → role r hs.0 k e f ≡ true → same c hs.1 k f ≡ true
  same_said (body.ClassAssertion c a) h = let hs = covers_cons s _ _ h in λ k. same c hs.1 k (one_of a hs.0 k) ≡ true
  same_said (body.RoleAssertion r a b) h =
      let hs = covers_cons s _ _ h in let more = covers_cons s _ _ hs.1 in let last = covers_cons s _ _ more.1 in
      λ k. role r hs.0 k (one_of a more.0 k) (one_of b last.0 k) ≡ true
  same_said (body.Declaration name) h = refl
  same_said (body.Note subject property value) h = refl
  same_said (body.OntologyNote property value) h = refl

pub members_depend : MembersDependOnNames
members_depend s i j agree c h e = λ k. same s i j agree c h k e

pub satisfaction_depends : SatisfactionDependsOnNames
satisfaction_depends s i j agree b h holds = subst (λ t. t) (same_said s i j agree b h) holds

pub models_depend : ModelsDependOnNames
models_depend s i j agree axioms h m = record {
  some = subst (λ n. 1 ≤ n) agree.sizes m.some;
  each = λ a at. satisfaction_depends s i j agree a.body (covers_axiom s axioms a h at) (m.each a at);
}
