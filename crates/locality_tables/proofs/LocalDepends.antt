-- Whether an axiom is local depends on what the signature tells of its names.
use Rattle.std.proofs.Common.{◌≡◌, ℕ, Bool, true, false, not, ◌&&◌, ◌||◌, List, [], ◌∷◌, cond, flat_map, map, refl, sym, ap, subst, ◌∙◌, true≢false}
use Rattle.owl_axioms.specs.declared.body.Body.{Body}
use Rattle.owl_axioms.specs.declared.body.Body.TheVariants as body
use Rattle.owl_axioms.specs.declared.expr.ClassExpr.{ClassExpr}
use Rattle.owl_axioms.specs.declared.expr.ClassExpr.TheOpen.{ClassExpr-F}
use Rattle.owl_axioms.specs.declared.expr.ClassExpr.TheFolds.{fold-roll-ClassExpr, ind-ClassExpr, map-ClassExpr}
use Rattle.owl_axioms.specs.declared.expr.ClassExpr.TheViews.{roll-ClassExpr}
use Rattle.owl_axioms.specs.declared.name.Kind.TheVariants as kind
use Rattle.owl_axioms.specs.Names.{Scope, body_names, covers, names_in, names_step, two_roles}
use Rattle.owl_axioms.proofs.Listed.{covers_append, covers_cons, names_layer}
use Rattle.locality_tables.specs.Laws.{LocalDependsOnNames, same_of}
use Rattle.locality_tables.specs.Local.{is_local, local_by}
use Rattle.locality_tables.specs.Verdict.{all_finding, and_finding, class_finding, exact_finding, exchanged, is_empty, is_empty_role, is_full, is_full_role, is_identity, is_outside_role, max_finding, min_finding, or_finding, role_finding, some_finding, verdict, verdict_step}
use Rattle.locality_tables.specs.declared.fills.ClassFill.{ClassFill}
use Rattle.locality_tables.specs.declared.finding.Finding.{Finding}
use Rattle.locality_tables.specs.declared.finding.Finding.TheVariants.{Unknown}
use Rattle.locality_tables.specs.declared.fills.RoleFill.{RoleFill}
use Rattle.locality_tables.specs.declared.finding.RoleFinding.TheVariants.{Filled, Inside}

told_same : (x y : Bool) → cond x y (not y) ≡ true → x ≡ y
told_same true true h = refl
told_same true false h = absurd (true≢false (sym h))
told_same false true h = absurd (true≢false (sym h))
told_same false false h = refl

module _ (classes : ClassFill) (roles : RoleFill) (s t : Scope) where
  abbrev both : Scope
  both = same_of s t

  abbrev v : Scope → ClassExpr → Finding
  v inside = verdict classes roles inside

  abbrev Same : ClassExpr → Type 0
  Same c = covers both (names_in c) ≡ true → v s c ≡ v t c

  abbrev Part : Type 0
  Part = (c : ClassExpr) × Same c

  abbrev first : Part → ClassExpr
  first p = p.0

  layer : (inside : Scope) (x : ClassExpr-F ClassExpr) → v inside (roll-ClassExpr x) ≡ verdict_step classes roles inside (map-ClassExpr _ _ (v inside) x)
  unfolding verdict
  layer inside x = fold-roll-ClassExpr Finding (verdict_step classes roles inside) x

  role : (r : List ℕ) → both kind.Role r ≡ true → role_finding roles s r ≡ role_finding roles t r
  role r h = λ i. cond (told_same (s kind.Role r) (t kind.Role r) h i) Inside (Filled roles)

  parts_same : (ps : List Part) → covers both (flat_map (λ p. p) (map names_in (map first ps))) ≡ true → map (v s) (map first ps) ≡ map (v t) (map first ps)
  parts_same [] h = refl
  parts_same (p ∷ ps) h =
      let hs = covers_append both (names_in p.0) (flat_map (λ p. p) (map names_in (map first ps))) h in
      λ i. p.1 hs.0 i ∷ parts_same ps hs.1 i

  layer_same : (y : ClassExpr-F Part) → covers both (names_step (map-ClassExpr _ _ names_in (map-ClassExpr _ _ first y))) ≡ true
      → verdict_step classes roles s (map-ClassExpr _ _ (v s) (map-ClassExpr _ _ first y)) ≡ verdict_step classes roles t (map-ClassExpr _ _ (v t) (map-ClassExpr _ _ first y))
  unfolding names_step
  layer_same ClassExpr-F.Thing h = refl
  layer_same ClassExpr-F.Nothing h = refl
  layer_same (ClassExpr-F.Class a) h = let hs = covers_cons both _ _ h in λ i. cond (told_same (s kind.Class a) (t kind.Class a) hs.0 i) Unknown (class_finding classes)
  layer_same (ClassExpr-F.And ps) h = λ i. and_finding (parts_same ps h i)
  layer_same (ClassExpr-F.Or ps) h = λ i. or_finding (parts_same ps h i)
  layer_same (ClassExpr-F.Not p) h = λ i. exchanged (p.1 h i)
  layer_same (ClassExpr-F.Some r p) h = let hs = covers_cons both _ _ h in λ i. some_finding (role r hs.0 i) (p.1 hs.1 i)
  layer_same (ClassExpr-F.All r p) h = let hs = covers_cons both _ _ h in λ i. all_finding (role r hs.0 i) (p.1 hs.1 i)
  layer_same (ClassExpr-F.Min n r p) h = let hs = covers_cons both _ _ h in λ i. min_finding n (role r hs.0 i) (p.1 hs.1 i)
  layer_same (ClassExpr-F.Max n r p) h = let hs = covers_cons both _ _ h in λ i. max_finding n (role r hs.0 i) (p.1 hs.1 i)
  layer_same (ClassExpr-F.Exact n r p) h = let hs = covers_cons both _ _ h in λ i. exact_finding n (role r hs.0 i) (p.1 hs.1 i)

  same : (c : ClassExpr) → Same c
  same = ind-ClassExpr Same (λ x y is. subst (λ z. Same (roll-ClassExpr z)) is (made y))
    where
      made : (y : ClassExpr-F Part) → Same (roll-ClassExpr (map-ClassExpr _ _ first y))
      made y h = let x = map-ClassExpr _ _ first y in layer s x ∙ layer_same y (sym (ap (covers both) (names_layer x)) ∙ h) ∙ sym (layer t x)

  pub same_local : (b : Body) → covers both (body_names b) ≡ true → local_by (v s) (role_finding roles s) b ≡ local_by (v t) (role_finding roles t) b
  unfolding local_by body_names
  same_local (body.Sub c d) h = let hs = covers_append both _ _ h in λ i. is_empty (same c hs.0 i) || is_full (same d hs.1 i)
  same_local (body.Equiv c d) h = let hs = covers_append both _ _ h in λ i. (is_empty (same c hs.0 i) && is_empty (same d hs.1 i)) || (is_full (same c hs.0 i) && is_full (same d hs.1 i))
  same_local (body.Disjoint c d) h = let hs = covers_append both _ _ h in λ i. is_empty (same c hs.0 i) || is_empty (same d hs.1 i)
  same_local (body.SubRole r q) h = let hs = two r q h in λ i. is_empty_role (hs.0 i) || (is_full_role (hs.1 i) || (is_identity (hs.0 i) && is_identity (hs.1 i)))
    where
      two : (r q : List ℕ) → covers both (two_roles r q) ≡ true → (role_finding roles s r ≡ role_finding roles t r) × (role_finding roles s q ≡ role_finding roles t q)
      two r q h = let hs = covers_cons both _ _ h in let more = covers_cons both _ _ hs.1 in (role r hs.0, role q more.0)
  same_local (body.Chain r q u) h = let hs = covers_cons both _ _ h in let more = covers_cons both _ _ hs.1 in let last = covers_cons both _ _ more.1 in
      λ i. is_empty_role (role r hs.0 i) || (is_empty_role (role q more.0 i) || (is_full_role (role u last.0 i) || (is_identity (role r hs.0 i) && (is_identity (role q more.0 i) && is_identity (role u last.0 i)))))
  same_local (body.EquivRoles r q) h = let hs = covers_cons both _ _ h in let more = covers_cons both _ _ hs.1 in λ i. is_outside_role (role r hs.0 i) && is_outside_role (role q more.0 i)
  same_local (body.DisjointRoles r q) h = let hs = covers_cons both _ _ h in let more = covers_cons both _ _ hs.1 in λ i. is_empty_role (role r hs.0 i) || is_empty_role (role q more.0 i)
  same_local (body.Inverse r q) h = let hs = covers_cons both _ _ h in let more = covers_cons both _ _ hs.1 in λ i. is_outside_role (role r hs.0 i) && is_outside_role (role q more.0 i)
  same_local (body.Transitive r) h = let hs = covers_cons both _ _ h in λ i. is_outside_role (role r hs.0 i)
  same_local (body.Reflexive r) h = let hs = covers_cons both _ _ h in λ i. is_full_role (role r hs.0 i) || is_identity (role r hs.0 i)
  same_local (body.Symmetric r) h = let hs = covers_cons both _ _ h in λ i. is_outside_role (role r hs.0 i)
  same_local (body.Asymmetric r) h = let hs = covers_cons both _ _ h in λ i. is_empty_role (role r hs.0 i)
  same_local (body.Functional r) h = let hs = covers_cons both _ _ h in λ i. is_empty_role (role r hs.0 i) || is_identity (role r hs.0 i)
  same_local (body.InverseFunctional r) h = let hs = covers_cons both _ _ h in λ i. is_empty_role (role r hs.0 i) || is_identity (role r hs.0 i)
  same_local (body.Domain r c) h = let hs = covers_cons both _ _ h in λ i. is_empty_role (role r hs.0 i) || is_full (same c hs.1 i)
  same_local (body.Range r c) h = let hs = covers_cons both _ _ h in λ i. is_empty_role (role r hs.0 i) || is_full (same c hs.1 i)
  same_local (body.ClassAssertion c a) h = let hs = covers_cons both _ _ h in λ i. is_full (same c hs.1 i)
  same_local (body.RoleAssertion r a b) h = let hs = covers_cons both _ _ h in λ i. is_full_role (role r hs.0 i)
  same_local (body.Declaration name) h = refl
  same_local (body.Note subject property value) h = refl
  same_local (body.OntologyNote property value) h = refl

pub local_depends : LocalDependsOnNames
unfolding is_local
local_depends classes roles s t b h = same_local classes roles s t b h
