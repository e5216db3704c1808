-- A verdict says what holds in each filled interpretation, by induction on the expression.
use Rattle.std.proofs.Common.{◌≡◌, ℕ, ◌<◌, Bool, true, false, cond, ◌&&◌, ◌||◌, List, [], ◌∷◌, refl, sym, ap, subst, ◌∙◌, arith, map, true≢false, nat_lt, flat_map}
use Rattle.std.specs.List.{list_any, list_all}
use Rattle.owl_axioms.specs.declared.expr.ClassExpr.{ClassExpr}
use Rattle.owl_axioms.specs.declared.expr.ClassExpr.TheOpen as layer
use Rattle.owl_axioms.specs.declared.expr.ClassExpr.TheOpen.{ClassExpr-F}
use Rattle.owl_axioms.specs.declared.expr.ClassExpr.TheFolds.{fold-roll-ClassExpr, ind-ClassExpr, map-ClassExpr}
use Rattle.owl_axioms.specs.declared.expr.ClassExpr.TheViews.{roll-ClassExpr}
use Rattle.locality_tables.specs.declared.fills.ClassFill.{ClassFill}
use Rattle.locality_tables.specs.declared.fills.ClassFill.TheVariants as class
use Rattle.locality_tables.specs.declared.fills.RoleFill.{RoleFill}
use Rattle.locality_tables.specs.declared.finding.Finding.{Finding}
use Rattle.locality_tables.specs.declared.finding.Finding.TheVariants.{Empty, Full}
use Rattle.locality_tables.specs.declared.finding.RoleFinding.TheVariants.{Inside, Filled}
use Rattle.locality_tables.specs.Verdict.{verdict, verdict_step, role_finding, class_finding, is_empty, is_full}
use Rattle.owl_sem.specs.Interp.{Interp, member, member_step, in_role}
use Rattle.locality_tables.specs.Fill.{IsFilled, role_holds}
use Rattle.owl_axioms.specs.declared.name.Kind.TheVariants as kind
use Rattle.owl_axioms.specs.Names.{Scope, covers, names_in, names_step}
use Rattle.owl_axioms.proofs.Listed.{covers_append, covers_cons, names_layer}
use Rattle.owl_sem.proofs.Depends.{member_layer}
use Rattle.std.proofs.lemmas.Bool.Decides.{nat_tests}
use Rattle.locality_tables.proofs.Findings.{Says, Knows, says_if, says_exchanged, says_some, says_all, says_min, says_max, says_exact, and_both, and_false, false_and, empty_from, full_from}

true_last : (x y : Bool) → y ≡ true → (x || y) ≡ true
true_last true y h = refl
true_last false y h = h

class_says : (classes : ClassFill) (m : Bool) → m ≡ is_full (class_finding classes) → Says (class_finding classes) m
class_says class.Empty m h = h
class_says class.Full m h = h

module _ (classes : ClassFill) (roles : RoleFill) (inside within : Scope) (j : Interp) (filled : IsFilled classes roles inside within j) where
  abbrev pub v : ClassExpr → Finding
  v c = verdict classes roles inside c

  -- what the verdict of c says of each element
  abbrev pub Sound : ClassExpr → Type 0
  Sound c = covers within (names_in c) ≡ true → (e : ℕ) → e < j.size → Says (v c) (member j c e)

  verdict_layer : (x : ClassExpr-F ClassExpr) → v (roll-ClassExpr x) ≡ verdict_step classes roles inside (map-ClassExpr _ _ v x)
  unfolding verdict
  verdict_layer x = fold-roll-ClassExpr Finding (verdict_step classes roles inside) x

  below_true : (e n : ℕ) → e < n → nat_lt e n ≡ true
  below_true e n l = grind (arith, nat_tests)

  pub knows : (r : List ℕ) → within kind.Role r ≡ true → Knows (role_finding roles inside r) (in_role j r) j.size
  knows r w = by (inside kind.Role r) refl
    where
      by : (b : Bool) → inside kind.Role r ≡ b → Knows (cond b Inside (Filled roles)) (in_role j r) j.size
      by true q = tt
      by false q = λ e f el fl. filled.role r w q e f ∙ (λ k. below_true e j.size el k && below_true f j.size fl k && role_holds roles e f)

  abbrev Each : Type 0
  Each = (c : ClassExpr) × Sound c

  abbrev first : Each → ClassExpr
  first s = s.0

  abbrev AllWithin : List Each → Type 0
  AllWithin ss = covers within (flat_map (λ p. p) (map names_in (map first ss))) ≡ true

  module _ (e : ℕ) (l : e < j.size) where
    some_empty : (ss : List Each) → AllWithin ss → list_any is_empty (map v (map first ss)) ≡ true → list_all (λ c. c e) (map (member j) (map first ss)) ≡ false
    some_empty [] w h = absurd (true≢false (sym h))
    some_empty (s ∷ ss) w h = let in' = covers_append within (names_in s.0) (flat_map (λ p. p) (map names_in (map first ss))) w in
        at (is_empty (v s.0)) refl (in'.0) (λ k. some_empty ss in'.1 k)
      where
        at : (b : Bool) → is_empty (v s.0) ≡ b → covers within (names_in s.0) ≡ true → (list_any is_empty (map v (map first ss)) ≡ true → list_all (λ c. c e) (map (member j) (map first ss)) ≡ false) → list_all (λ c. c e) (map (member j) (map first (s ∷ ss))) ≡ false
        at true q w' ws = false_and (member j s.0 e) _ (subst (λ d. Says d (member j s.0 e)) (empty_from (v s.0) q) (s.1 w' e l))
        at false q w' ws = and_false (member j s.0 e) _ (ws (sym (ap (λ b. b || list_any is_empty (map v (map first ss))) q) ∙ h))

    each_full : (ss : List Each) → AllWithin ss → list_all is_full (map v (map first ss)) ≡ true → list_all (λ c. c e) (map (member j) (map first ss)) ≡ true
    each_full [] w h = refl
    each_full (s ∷ ss) w h = let in' = covers_append within (names_in s.0) (flat_map (λ p. p) (map names_in (map first ss))) w in let f = and_both _ _ h in
        ap (λ b. b && list_all (λ c. c e) (map (member j) (map first ss))) (subst (λ d. Says d (member j s.0 e)) (full_from (v s.0) f.0) (s.1 in'.0 e l))
        ∙ each_full ss in'.1 f.1

    some_full : (ss : List Each) → AllWithin ss → list_any is_full (map v (map first ss)) ≡ true → list_any (λ c. c e) (map (member j) (map first ss)) ≡ true
    some_full [] w h = absurd (true≢false (sym h))
    some_full (s ∷ ss) w h = let in' = covers_append within (names_in s.0) (flat_map (λ p. p) (map names_in (map first ss))) w in
        at (is_full (v s.0)) refl (in'.0) (λ k. some_full ss in'.1 k)
      where
        at : (b : Bool) → is_full (v s.0) ≡ b → covers within (names_in s.0) ≡ true → (list_any is_full (map v (map first ss)) ≡ true → list_any (λ c. c e) (map (member j) (map first ss)) ≡ true) → list_any (λ c. c e) (map (member j) (map first (s ∷ ss))) ≡ true
        at true q w' ws = ap (λ b. b || list_any (λ c. c e) (map (member j) (map first ss))) (subst (λ d. Says d (member j s.0 e)) (full_from (v s.0) q) (s.1 w' e l))
        at false q w' ws = true_last (member j s.0 e) _ (ws (sym (ap (λ b. b || list_any is_full (map v (map first ss))) q) ∙ h))

    each_empty : (ss : List Each) → AllWithin ss → list_all is_empty (map v (map first ss)) ≡ true → list_any (λ c. c e) (map (member j) (map first ss)) ≡ false
    each_empty [] w h = refl
    each_empty (s ∷ ss) w h = let in' = covers_append within (names_in s.0) (flat_map (λ p. p) (map names_in (map first ss))) w in let f = and_both _ _ h in
        ap (λ b. b || list_any (λ c. c e) (map (member j) (map first ss))) (subst (λ d. Says d (member j s.0 e)) (empty_from (v s.0) f.0) (s.1 in'.0 e l))
        ∙ each_empty ss in'.1 f.1

  says_layer : (y : ClassExpr-F Each) → covers within (names_step (map-ClassExpr _ _ names_in (map-ClassExpr _ _ first y))) ≡ true → (e : ℕ) → e < j.size
      → Says (verdict_step classes roles inside (map-ClassExpr _ _ v (map-ClassExpr _ _ first y))) (member_step j (map-ClassExpr _ _ (member j) (map-ClassExpr _ _ first y)) e)
  unfolding member_step names_step
  says_layer layer.Thing w e l = refl
  says_layer layer.Nothing w e l = refl
  says_layer (layer.Class a) w e l = let h = covers_cons within _ _ w in says_if (inside kind.Class a) _ _ _ (λ _. tt) (λ q. class_says classes _ (filled.class a h.0 q e ∙ (λ k. below_true e j.size l k && is_full (class_finding classes))))
  says_layer (layer.And cs) w e l = says_if (list_any is_empty (map v (map first cs))) _ _ _ (λ t. some_empty e l cs w t) (λ _. says_if (list_all is_full (map v (map first cs))) _ _ _ (λ t. each_full e l cs w t) (λ _. tt))
  says_layer (layer.Or cs) w e l = says_if (list_any is_full (map v (map first cs))) _ _ _ (λ t. some_full e l cs w t) (λ _. says_if (list_all is_empty (map v (map first cs))) _ _ _ (λ t. each_empty e l cs w t) (λ _. tt))
  says_layer (layer.Not c) w e l = says_exchanged (v c.0) _ (c.1 w e l)
  says_layer (layer.Some r c) w e l = let h = covers_cons within _ _ w in says_some (in_role j r) (v c.0) (member j c.0) j.size e l (λ f fl. c.1 h.1 f fl) (role_finding roles inside r) (knows r h.0)
  says_layer (layer.All r c) w e l = let h = covers_cons within _ _ w in says_all (in_role j r) (v c.0) (member j c.0) j.size e l (λ f fl. c.1 h.1 f fl) (role_finding roles inside r) (knows r h.0)
  says_layer (layer.Min n r c) w e l = let h = covers_cons within _ _ w in says_min (in_role j r) (v c.0) (member j c.0) j.size e l (λ f fl. c.1 h.1 f fl) n (role_finding roles inside r) (knows r h.0)
  says_layer (layer.Max n r c) w e l = let h = covers_cons within _ _ w in says_max (in_role j r) (v c.0) (member j c.0) j.size e l (λ f fl. c.1 h.1 f fl) n (role_finding roles inside r) (knows r h.0)
  says_layer (layer.Exact n r c) w e l = let h = covers_cons within _ _ w in says_exact (in_role j r) (v c.0) (member j c.0) j.size e l (λ f fl. c.1 h.1 f fl) n (role_finding roles inside r) (knows r h.0)

  pub sound : (c : ClassExpr) → Sound c
  sound = ind-ClassExpr Sound (λ x y is. subst (λ z. Sound (roll-ClassExpr z)) is (made y))
    where
      made : (y : ClassExpr-F Each) → Sound (roll-ClassExpr (map-ClassExpr _ _ first y))
      made y w e l =
          let x = map-ClassExpr _ _ first y in
          subst (λ d. Says d (member j (roll-ClassExpr x) e)) (sym (verdict_layer x))
          (subst (Says (verdict_step classes roles inside (map-ClassExpr _ _ v x))) (sym (λ i. member_layer j x i e))
          (says_layer y (sym (ap (covers within) (names_layer x)) ∙ w) e l))

-- the two halves of it, for each filled interpretation
pub empty_sound : (classes : ClassFill) (roles : RoleFill) (inside within : Scope) (j : Interp) → IsFilled classes roles inside within j → (c : ClassExpr) → covers within (names_in c) ≡ true → (e : ℕ) → e < j.size
    → verdict classes roles inside c ≡ Empty → member j c e ≡ false
empty_sound classes roles inside within j filled c w e l is = subst (λ d. Says d (member j c e)) is (sound classes roles inside within j filled c w e l)

pub full_sound : (classes : ClassFill) (roles : RoleFill) (inside within : Scope) (j : Interp) → IsFilled classes roles inside within j → (c : ClassExpr) → covers within (names_in c) ≡ true → (e : ℕ) → e < j.size
    → verdict classes roles inside c ≡ Full → member j c e ≡ true
full_sound classes roles inside within j filled c w e l is = subst (λ d. Says d (member j c e)) is (sound classes roles inside within j filled c w e l)
