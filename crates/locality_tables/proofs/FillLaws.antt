-- The filled interpretation fills the names outside, and keeps all others.
use Rattle.std.proofs.Common.{◌≡◌, ℕ, zero, suc, ◌<◌, ◌≤◌, ◌==◌, Bool, true, false, not, ◌&&◌, ◌||◌, List, [], ◌∷◌, ◌++◌, filter, flat_map, map, refl, sym, ap, ◌∙◌, arith, nat_lt, true≢false, eqb-true, cond, ⊎_elim}
use Rattle.std.specs.List.{list_any}
use Rattle.std.specs.Str.{bytes_eq}
use Rattle.std.specs.Cmp.Lexicographic.{same_text}
use Rattle.std.proofs.lemmas.Bool.{cases_lt}
use Rattle.std.proofs.lemmas.Bool.Decides.{nat_tests}
use Rattle.owl_axioms.specs.declared.name.Kind.{Kind}
use Rattle.owl_axioms.specs.declared.name.Kind.TheVariants as kind
use Rattle.owl_axioms.specs.declared.name.Name.{Name}
use Rattle.owl_sem.specs.Interp.{Interp, in_class, in_role, individual}
use Rattle.owl_sem.specs.Models.{Agrees}
use Rattle.owl_axioms.specs.Names.{Scope, listed}
use Rattle.owl_axioms.proofs.Tests.{all_three, both, by_either}
use Rattle.locality_tables.specs.Fill.{IsFilled, below, class_entries, fill, is_outside, left_by, role_entries, role_holds}
use Rattle.locality_tables.specs.Laws.{FillsNamesAlways}
use Rattle.locality_tables.specs.Verdict.{class_finding, is_full}
use Rattle.locality_tables.specs.declared.fills.ClassFill.{ClassFill}
use Rattle.locality_tables.specs.declared.fills.ClassFill.TheVariants as class
use Rattle.locality_tables.specs.declared.fills.RoleFill.{RoleFill}
use Rattle.locality_tables.specs.declared.fills.RoleFill.TheVariants as role

same_bytes : (x y : List ℕ) → bytes_eq x y ≡ true → x ≡ y
same_bytes x y h = same_text x y (sym h)

any_append : {X : Type 0} (p : X → Bool) (xs ys : List X) → list_any p (xs ++ ys) ≡ (list_any p xs || list_any p ys)
any_append p [] ys = refl
any_append p (x ∷ xs) ys = ap (λ b. p x || b) (any_append p xs ys) ∙ assoc (p x) (list_any p xs) (list_any p ys)
  where
    assoc : (a b c : Bool) → (a || (b || c)) ≡ ((a || b) || c)
    assoc true b c = refl
    assoc false b c = refl

any_map : {X Y : Type 0} (p : Y → Bool) (g : X → Y) (xs : List X) → list_any p (map g xs) ≡ list_any (λ x. p (g x)) xs
any_map p g [] = refl
any_map p g (x ∷ xs) = ap (λ b. p (g x) || b) (any_map p g xs)

any_flat : {X Y : Type 0} (p : Y → Bool) (g : X → List Y) (xs : List X) → list_any p (flat_map g xs) ≡ list_any (λ x. list_any p (g x)) xs
any_flat p g [] = refl
any_flat p g (x ∷ xs) = any_append p (g x) (flat_map g xs) ∙ ap (λ b. list_any p (g x) || b) (any_flat p g xs)

-- of the entries about a name, a test of names takes all or none
picked : {X : Type 0} (q : List ℕ → Bool) (t : X → Bool) (key : X → List ℕ) (a : List ℕ) → ((x : X) → t x ≡ true → key x ≡ a) → (xs : List X)
    → list_any t (filter (λ x. q (key x)) xs) ≡ (q a && list_any t xs)
picked q t key a about [] = sym (off (q a))
  where
    off : (b : Bool) → (b && false) ≡ false
    off true = refl
    off false = refl
picked q t key a about (x ∷ xs) = by (q (key x)) (t x) (picked q t key a about xs) refl refl
  where
    by : (b c : Bool) → list_any t (filter (λ x. q (key x)) xs) ≡ (q a && list_any t xs) → q (key x) ≡ b → t x ≡ c → list_any t (cond b (x ∷ filter (λ x. q (key x)) xs) (filter (λ x. q (key x)) xs)) ≡ (q a && (t x || list_any t xs))
    by true true ih h k = let qa : q a ≡ true = sym (ap q (about x k)) ∙ h in (λ i. k i || list_any t (filter (λ x. q (key x)) xs)) ∙ sym (λ i. qa i && (k i || list_any t xs))
    by false true ih h k = let qa : q a ≡ false = sym (ap q (about x k)) ∙ h in ih ∙ (λ i. qa i && list_any t xs) ∙ sym (λ i. qa i && (t x || list_any t xs))
    by true false ih h k = (λ i. k i || list_any t (filter (λ x. q (key x)) xs)) ∙ ih ∙ sym (λ i. q a && (k i || list_any t xs))
    by false false ih h k = ih ∙ sym (λ i. q a && (k i || list_any t xs))

-- where one number below n passes
any_below : (p : ℕ → Bool) (n e : ℕ) → e < n → p e ≡ true → list_any p (below n) ≡ true
any_below p zero e l h = absurd (omega (arith, l))
any_below p (suc n) e l h = ⊎_elim
    (λ (less : e < n). or_true (p n) _ (any_below p n e less h))
    (λ (last : n ≤ e). let at : e ≡ n = omega (arith, l, last) in let here : p n ≡ true = ap p (sym at) ∙ h in ap (λ b. b || list_any p (below n)) here)
    (cases_lt e n)
  where
    or_true : (x y : Bool) → y ≡ true → (x || y) ≡ true
    or_true true y h = refl
    or_true false y h = h

none_any : {X : Type 0} (p : X → Bool) (xs : List X) → ((x : X) → p x ≡ false) → list_any p xs ≡ false
none_any p [] h = refl
none_any p (x ∷ xs) h = λ i. h x i || none_any p xs h i

refuted : (b : Bool) → (b ≡ true → ⊥) → b ≡ false
refuted true h = absurd (h refl)
refuted false h = refl

not_true : (b : Bool) → not b ≡ true → b ≡ false
not_true true h = absurd (true≢false (sym h))
not_true false h = refl

under : (b x y : Bool) → (b ≡ true → x ≡ y) → (b && x) ≡ (b && y)
under true x y h = h refl
under false x y h = refl

below_of : (e n : ℕ) → nat_lt e n ≡ true → e < n
below_of e n h = grind (arith, nat_tests)

own : (e : ℕ) → (e == e) ≡ true
own e = grind (arith, nat_tests)

-- where each name of these bytes passes, one that is listed does
any_listed : (p : Name → Bool) (k : Kind) (a : List ℕ) → ((n : Name) → bytes_eq n.iri a ≡ true → p n ≡ true) → (names : List Name) → listed names k a ≡ true → list_any p names ≡ true
unfolding listed
any_listed p k a passes [] h = absurd (true≢false (sym h))
any_listed p k a passes (n ∷ names) h =
    by_either _ _ h (λ q. let qs = both _ _ q in ap (λ b. b || list_any p names) (passes n qs.1)) (λ q. or_true (p n) _ (any_listed p k a passes names q))
  where
    or_true : (x y : Bool) → y ≡ true → (x || y) ≡ true
    or_true true y h = refl
    or_true false y h = h

abbrev is_pair : List ℕ → ℕ → List ℕ × ℕ → Bool
is_pair a e p = bytes_eq p.0 a && p.1 == e

abbrev is_triple : List ℕ → ℕ → ℕ → List ℕ × ℕ × ℕ → Bool
is_triple r e f p = bytes_eq p.0 r && p.1 == e && p.2 == f

abbrev ClassEntries : ClassFill → ℕ → List Name → List (List ℕ × ℕ)
ClassEntries classes n names = flat_map (λ m. class_entries classes n m.iri) names

abbrev RoleEntries : RoleFill → ℕ → List Name → List (List ℕ × ℕ × ℕ)
RoleEntries roles n names = flat_map (λ m. role_entries roles n m.iri) names

class_any : (classes : ClassFill) (n : ℕ) (names : List Name) (a : List ℕ) (e : ℕ) → listed names kind.Class a ≡ true → e < n → list_any (is_pair a e) (ClassEntries classes n names) ≡ is_full (class_finding classes)
class_any class.Empty n names a e h l = any_flat (is_pair a e) (λ m. []) names ∙ none_any (λ m. false) names (λ m. refl)
class_any class.Full n names a e h l =
    any_flat (is_pair a e) (λ m. map (λ e. (m.iri, e)) (below n)) names
    ∙ any_listed (λ m. list_any (is_pair a e) (map (λ e. (m.iri, e)) (below n))) kind.Class a
    (λ m same. any_map (is_pair a e) (λ e. (m.iri, e)) (below n) ∙ any_below (λ f. bytes_eq m.iri a && f == e) n e l (λ i. same i && own e i)) names h

role_any : (roles : RoleFill) (n : ℕ) (names : List Name) (r : List ℕ) (e f : ℕ) → listed names kind.Role r ≡ true → e < n → f < n → list_any (is_triple r e f) (RoleEntries roles n names) ≡ role_holds roles e f
role_any role.Empty n names r e f h l k = any_flat (is_triple r e f) (λ m. []) names ∙ none_any (λ m. false) names (λ m. refl)
role_any role.Full n names r e f h l k =
    any_flat (is_triple r e f) (λ m. flat_map (λ x. map (λ y. (m.iri, x, y)) (below n)) (below n)) names
    ∙ any_listed (λ m. list_any (is_triple r e f) (flat_map (λ x. map (λ y. (m.iri, x, y)) (below n)) (below n))) kind.Role r
    (λ m same. any_flat (is_triple r e f) (λ x. map (λ y. (m.iri, x, y)) (below n)) (below n)
    ∙ any_below (λ x. list_any (is_triple r e f) (map (λ y. (m.iri, x, y)) (below n))) n e l
    (any_map (is_triple r e f) (λ y. (m.iri, e, y)) (below n) ∙ any_below (λ y. bytes_eq m.iri r && e == e && y == f) n f k (λ i. same i && own e i && own f i))) names h
role_any role.Identity n names r e f h l k = by (e == f) refl
  where
    by : (b : Bool) → (e == f) ≡ b → list_any (is_triple r e f) (RoleEntries role.Identity n names) ≡ (e == f)
    by true q =
        any_flat (is_triple r e f) (λ m. map (λ x. (m.iri, x, x)) (below n)) names
        ∙ any_listed (λ m. list_any (is_triple r e f) (map (λ x. (m.iri, x, x)) (below n))) kind.Role r
        (λ m same. any_map (is_triple r e f) (λ x. (m.iri, x, x)) (below n) ∙ any_below (λ x. bytes_eq m.iri r && x == e && x == f) n e l (λ i. same i && own e i && q i)) names h
        ∙ sym q
    by false q =
        any_flat (is_triple r e f) (λ m. map (λ x. (m.iri, x, x)) (below n)) names
        ∙ none_any (λ m. list_any (is_triple r e f) (map (λ x. (m.iri, x, x)) (below n))) names
        (λ m. any_map (is_triple r e f) (λ x. (m.iri, x, x)) (below n)
        ∙ none_any (λ x. bytes_eq m.iri r && x == e && x == f) (below n) (λ x. refuted _ (λ t. let ts = all_three _ _ _ t in
        let one : x ≡ e = eqb-true x e ts.1.0 in let two : x ≡ f = eqb-true x f ts.1.1 in true≢false (sym (own e) ∙ ap (λ y. e == y) (sym one ∙ two) ∙ q))))
        ∙ sym q

module _ (classes : ClassFill) (roles : RoleFill) (inside : Scope) (names : List Name) (i : Interp) where
  abbrev j : Interp
  j = fill classes roles inside names i

  abbrev out : Kind → List ℕ → Bool
  out = is_outside inside names

  class_parts : (a : List ℕ) (e : ℕ)
      → in_class j a e ≡ (nat_lt e i.size && ((out kind.Class a && list_any (is_pair a e) (ClassEntries classes i.size names)) || (not (out kind.Class a) && list_any (is_pair a e) i.classes)))
  unfolding in_class fill
  class_parts a e =
      ap (λ b. nat_lt e i.size && b)
      (any_append (is_pair a e) _ _
      ∙ (λ k. picked (out kind.Class) (is_pair a e) (λ p. p.0) a about (ClassEntries classes i.size names) k || picked (λ b. not (out kind.Class b)) (is_pair a e) (λ p. p.0) a about i.classes k))
    where
      about : (p : List ℕ × ℕ) → is_pair a e p ≡ true → p.0 ≡ a
      about p h = same_bytes p.0 a (both _ _ h).0

  role_parts : (r : List ℕ) (e f : ℕ)
      → in_role j r e f ≡ (nat_lt e i.size && nat_lt f i.size && ((out kind.Role r && list_any (is_triple r e f) (RoleEntries roles i.size names)) || (not (out kind.Role r) && list_any (is_triple r e f) i.roles)))
  unfolding in_role fill
  role_parts r e f =
      ap (λ b. nat_lt e i.size && nat_lt f i.size && b)
      (any_append (is_triple r e f) _ _
      ∙ (λ k. picked (out kind.Role) (is_triple r e f) (λ p. p.0) r about (RoleEntries roles i.size names) k || picked (λ b. not (out kind.Role b)) (is_triple r e f) (λ p. p.0) r about i.roles k))
    where
      about : (p : List ℕ × ℕ × ℕ) → is_triple r e f p ≡ true → p.0 ≡ r
      about p h = same_bytes p.0 r (all_three _ _ _ h).0

  or_false : (b : Bool) → (b || false) ≡ b
  or_false true = refl
  or_false false = refl

  same_size : j.size ≡ i.size
  unfolding fill
  same_size = refl

  same_individual : (a : List ℕ) → individual i a ≡ individual j a
  unfolding fill individual
  same_individual a = refl

  pub is_filled : IsFilled classes roles inside (listed names) j
  unfolding fill
  is_filled = record {
    class = λ a w h e.
        let o : out kind.Class a ≡ true = λ k. w k && not (h k) in
        class_parts a e
        ∙ under (nat_lt e i.size) _ _ (λ l. (λ k. (o k && list_any (is_pair a e) (ClassEntries classes i.size names)) || (not (o k) && list_any (is_pair a e) i.classes)) ∙ or_false _ ∙ class_any classes i.size names a e w (below_of e i.size l));
    role = λ r w h e f.
        let o : out kind.Role r ≡ true = λ k. w k && not (h k) in
        role_parts r e f
        ∙ under (nat_lt e i.size && nat_lt f i.size) _ _ (λ l. let ls = both _ _ l in (λ k. (o k && list_any (is_triple r e f) (RoleEntries roles i.size names)) || (not (o k) && list_any (is_triple r e f) i.roles)) ∙ or_false _
        ∙ role_any roles i.size names r e f w (below_of e i.size ls.0) (below_of f i.size ls.1));
  }

  pub fill_agrees : Agrees i j (left_by inside names)
  unfolding in_class in_role
  fill_agrees = record {
    sizes = sym same_size;
    classes = λ a h e. let o = not_true (out kind.Class a) h in
        sym (class_parts a e ∙ (λ k. nat_lt e i.size && ((o k && list_any (is_pair a e) (ClassEntries classes i.size names)) || (not (o k) && list_any (is_pair a e) i.classes))));
    roles = λ r h e f. let o = not_true (out kind.Role r) h in
        sym (role_parts r e f ∙ (λ k. nat_lt e i.size && nat_lt f i.size && ((o k && list_any (is_triple r e f) (RoleEntries roles i.size names)) || (not (o k) && list_any (is_triple r e f) i.roles))));
    individuals = λ a h. same_individual a;
  }

pub fills_names : FillsNamesAlways
fills_names classes roles inside names i = (is_filled classes roles inside names i, fill_agrees classes roles inside names i)
