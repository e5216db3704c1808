-- The first declaration of a class, by origins and then by places.
use Rattle.std.proofs.Common.{◌≡◌, ◌⊎◌, ℕ, zero, suc, ◌≤◌, Bool, true, false, not, ◌&&◌, cond, List, [], ◌∷◌, Option, None, Some, slice_get, inl, inr, ⊎_elim, refl, sym, ap, subst, ◌∙◌, true≢false, arith}
use Rattle.std.specs.List.{list_any}
use Rattle.std.specs.Option.{option_map}
use Rattle.std.specs.Str.{bytes_eq}
use Rattle.std.proofs.lemmas.Bool.Decides.{nat_tests}
use Rattle.fact_rows.specs.Member.{In, here, there}
use Rattle.fact_rows.proofs.Members.{and_parts, by_bool, in_cons, in_none}
use Rattle.fact_rows.proofs.Places.{in_from_get, place_of}
use Rattle.owl_axioms.specs.Names.{name_of}
use Rattle.owl_axioms.specs.declared.body.Body.TheVariants as body
use Rattle.owl_axioms.specs.declared.name.Kind.TheVariants as kind
use Rattle.owl_ontology.proofs.Least.{before-itself, before-through}
use Rattle.owl_ontology.specs.Ontology.{Entry}
use Rattle.owl_ontology.specs.Origins.{comes_before}
use Rattle.owl_ontology.specs.declared.origin.Origin.{Origin}
use Rattle.el_taxonomy.specs.Reason.{DeclaresAt, IsFirstDeclaration}
use Rattle.plain_reasoning.specs.Occurring.{class_declared}
use Rattle.plain_reasoning.specs.Unsatisfiable.{declares, first_place, is_first}
use Rattle.plain_reasoning.proofs.Lists.{any_from, from_some}
use Rattle.plain_reasoning.proofs.Occurring.{class_declared_is, is_class_declared}
use Rattle.plain_reasoning.proofs.Told.{is_false, is_not, not_true, own_name, same_name}

-- ---- the order of origins

not_back : (a b : Origin) → comes_before a b ≡ true → comes_before b a ≡ false
not_back a b h = grind (arith, nat_tests, h)

same_file : (a b : Origin) → comes_before a b ≡ false → comes_before b a ≡ false → a.file ≡ b.file
same_file a b h k = grind (arith, nat_tests, h, k)

same_line : (a b : Origin) → comes_before a b ≡ false → comes_before b a ≡ false → a.line ≡ b.line
same_line a b h k = grind (arith, nat_tests, h, k)

same_origin : (a b : Origin) → comes_before a b ≡ false → comes_before b a ≡ false → a ≡ b
same_origin a b h k = λ i. record { file = same_file a b h k i; line = same_line a b h k i }

-- ---- the first place that passes

pub record IsFirstPlace {A : Type 0} (test : A → Bool) (xs : List A) (at : ℕ) : Type 0 where
  pub it : A
  pub found : slice_get xs at ≡ Some it
  pub passes : test it ≡ true
  pub first : (i : ℕ) (x : A) → slice_get xs i ≡ Some x → test x ≡ true → at ≤ i

pub record HasFirst {A : Type 0} (test : A → Bool) (xs : List A) : Type 0 where
  pub at : ℕ
  pub is : first_place test xs ≡ Some at
  pub place : IsFirstPlace test xs at

some_same : {A : Type 0} (x y : A) → Some x ≡ Some y → x ≡ y
some_same x y h = cc

nothing_there : {A P : Type 0} (x : A) (i : ℕ) → slice_get [] i ≡ Some x → P
nothing_there x i h = let no : None ≡ Some x = h in absurd (cc)

first_here : {A : Type 0} (test : A → Bool) (x : A) (xs : List A) → test x ≡ true → HasFirst test (x ∷ xs)
unfolding first_place
first_here test x xs t = record {
  at = zero;
  is = ap (λ b. cond b (Some zero) (option_map suc (first_place test xs))) t;
  place = record { it = x; found = refl; passes = t; first = λ i y h k. omega arith };
}

first_later : {A : Type 0} (test : A → Bool) (x : A) (xs : List A) → test x ≡ false → HasFirst test xs → HasFirst test (x ∷ xs)
unfolding first_place
first_later test x xs t later = record {
  at = suc later.at;
  is = ap (λ b. cond b (Some zero) (option_map suc (first_place test xs))) t ∙ ap (option_map suc) later.is;
  place = record { it = later.place.it; found = later.place.found; passes = later.place.passes; first = behind };
}
  where
    behind : (i : ℕ) (y : _) → slice_get (x ∷ xs) i ≡ Some y → test y ≡ true → suc later.at ≤ i
    behind zero y h k = absurd (true≢false (sym k ∙ ap test (sym (some_same x y h)) ∙ t))
    behind (suc i) y h k = let less = later.place.first i y h k in omega (arith, less)

pub has_first : {A : Type 0} (test : A → Bool) (xs : List A) (i : ℕ) (x : A) → slice_get xs i ≡ Some x → test x ≡ true → HasFirst test xs
has_first test [] i x h t = nothing_there x i h
has_first test (y ∷ xs) zero x h t = first_here test y xs (ap test (some_same y x h) ∙ t)
has_first test (y ∷ xs) (suc i) x h t = by_bool (test y) (λ e. first_here test y xs e) (λ e. first_later test y xs e (has_first test xs i x h t))

none_there : {A P : Type 0} (x : A) → None ≡ Some x → P
none_there x h = absurd (cc)

pub from_first : {A : Type 0} (test : A → Bool) (xs : List A) (at : ℕ) → first_place test xs ≡ Some at → HasFirst test xs
unfolding first_place
from_first test [] at h = none_there at h
from_first test (x ∷ xs) at h = by_bool (test x)
    (λ e. first_here test x xs e)
    (λ e. first_later test x xs e (later (first_place test xs) refl (sym (ap (λ b. cond b (Some zero) (option_map suc (first_place test xs))) e) ∙ h) (λ n is. from_first test xs n is)))
  where
    later : (o : Option ℕ) → first_place test xs ≡ o → option_map suc (first_place test xs) ≡ Some at → ((n : ℕ) → first_place test xs ≡ Some n → HasFirst test xs) → HasFirst test xs
    later None is h to = none_there at (sym (ap (option_map suc) is) ∙ h)
    later (Some n) is h to = to n is

-- ---- what declares a class

pub says_declared : (class : List ℕ) (entry : Entry) → declares class entry ≡ true → entry.axiom.body ≡ body.Declaration (name_of kind.Class class)
unfolding declares
says_declared class entry h =
    let found = from_some (bytes_eq class) (class_declared entry.axiom.body) h in
    class_declared_is entry.axiom.body class (subst (λ a. In a (class_declared entry.axiom.body)) (sym (same_name class found.it found.passes)) found.inside)

pub declared_says : (class : List ℕ) (entry : Entry) → entry.axiom.body ≡ body.Declaration (name_of kind.Class class) → declares class entry ≡ true
unfolding declares
declared_says class entry is = any_from (bytes_eq class) (subst (λ b. In class (class_declared b)) (sym is) (is_class_declared class)) (own_name class class refl)

-- ---- the first declaration

abbrev AreNotBefore : List Entry → List ℕ → Entry → Type 0
AreNotBefore entries class entry = (other : Entry) → In other entries → declares class other ≡ true → comes_before other.origin entry.origin ≡ false

pub first_passes : (entries : List Entry) (class : List ℕ) (entry : Entry) → declares class entry ≡ true → AreNotBefore entries class entry → is_first entries class entry ≡ true
unfolding is_first
first_passes entries class entry d none =
    let before : Entry → Bool = λ other. declares class other && comes_before other.origin entry.origin in
    let no = is_not (list_any before entries) (λ h. let found = from_some before entries h in let p = and_parts (declares class found.it) (comes_before found.it.origin entry.origin) found.passes in true≢false (sym p.1 ∙ none found.it found.inside p.0)) in
    λ i. d i && no i

pub passes_first : (entries : List Entry) (class : List ℕ) (entry : Entry) → is_first entries class entry ≡ true → (declares class entry ≡ true) × AreNotBefore entries class entry
unfolding is_first
passes_first entries class entry h =
    let before : Entry → Bool = λ other. declares class other && comes_before other.origin entry.origin in
    let p = and_parts (declares class entry) (not (list_any before entries)) h in (
      p.0,
      λ other i d. is_false (comes_before other.origin entry.origin) (λ b. not_true (list_any before entries) p.1 (any_from before i (λ j. d j && b j))),
    )

-- what is declared at a place
at_place : (entries : List Entry) (class : List ℕ) (i : ℕ) (other : Entry) → DeclaresAt entries class i other → In other entries × (declares class other ≡ true)
at_place entries class i other d = (in_from_get entries i other d.found, declared_says class other d.says)

-- the first declaration is the one that is found
pub found_first : (entries : List Entry) (class : List ℕ) (at : ℕ) → IsFirstDeclaration entries class at → first_place (is_first entries class) entries ≡ Some at
found_first entries class at f =
    let mine = at_place entries class at f.entry f.declares in
    let none : AreNotBefore entries class f.entry = λ other i d. let p = place_of i in is_false (comes_before other.origin f.entry.origin) (f.first p.at other (record { found = p.is; says = says_declared class other d })) in
    let h = has_first (is_first entries class) entries at f.entry f.declares.found (first_passes entries class f.entry mine.1 none) in
    let q = passes_first entries class h.place.it h.place.passes in
    let same = same_origin h.place.it.origin f.entry.origin (none h.place.it (in_from_get entries h.at h.place.it h.place.found) q.0) (q.1 f.entry mine.0 mine.1) in
    let low : h.at ≤ at = h.place.first at f.entry f.declares.found (first_passes entries class f.entry mine.1 none) in
    let high : at ≤ h.at = f.place h.at h.place.it (record { found = h.place.found; says = says_declared class h.place.it q.0 }) same in
    let one : h.at ≡ at = omega (arith, low, high) in
    h.is ∙ ap Some one

-- and the one that is found is the first declaration
pub first_found : (entries : List Entry) (class : List ℕ) (at : ℕ) → first_place (is_first entries class) entries ≡ Some at → IsFirstDeclaration entries class at
first_found entries class at h =
    let r = from_first (is_first entries class) entries at h in
    let one : r.at ≡ at = some_same r.at at (sym r.is ∙ h) in
    subst (IsFirstDeclaration entries class) one (by entries class r.at r.place)
  where
    by : (entries : List Entry) (class : List ℕ) (at : ℕ) → IsFirstPlace (is_first entries class) entries at → IsFirstDeclaration entries class at
    by entries class at p =
        let q = passes_first entries class p.it p.passes in
        record {
          entry = p.it;
          declares = record { found = p.found; says = says_declared class p.it q.0 };
          first = λ i other d before. let o = at_place entries class i other d in true≢false (sym before ∙ q.1 other o.0 o.1);
          place = λ i other d same. let o = at_place entries class i other d in
              p.first i other d.found (first_passes entries class other o.1 (λ third k e. subst (λ origin. comes_before third.origin origin ≡ false) (sym same) (q.1 third k e)));
        }

-- ---- there is one, where the class is declared

record Least (test : Entry → Bool) (xs : List Entry) : Type 0 where
  it : Entry
  inside : In it xs
  passes : test it ≡ true
  least : (z : Entry) → In z xs → test z ≡ true → comes_before z.origin it.origin ≡ false

abbrev NonePasses : (Entry → Bool) → List Entry → Type 0
NonePasses test xs = (z : Entry) → In z xs → test z ≡ true → ⊥

least_here : (test : Entry → Bool) (x : Entry) (xs : List Entry) → test x ≡ true → ((z : Entry) → In z xs → test z ≡ true → comes_before z.origin x.origin ≡ false) → Least test (x ∷ xs)
least_here test x xs t low = record {
  it = x;
  inside = here;
  passes = t;
  least = λ z i p. ⊎_elim (λ e. subst (λ (y : Entry). comes_before y.origin x.origin ≡ false) (sym e) (before-itself x.origin)) (λ j. low z j p) (in_cons i);
}

least_later : (test : Entry → Bool) (x : Entry) (xs : List Entry) (y : Least test xs) → (test x ≡ true → comes_before x.origin y.it.origin ≡ false) → Least test (x ∷ xs)
least_later test x xs y low = record {
  it = y.it;
  inside = there y.inside;
  passes = y.passes;
  least = λ z i p. ⊎_elim (λ e. subst (λ (w : Entry). comes_before w.origin y.it.origin ≡ false) (sym e) (low (subst (λ (w : Entry). test w ≡ true) e p))) (λ j. y.least z j p) (in_cons i);
}

least_of : (test : Entry → Bool) (xs : List Entry) → Least test xs ⊎ NonePasses test xs
least_of test [] = inr (λ z i p. in_none i)
least_of test (x ∷ xs) = ⊎_elim
    (λ y. by_bool (comes_before x.origin y.it.origin)
    (λ before. by_bool (test x)
    (λ t. inl (least_here test x xs t (λ z i p. before-through z.origin y.it.origin x.origin (y.least z i p) (not_back x.origin y.it.origin before))))
    (λ t. inl (least_later test x xs y (λ p. absurd (true≢false (sym p ∙ t))))))
    (λ after. inl (least_later test x xs y (λ _. after))))
    (λ nothing. by_bool (test x)
    (λ t. inl (least_here test x xs t (λ z i p. absurd (nothing z i p))))
    (λ t. inr (λ z i p. ⊎_elim (λ e. true≢false (sym (subst (λ (w : Entry). test w ≡ true) e p) ∙ t)) (λ j. nothing z j p) (in_cons i))))
    (least_of test xs)

pub declared_first : (entries : List Entry) (class : List ℕ) (entry : Entry) → In entry entries → declares class entry ≡ true → HasFirst (is_first entries class) entries
declared_first entries class entry i d = ⊎_elim
    (λ y. let p = place_of y.inside in has_first (is_first entries class) entries p.at y.it p.is (first_passes entries class y.it y.passes y.least))
    (λ nothing. absurd (nothing entry i d))
    (least_of (declares class) entries)
