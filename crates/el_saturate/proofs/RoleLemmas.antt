-- Sets of roles, and the number of each.
use Rattle.std.proofs.Common.{◌≡◌, ℕ, zero, suc, ◌+◌, ◌<◌, Bool, true, false, List, [], ◌∷◌, ◌++◌, Some, inl, inr, if◌then◌else◌, length, slice_get, take, refl, sym, ap, subst, ◌∙◌, arith, true≢false}
use Rattle.std.specs.List.{flat_map, list_any, position_or_len}
use Rattle.std.proofs.lemmas.Grind.{flat_map-append}
use Rattle.std.proofs.lemmas.Bool.{lt-ltb}
use Rattle.fact_rows.specs.Member.{In, NoRepeats, here, more, none}
use Rattle.fact_rows.proofs.Members.{any_in, by_bool, in_any, in_cons, in_left, in_none, in_one, in_parts, in_right}
use Rattle.fact_rows.proofs.Places.{in_from_get}
use Rattle.fact_rows.proofs.Repeats.{repeats_append}
use Rattle.indexmap.specs.IndexSet.{insert_all, insert_key}
use Rattle.owl_axioms.proofs.Adding.{take_suc}
use Rattle.el_part.proofs.ClassLemmas.{iri_itself, iri_tells}
use Rattle.el_part.specs.declared.el_axiom.ElAxiom.{ElAxiom}
use Rattle.el_saturate.specs.inner.Numbers.{HasRoles, role_of, roles_in, same_iri}

abbrev pub Iris : Type 0
Iris = List (List ℕ)

-- what is added is there, what was there stays, and nothing is there twice
pub record Adds (old added new : Iris) : Type 0 where
  pub once : NoRepeats new
  pub kept : HasRoles new old
  pub has : HasRoles new added

one_at : (b : Bool) (ks : Iris) (r : List ℕ) → NoRepeats ks → list_any (same_iri r) ks ≡ b → Adds ks (r ∷ []) (if b then ks else ks ++ r ∷ [])
one_at true ks r once e = record {
  once = once;
  kept = λ x i. i;
  has = λ x i. subst (λ y. In y ks) (sym (in_one i)) (in_any same_iri iri_tells iri_itself r ks e);
}
one_at false ks r once e = record {
  once = repeats_append once (more (λ i. in_none i) none) (λ x i j. absurd (true≢false (sym (any_in same_iri iri_tells iri_itself r (subst (λ y. In y ks) (in_one j) i)) ∙ e)));
  kept = λ x i. in_left (r ∷ []) i;
  has = λ x i. in_right ks i;
}

one_added : (ks : Iris) (r : List ℕ) → NoRepeats ks → Adds ks (r ∷ []) (insert_key same_iri ks r)
one_added ks r once = one_at (list_any (same_iri r) ks) ks r once refl

pub all_added : (rs ks : Iris) → NoRepeats ks → Adds ks rs (insert_all same_iri ks rs)
all_added [] ks once = record { once = once; kept = λ x i. i; has = λ x i. in_none i }
all_added (r ∷ rs) ks once =
    let first = one_added ks r once in
    let rest = all_added rs (insert_key same_iri ks r) first.once in
    record {
      once = rest.once;
      kept = λ x i. rest.kept x (first.kept x i);
      has = λ x i. elim (in_cons i) [
        | inl e ↦ subst (λ y. In y (insert_all same_iri (insert_key same_iri ks r) rs)) (sym e) (rest.kept r (first.has r here))
        | inr j ↦ rest.has x j
      ];
    }

-- the roles of one axiom more
pub axiom_next : (axioms : List ElAxiom) (i : ℕ) (a : ElAxiom) (old new : Iris) → slice_get axioms i ≡ Some a → NoRepeats old → HasRoles old (flat_map roles_in (take i axioms)) → new ≡ insert_all same_iri old (roles_in a) → NoRepeats new × HasRoles new (flat_map roles_in (take (i + 1) axioms))
axiom_next axioms i a old new at once has is =
    let next : suc i ≡ i + 1 = omega arith in
    let added : Adds old (roles_in a) new = subst (Adds old (roles_in a)) (sym is) (all_added (roles_in a) old once) in
    let all : flat_map roles_in (take (i + 1) axioms) ≡ flat_map roles_in (take i axioms) ++ (roles_in a ++ []) = sym (ap (λ n. flat_map roles_in (take n axioms)) next) ∙ ap (flat_map roles_in) (take_suc axioms i a at) ∙ flat_map-append roles_in (take i axioms) (a ∷ []) in (
      added.once,
      λ r k. elim (in_parts (flat_map roles_in (take i axioms)) (subst (In r) all k)) [
        | inl j ↦ added.kept r (has r j)
        | inr j ↦ elim (in_parts (roles_in a) j) [
          | inl l ↦ added.has r l
          | inr l ↦ in_none l
        ]
      ],
    )

-- ---- numbers

pub place : (r : List ℕ) (keys : Iris) → In r keys → (position_or_len (same_iri r) keys < length keys) × (slice_get keys (position_or_len (same_iri r) keys) ≡ Some r)
place r [] i = in_none i
place r (k ∷ keys) i = by_bool (same_iri r k)
    (λ (t : same_iri r k ≡ true). rw t (omega arith, ap Some (sym (iri_tells r k t))))
    (λ (f : same_iri r k ≡ false). rw f (later (position_or_len (same_iri r) keys) (elim (in_cons i) [
      | inl e ↦ absurd (true≢false (sym (subst (λ x. same_iri r x ≡ true) e (iri_itself r)) ∙ f))
      | inr j ↦ place r keys j
    ])))
  where
    later : (n : ℕ) → (n < length keys) × (slice_get keys n ≡ Some r) → (1 + n < length (k ∷ keys)) × (slice_get (k ∷ keys) (1 + n) ≡ Some r)
    later n p = let e : suc n ≡ 1 + n = omega arith in (omega (arith, p.0), subst (λ m. slice_get (k ∷ keys) m ≡ Some r) e p.1)

pub role_placed : (keys : Iris) (r : List ℕ) → In r keys → slice_get keys (role_of keys r) ≡ Some r
role_placed keys r i = let p = place r keys i in rw (lt-ltb (position_or_len (same_iri r) keys) (length keys) p.0) p.1

-- ---- no place twice

pub one_place : {X : Type 0} {xs : List X} → NoRepeats xs → (i j : ℕ) (x : X) → slice_get xs i ≡ Some x → slice_get xs j ≡ Some x → i ≡ j
one_place none i j x g h = absurd cc
one_place (more {x = y} {xs} n r) zero zero x g h = refl
one_place (more {x = y} {xs} n r) zero (suc j) x g h = let e : y ≡ x = cc in absurd (n (subst (λ z. In z xs) (sym e) (in_from_get xs j x h)))
one_place (more {x = y} {xs} n r) (suc i) zero x g h = let e : y ≡ x = cc in absurd (n (subst (λ z. In z xs) (sym e) (in_from_get xs i x g)))
one_place (more {x = y} {xs} n r) (suc i) (suc j) x g h = ap suc (one_place r i j x g h)
