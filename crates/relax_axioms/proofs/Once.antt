-- A list in which each body stands once: what it has, and that it is the list of a set into which the bodies are put.
use Rattle.std.proofs.Common.{◌≡◌, ℕ, ◌+◌, Bool, true, false, not, ◌&&◌, ◌||◌, cond, List, [], ◌∷◌, ◌++◌, Some, slice_get, take, refl, sym, ap, ◌∙◌, true≢false, append_assoc, append-nil}
use Rattle.std.specs.List.{AllByRecursion, IsDistinct, list_any}
use Rattle.std.specs.Prelude.{filter}
use Rattle.std.proofs.Math.Bool.{and-true}
use Rattle.std.proofs.lemmas.List.Concat.{flat_map-append}
use Rattle.std.proofs.lemmas.List.Sums.{fold-append}
use Rattle.indexmap.specs.IndexSet.{insert_all, insert_key}
use Rattle.owl_axioms.specs.declared.body.Axiom.{Axiom}
use Rattle.owl_axioms.specs.declared.body.Body.{Body}
use Rattle.relax_axioms.specs.Implied.{all_implied, each_once, same_body, wanted_by}
use Rattle.relax_axioms.proofs.Lists.{any_push, filter_alike, filter_all, filter_both, not_or, or_false, take_at}
use Rattle.relax_axioms.proofs.Wanted.{same_body-true, same_itself}

-- ---- tests

or_true : (x : Bool) → (x || true) ≡ true
or_true true = refl
or_true false = refl

or_nothing : (x y : Bool) → x ≡ (x || (y && false))
or_nothing true y = refl
or_nothing false true = refl
or_nothing false false = refl

same_either : (b c : Body) → same_body b c ≡ same_body c b
same_either b c =
    elim (same_body b c) as (λ t. same_body b c ≡ t → t ≡ same_body c b) [
      | true ↦ λ is. sym (same_itself c b (sym (same_body-true b c is)))
      | false ↦ λ isnt. elim (same_body c b) as (λ t. same_body c b ≡ t → false ≡ t) [
        | true ↦ λ is. absurd (true≢false (sym (same_itself b c (sym (same_body-true c b is))) ∙ isnt))
        | false ↦ λ _. refl
      ] refl
    ] refl

-- ---- what it has

pub any_filter : (p : Body → Bool) (b : Body) (xs : List Body) → list_any (same_body b) (filter p xs) ≡ (list_any (same_body b) xs && p b)
any_filter p b [] = refl
any_filter p b (x ∷ xs) =
    let rest = filter p xs in
    elim (same_body b x) as (λ t. same_body b x ≡ t → list_any (same_body b) (cond (p x) (x ∷ rest) rest) ≡ ((t || list_any (same_body b) xs) && p b)) [
      | true ↦ λ is.
          ap (λ t. list_any (same_body b) (cond t (x ∷ rest) rest)) (sym (ap p (same_body-true b x is)))
          ∙ elim (p b) as (λ t. p b ≡ t → list_any (same_body b) (cond t (x ∷ rest) rest) ≡ t) [
            | true ↦ λ _. ap (λ t. t || list_any (same_body b) rest) is
            | false ↦ λ no. any_filter p b xs ∙ ap (λ t. list_any (same_body b) xs && t) no ∙ and_false (list_any (same_body b) xs)
          ] refl
      | false ↦ λ isnt. elim (p x) as (λ t. list_any (same_body b) (cond t (x ∷ rest) rest) ≡ (list_any (same_body b) xs && p b)) [
        | true ↦ ap (λ t. t || list_any (same_body b) rest) isnt ∙ any_filter p b xs
        | false ↦ any_filter p b xs
      ]
    ] refl
  where
    and_false : (x : Bool) → (x && false) ≡ false
    and_false true = refl
    and_false false = refl

pub any_once : (b : Body) (xs : List Body) → list_any (same_body b) (each_once xs) ≡ list_any (same_body b) xs
any_once b [] = refl
any_once b (x ∷ xs) =
    let rest = filter (λ c. not (same_body x c)) (each_once xs) in
    elim (same_body b x) as (λ t. same_body b x ≡ t → (t || list_any (same_body b) rest) ≡ (t || list_any (same_body b) xs)) [
      | true ↦ λ _. refl
      | false ↦ λ isnt.
          any_filter (λ c. not (same_body x c)) b (each_once xs)
          ∙ (λ i. any_once b xs i && not ((same_either x b ∙ isnt) i))
          ∙ and-true (list_any (same_body b) xs)
    ] refl

-- ---- each stands once

all_kept : (P : Body → Type 0) (p : Body → Bool) (xs : List Body) → AllByRecursion P xs → AllByRecursion P (filter p xs)
all_kept P p [] all = tt
all_kept P p (x ∷ xs) all =
    elim (p x) as (λ t. AllByRecursion P (cond t (x ∷ filter p xs) (filter p xs))) [
      | true ↦ (all.0, all_kept P p xs all.1)
      | false ↦ all_kept P p xs all.1
    ]

pub still_apart : (p : Body → Bool) (xs : List Body) → IsDistinct same_body xs → IsDistinct same_body (filter p xs)
unfolding IsDistinct
still_apart p [] apart = tt
still_apart p (x ∷ xs) apart =
    elim (p x) as (λ t. IsDistinct same_body (cond t (x ∷ filter p xs) (filter p xs))) [
      | true ↦ (all_kept (λ c. same_body x c ≡ false) p xs apart.0, still_apart p xs apart.1)
      | false ↦ still_apart p xs apart.1
    ]

others_apart : (x : Body) (xs : List Body) → AllByRecursion (λ c. same_body x c ≡ false) (filter (λ c. not (same_body x c)) xs)
others_apart x [] = tt
others_apart x (y ∷ ys) =
    let rest = filter (λ c. not (same_body x c)) ys in
    elim (same_body x y) as (λ t. same_body x y ≡ t → AllByRecursion (λ c. same_body x c ≡ false) (cond (not t) (y ∷ rest) rest)) [
      | true ↦ λ _. others_apart x ys
      | false ↦ λ isnt. (isnt, others_apart x ys)
    ] refl

pub once_apart : (xs : List Body) → IsDistinct same_body (each_once xs)
unfolding IsDistinct
once_apart [] = tt
once_apart (x ∷ xs) = (others_apart x (each_once xs), still_apart (λ c. not (same_body x c)) (each_once xs) (once_apart xs))

-- ---- put into a set

-- it is not among these
lacks : List Body → Body → Bool
lacks ks b = not (list_any (same_body b) ks)

-- one that is there already is skipped
skipped : (ks : List Body) (x y : Body) → list_any (same_body x) ks ≡ true → (not (same_body x y) && lacks ks y) ≡ lacks ks y
unfolding lacks
skipped ks x y there =
    elim (same_body x y) as (λ t. same_body x y ≡ t → (not t && lacks ks y) ≡ lacks ks y) [
      | true ↦ λ is. sym (ap not (ap (λ b. list_any (same_body b) ks) (sym (same_body-true x y is)) ∙ there))
      | false ↦ λ _. refl
    ] refl

-- one that is not there comes last
pushed : (ks : List Body) (x y : Body) → lacks (ks ++ x ∷ []) y ≡ (not (same_body x y) && lacks ks y)
unfolding lacks
pushed ks x y =
    ap not (any_push (same_body y) ks x)
    ∙ not_or (list_any (same_body y) ks) (same_body y x)
    ∙ ap (λ t. not t && lacks ks y) (same_either y x)

inserted : (xs ks : List Body) → insert_all same_body ks xs ≡ ks ++ filter (lacks ks) (each_once xs)
unfolding lacks
inserted [] ks = sym (append-nil ks)
inserted (x ∷ xs) ks =
    let others : Body → Bool = λ c. not (same_body x c) in
    let rest = filter others (each_once xs) in
    let both = filter_both (lacks ks) others (each_once xs) in
    elim (list_any (same_body x) ks) as (λ t. list_any (same_body x) ks ≡ t → insert_all same_body (cond t ks (ks ++ x ∷ [])) xs ≡ ks ++ cond (not t) (x ∷ filter (lacks ks) rest) (filter (lacks ks) rest)) [
      | true ↦ λ there.
          inserted xs ks
          ∙ ap (λ ys. ks ++ ys) (sym (both ∙ filter_alike (λ y. others y && lacks ks y) (lacks ks) (each_once xs) (λ y _. skipped ks x y there)))
      | false ↦ λ _.
          inserted xs (ks ++ x ∷ [])
          ∙ append_assoc ks (x ∷ []) (filter (lacks (ks ++ x ∷ [])) (each_once xs))
          ∙ ap (λ ys. ks ++ x ∷ ys) (filter_alike (lacks (ks ++ x ∷ [])) (λ y. others y && lacks ks y) (each_once xs) (λ y _. pushed ks x y) ∙ sym both)
    ] refl

pub inserted_once : (xs : List Body) → insert_all same_body [] xs ≡ each_once xs
unfolding lacks
inserted_once xs = inserted xs [] ∙ filter_all (each_once xs)

-- ---- the set of what axioms imply, an axiom more

implied_next : (axioms : List Axiom) (i : ℕ) (a : Axiom) → slice_get axioms i ≡ Some a → all_implied (take (i + 1) axioms) ≡ all_implied (take i axioms) ++ wanted_by a.body
implied_next axioms i a at =
    ap all_implied (take_at axioms i a at)
    ∙ flat_map-append (λ (one : Axiom). wanted_by one.body) (take i axioms) (a ∷ [])
    ∙ ap (λ rest. all_implied (take i axioms) ++ rest) (append-nil (wanted_by a.body))

pub inserted_next : (axioms : List Axiom) (i : ℕ) (a : Axiom) → slice_get axioms i ≡ Some a
    → insert_all same_body (insert_all same_body [] (all_implied (take i axioms))) (wanted_by a.body) ≡ insert_all same_body [] (all_implied (take (i + 1) axioms))
inserted_next axioms i a at =
    sym (fold-append (insert_key same_body) [] (all_implied (take i axioms)) (wanted_by a.body))
    ∙ ap (insert_all same_body []) (sym (implied_next axioms i a at))

-- ---- what is said, an axiom more

pub put_said : (keys said : List Body) (one b : Body) → list_any (same_body one) keys ≡ true
    → cond (same_body one b) true (list_any (same_body b) said) ≡ (list_any (same_body b) said || (list_any (same_body b) keys && same_body one b))
put_said keys said one b there =
    elim (same_body one b) as (λ t. same_body one b ≡ t → cond t true (list_any (same_body b) said) ≡ (list_any (same_body b) said || (list_any (same_body b) keys && t))) [
      | true ↦ λ is. sym (or_true (list_any (same_body b) said)) ∙ ap (λ t. list_any (same_body b) said || (t && true)) (sym (ap (λ c. list_any (same_body c) keys) (sym (same_body-true one b is)) ∙ there))
      | false ↦ λ _. or_nothing (list_any (same_body b) said) (list_any (same_body b) keys)
    ] refl

pub left_said : (keys said : List Body) (one b : Body) → list_any (same_body one) keys ≡ false
    → list_any (same_body b) said ≡ (list_any (same_body b) said || (list_any (same_body b) keys && same_body one b))
left_said keys said one b isnt =
    elim (same_body one b) as (λ t. same_body one b ≡ t → list_any (same_body b) said ≡ (list_any (same_body b) said || (list_any (same_body b) keys && t))) [
      | true ↦ λ is. or_false (list_any (same_body b) said) ∙ ap (λ t. list_any (same_body b) said || (t && true)) (sym (ap (λ c. list_any (same_body c) keys) (sym (same_body-true one b is)) ∙ isnt))
      | false ↦ λ _. or_nothing (list_any (same_body b) said) (list_any (same_body b) keys)
    ] refl
