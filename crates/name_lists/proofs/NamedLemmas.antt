-- What one number more does to the lists of names.
use Rattle.std.proofs.Common.{◌≡◌, ℕ, ◌+◌, ◌≤◌, ◌⊎◌, ◌&&◌, true, false, List, [], ◌∷◌, ◌++◌, Option, None, Some, cond, if◌then◌else◌, get_or, length, nat_eq, refl, sym, ap, subst, ◌∙◌, arith}
use Rattle.std.specs.Cmp.Lexicographic.{pointwise}
use Rattle.std.specs.Map.{lookup}
use Rattle.fact_rows.specs.Member.{In}
use Rattle.fact_rows.proofs.Members.{by_bool}
use Rattle.owl_axioms.proofs.Listed.{own_bytes, own_kind, same_kind}
use Rattle.owl_axioms.proofs.Same.{both, same_bytes}
use Rattle.owl_axioms.specs.contracts.name.KindPartialEq.TheImpl as kind_eq
use Rattle.owl_axioms.specs.declared.name.Name.{Name}
use Rattle.name_lists.proofs.ListLemmas.{count_more, count_with, in_before, in_from, in_kept, in_last, in_more, in_with}
use Rattle.name_lists.specs.Lists.{HasNumber, HaveLists, IsAdded, IsAddedTo, NamedState, list_with, number_count, place_of, same_name}

pub names_tell : (x y : Name) → same_name x y ≡ true → x ≡ y
names_tell x y h =
    let parts : (kind_eq.ghosts.eq x.kind y.kind ≡ true) × (pointwise nat_eq x.iri y.iri ≡ true) = both _ _ h in
    λ i. record { kind = same_kind x.kind y.kind parts.0 i; iri = same_bytes x.iri y.iri parts.1 i }

pub name_itself : (x : Name) → same_name x x ≡ true
name_itself x = λ i. own_kind x.kind i && own_bytes x.iri i

some_is : {X : Type 0} {x y : X} → Some x ≡ Some y → x ≡ y
some_is h = cc

none_some : {X P : Type 0} (x : X) → None ≡ Some x → P
none_some x h = absurd cc

-- ---- the lists that names have

pub have_longer : (old : NamedState) → HaveLists old → (lists : List (List ℕ)) → length old.lists ≤ length lists → HaveLists (record { places = old.places; lists = lists })
have_longer old have lists long = record { there = λ n at h. let l = have.there n at h in omega (arith, l, long); own = have.own }

module _ (old : NamedState) (have : HaveLists old) (name : Name) (more : List (Name × ℕ)) (lists : List (List ℕ))
    (is : (q : Name) → lookup (same_name q) more ≡ cond (same_name name q) (Some (length old.lists)) (place_of old q)) (long : length lists ≡ length old.lists + 1) where
  is_new : (q : Name) (at : ℕ) → same_name name q ≡ true → lookup (same_name q) more ≡ Some at → (name ≡ q) × (at ≡ length old.lists)
  is_new q at t h = (names_tell name q t, some_is (sym h ∙ is q ∙ ap (λ b. cond b (Some (length old.lists)) (place_of old q)) t))

  is_old : (q : Name) (at : ℕ) → same_name name q ≡ false → lookup (same_name q) more ≡ Some at → place_of old q ≡ Some at
  is_old q at t h = sym (ap (λ b. cond b (Some (length old.lists)) (place_of old q)) t) ∙ sym (is q) ∙ h

  pub have_one_more : HaveLists (record { places = more; lists = lists })
  have_one_more = record {
    there = λ q at h. by_bool (same_name name q)
        (λ (t : same_name name q ≡ true). let n = is_new q at t h in let e = n.1 in omega (arith, e, long))
        (λ (t : same_name name q ≡ false). let l = have.there q at (is_old q at t h) in omega (arith, l, long));
    own = λ q r at h k. by_bool (same_name name q)
        (λ (t : same_name name q ≡ true). by_bool (same_name name r)
        (λ (u : same_name name r ≡ true). sym (is_new q at t h).0 ∙ (is_new r at u k).0)
        (λ (u : same_name name r ≡ false). let e = (is_new q at t h).1 in let l = have.there r at (is_old r at u k) in absurd (omega (arith, e, l))))
        (λ (t : same_name name q ≡ false). by_bool (same_name name r)
        (λ (u : same_name name r ≡ true). let e = (is_new r at u k).1 in let l = have.there q at (is_old q at t h) in absurd (omega (arith, e, l)))
        (λ (u : same_name name r ≡ false). have.own q r at (is_old q at t h) (is_old r at u k)));
  }

-- ---- what is in them after one number more

module _ (old : NamedState) (have : HaveLists old) (name : Name) (n : ℕ) (new : NamedState) where
  in_new : (s : ℕ) (lists : List (List ℕ)) → new.lists ≡ lists → (i : ℕ) → In i (get_or lists s []) → In i (get_or new.lists s [])
  in_new s lists is i h = subst (λ ls. In i (get_or ls s [])) (sym is) h

  has_by : (o : Option ℕ) → place_of old name ≡ o → IsAddedTo old name n new o → HasNumber new name n
  has_by None e (places, lists) = (
    length old.lists,
    places name ∙ ap (λ b. if b then Some (length old.lists) else place_of old name) (name_itself name),
    in_new (length old.lists) (old.lists ++ (n ∷ []) ∷ []) lists n (in_last old.lists n),
  )
  has_by (Some at) e (places, lists) = (at, places name ∙ e, in_new at (list_with old.lists at n) lists n (in_with old.lists at n (have.there name at e)))

  pub added_has : IsAdded old name n new → HasNumber new name n
  added_has h = has_by (place_of old name) refl h

  keeps_by : (o : Option ℕ) → place_of old name ≡ o → IsAddedTo old name n new o → (q : Name) (i : ℕ) → HasNumber old q i → HasNumber new q i
  keeps_by None e (places, lists) q i (s, at, h) = (
    s,
    places q ∙ by_bool (same_name name q)
        (λ (t : same_name name q ≡ true). none_some s (sym e ∙ ap (place_of old) (names_tell name q t) ∙ at))
        (λ (t : same_name name q ≡ false). ap (λ b. if b then Some (length old.lists) else place_of old q) t ∙ at),
    in_new s (old.lists ++ (n ∷ []) ∷ []) lists i (in_before old.lists (n ∷ []) s i h),
  )
  keeps_by (Some t) e (places, lists) q i (s, at, h) = (s, places q ∙ at, in_new s (list_with old.lists t n) lists i (in_kept old.lists t n s i h))

  pub added_keeps : IsAdded old name n new → (q : Name) (i : ℕ) → HasNumber old q i → HasNumber new q i
  added_keeps h = keeps_by (place_of old name) refl h

  from_by : (o : Option ℕ) → IsAddedTo old name n new o → (s i : ℕ) → In i (get_or new.lists s []) → In i (get_or old.lists s []) ⊎ (i ≡ n)
  from_by None (places, lists) s i h = in_more old.lists n s i (subst (λ ls. In i (get_or ls s [])) lists h)
  from_by (Some t) (places, lists) s i h = in_from old.lists t n s i (subst (λ ls. In i (get_or ls s [])) lists h)

  pub added_from : IsAdded old name n new → (s i : ℕ) → In i (get_or new.lists s []) → In i (get_or old.lists s []) ⊎ (i ≡ n)
  added_from h = from_by (place_of old name) h

  counts_by : (o : Option ℕ) → place_of old name ≡ o → IsAddedTo old name n new o → number_count new.lists ≡ number_count old.lists + 1
  counts_by None e (places, lists) = ap number_count lists ∙ count_more old.lists n
  counts_by (Some t) e (places, lists) = ap number_count lists ∙ count_with old.lists t n (have.there name t e)

  pub added_counts : IsAdded old name n new → number_count new.lists ≡ number_count old.lists + 1
  added_counts h = counts_by (place_of old name) refl h
