-- Values that are sorted by their texts: their texts rise, and no value is lost where different values have different texts.
use Rattle.std.proofs.Common.{◌≡◌, ℕ, true, IsPermutation, List, [], ◌∷◌, inl, inr, map, refl, sym, ap, subst, ◌∙◌}
use Rattle.std.specs.Cmp.Lexicographic.{on_texts, on_texts_equal, same_text, slice_cmp, texts_ties}
use Rattle.std.specs.List.Retain.{DiffersFromLast, IsFiltered}
use Rattle.std.specs.List.Sorted.{IsSorted, IsStrictlySortedBy}
use Rattle.std.specs.Ordering.{is_lt, nat_cmp}
use Rattle.std.proofs.lemmas.Bool.{and_from}
use Rattle.std.proofs.lemmas.List.Filters.{dedup_is}
use Rattle.std.proofs.lemmas.List.Kept.{Any-dedup, Contains-from_dedup, IsStrictlySortedBy-dedup}
use Rattle.std.proofs.lemmas.List.Sorted.{Contains-permutation, IsPermutation-sym}
use Rattle.owl_axioms.specs.Made.{IsSortedSet}
use Rattle.owl_axioms.specs.Proper.{rises}
use Rattle.owl_axioms.specs.declared.sorting.Worded.{Worded}
use Rattle.owl_axioms.specs.inner.Sorting.{AreOrdered, by_text, has_text_of, values_of, worded}
use Rattle.owl_axioms.proofs.Members.{Contains-in, In, In-contains, In-from_map, In-map}

-- what sorting and leaving out repeats make
pub AreOrdered-dedup : {X : Type 0} (given moved kept : List (Worded X)) → IsPermutation given moved → IsSorted by_text moved → IsFiltered (DiffersFromLast has_text_of) [] moved kept → AreOrdered given kept
AreOrdered-dedup given moved kept permuted sorted filtered =
    subst (AreOrdered given) (sym (dedup_is _ moved kept filtered)) (record {
      rising = IsStrictlySortedBy-dedup (on_texts (λ w. w.text)) (λ x y. texts_ties x.text y.text) moved sorted;
      own = λ w here. Contains-permutation moved given w (IsPermutation-sym given moved permuted) (Contains-from_dedup has_text_of moved w here);
      each = λ w here. Any-dedup (on_texts_equal (λ w. w.text)) moved w (Contains-permutation given moved w permuted here);
    })

-- ---- rising texts

rises_on : {X : Type 0} (kept : List (Worded X)) → IsStrictlySortedBy by_text kept → rises (map (λ w. w.text) kept) ≡ true
unfolding rises IsStrictlySortedBy
rises_on [] strict = refl
rises_on (one ∷ []) strict = refl
rises_on (one ∷ next ∷ rest) strict =
    and_from (is_lt (slice_cmp nat_cmp one.text next.text)) (rises (map (λ w. w.text) (next ∷ rest))) (ap is_lt strict.0.0) (rises_on (next ∷ rest) strict.1)

module _ {X : Type 0} (text : X → List ℕ) where
  texts_are : (kept : List (Worded X)) → ((w : Worded X) → In w kept → w.text ≡ text w.value) → map (λ w. w.text) kept ≡ map text (values_of kept)
  texts_are [] each = refl
  texts_are (one ∷ rest) each = λ i. each one (inl refl) i ∷ texts_are rest (λ w later. each w (inr later)) i

  -- different members have different texts
  abbrev pub AreTold : List X → Type 0
  AreTold xs = (x y : X) → In x xs → In y xs → text x ≡ text y → x ≡ y

  -- a value among those that were given stands beside its own text
  of_given : (given : List X) (w : Worded X) → In w (map (worded text) given) → In w.value given × (w.text ≡ text w.value)
  of_given given w here =
      let found = In-from_map (worded text) w given here in
      (subst (λ v. In v given) (ap (λ v. v.value) found.2) found.1, sym (ap (λ v. v.text) found.2) ∙ ap text (ap (λ v. v.value) found.2))

  pub IsSortedSet-ordered : (given : List X) (all kept : List (Worded X)) → all ≡ map (worded text) given → AreTold given → AreOrdered all kept → IsSortedSet text given (values_of kept)
  IsSortedSet-ordered given all kept is told ordered =
      let own = λ (w : Worded X) (here : In w kept). of_given given w (subst (In w) is (In-contains w all (ordered.own w (Contains-in w kept here)))) in
      record {
        rising = subst (λ texts. rises texts ≡ true) (texts_are kept (λ w here. (own w here).1)) (rises_on kept ordered.rising);
        same = λ x. (
          (λ here.
              let found = In-from_map (λ w. w.value) x kept (In-contains x (values_of kept) here) in
              Contains-in x given (subst (λ v. In v given) found.2 (own found.0 found.1).0)),
          (λ here.
              let there = In-contains x given here in
              let any = ordered.each (worded text x) (Contains-in (worded text x) all (subst (In (worded text x)) (sym is) (In-map (worded text) x given there))) in
              let twin = any.1 in
              let among = In-contains twin kept (any.0, any.2, any.3) in
              let same : text x ≡ text twin.value = same_text (text x) twin.text (sym any.4) ∙ (own twin among).1 in
              Contains-in x (values_of kept) (subst (λ v. In v (values_of kept)) (sym (told x twin.value there (own twin among).0 same)) (In-map (λ w. w.value) twin kept among))),
        );
      }
