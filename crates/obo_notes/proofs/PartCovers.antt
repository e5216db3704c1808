-- Each part of a value is a part again, and what is left of taken annotations.
use Rattle.std.proofs.Common.{◌≡◌, ◌<◌, ℕ, true, false, not, ◌&&◌, ◌==◌, List, [], ◌∷◌, length, All, Option, None, Some, inl, inr, ⊎_elim, refl, sym, ap, subst, ◌∙◌, arith}
use Rattle.std.specs.Option.{IsSome, option_and_then}
use Rattle.std.specs.Str.{bytes_eq}
use Rattle.std.specs.declared.cmp.Ordering.TheVariants.{Less}
use Rattle.std.proofs.lemmas.Bool.{and_from}
use Rattle.std.proofs.lemmas.Bool.Decides.{nat_tests}
use Rattle.std.proofs.lemmas.List.Elements.{All-head, All-tail}
use Rattle.std.proofs.lemmas.Option.{none-some}
use Rattle.iri_map.proofs.CandidateLemmas.{bytes_eq-refl}
use Rattle.obo_clause.specs.declared.clause.Xref.{Xref}
use Rattle.text_sets.specs.Sets.{In}
use Rattle.rel_io.specs.Texts.{IsWordText}
use Rattle.obo_clause.specs.Fits.{FitsXref, IsTextOrNone}
use Rattle.text_sets.specs.Parts.{take_all, take_all_more, take_one, take_one_more}
use Rattle.text_sets.specs.Sorted.{IsBelow, Rises, by_text}
use Rattle.obo_notes.specs.Context.{is_text, where_true}
use Rattle.obo_notes.specs.Forms.{first_part}
use Rattle.obo_notes.specs.Keys.{text_side}
use Rattle.obo_notes.specs.Parts.{is_label, is_word, side_of_xref, text_of, xref_of}
use Rattle.obo_notes.specs.Vocabulary.{has_dbxref}
use Rattle.obo_notes.proofs.KeyCovers.{test_from_IsText}

pub some_value : {X : Type 0} (o : Option X) → IsSome o → (x : X) × (o ≡ Some x)
some_value None some = let h : false ≡ true = some in absurd (cc)
some_value (Some x) some = (x, refl)

pub never_some_none : {X : Type 0} (o : Option X) → IsSome o → o ≡ None → ⊥
never_some_none o some none = let v = some_value o some in none-some v.0 (sym none ∙ v.1)

pub All-In : {X : Type 0} (P : X → Type 0) (xs : List X) (x : X) → All P xs → In x xs → P x
All-In P [] x all here = absurd here
All-In P (z ∷ xs) x all (inl is) = subst P is (All-head P z xs all)
All-In P (z ∷ xs) x all (inr later) = All-In P xs x (All-tail P z xs all) later

-- ---- what is left

-- it is no part
pub take_all-rest : {X Y : Type 0} (part : X → Option Y) (xs : List X) (x : X) → In x (take_all part xs).rest → part x ≡ None
take_all-rest part [] x here = absurd here
take_all-rest part (z ∷ xs) x here =
    elim (part z) as (λ o. part z ≡ o → In x (take_all_more z o (take_all part xs)).rest → part x ≡ None) [
      | None ↦ λ none there. ⊎_elim (λ is. subst (λ y. part y ≡ None) is none) (λ later. take_all-rest part xs x later) there
      | Some y ↦ λ _ there. take_all-rest part xs x there
    ] refl here

pub take_all-among : {X Y : Type 0} (part : X → Option Y) (xs : List X) (x : X) → In x (take_all part xs).rest → In x xs
take_all-among part [] x here = here
take_all-among part (z ∷ xs) x here =
    elim (part z) as (λ o. In x (take_all_more z o (take_all part xs)).rest → In x (z ∷ xs)) [
      | None ↦ λ there. ⊎_elim (λ is. inl is) (λ later. inr (take_all-among part xs x later)) there
      | Some y ↦ λ there. inr (take_all-among part xs x there)
    ] here

pub take_one-among : {X Y : Type 0} (part : X → Option Y) (xs : List X) (x : X) → In x (take_one part xs).rest → In x xs
take_one-among part [] x here = here
take_one-among part (z ∷ xs) x here =
    elim (part z) as (λ o. In x (take_one_more z xs o (take_one part xs)).rest → In x (z ∷ xs)) [
      | None ↦ λ there. ⊎_elim (λ is. inl is) (λ later. inr (take_one-among part xs x later)) there
      | Some y ↦ λ there. inr there
    ] here

is_below-in : {X : Type 0} (text : X → List ℕ) (x : X) (xs : List X) (y : X) → IsBelow text x xs → In y xs → by_text text x y ≡ Less
is_below-in text x [] y all here = absurd here
is_below-in text x (z ∷ xs) y all (inl is) = ap (by_text text x) (sym is) ∙ all.0
is_below-in text x (z ∷ xs) y all (inr later) = is_below-in text x xs y all.1 later

-- where rising items have one such part at most, none is left
pub take_one-rest : {X Y : Type 0} (text : X → List ℕ) (part : X → Option Y) (xs : List X) → Rises text xs → ((x y : X) → In x xs → In y xs → IsSome (part x) → IsSome (part y) → by_text text x y ≡ Less → ⊥) → (x : X) → In x (take_one part xs).rest → part x ≡ None
take_one-rest text part [] rises one x here = absurd here
take_one-rest text part (z ∷ xs) rises one x here =
    elim (part z) as (λ o. part z ≡ o → In x (take_one_more z xs o (take_one part xs)).rest → part x ≡ None) [
      | None ↦ λ none there. ⊎_elim (λ is. subst (λ y. part y ≡ None) is none) (λ later. take_one-rest text part xs rises.1 (λ a b p q. one a b (inr p) (inr q)) x later) there
      | Some y ↦ λ is there.
          elim (part x) as (λ o. part x ≡ o → part x ≡ None) [
            | None ↦ λ none. none
            | Some w ↦ λ also. absurd (one z x (inl refl) (inr there) (subst (λ o. IsSome o) (sym is) refl) (subst (λ o. IsSome o) (sym also) refl) (is_below-in text z xs x rises.0 there))
          ] refl
    ] refl here

-- a part is taken where there is one
pub take_one-some : {X Y : Type 0} (part : X → Option Y) (xs : List X) (x : X) → In x xs → IsSome (part x) → IsSome (first_part (take_one part xs).parts)
take_one-some part [] x here some = absurd here
take_one-some part (z ∷ xs) x here some =
    elim (part z) as (λ o. part z ≡ o → IsSome (first_part (take_one_more z xs o (take_one part xs)).parts)) [
      | None ↦ λ none. ⊎_elim (λ is. absurd (never_some_none (part x) some (subst (λ y. part y ≡ None) is none))) (λ later. take_one-some part xs x later some) here
      | Some y ↦ λ _. refl
    ] refl

-- ---- parts again

pub is_word-from : (word : List ℕ) → IsWordText word → is_word word ≡ true
is_word-from word is =
    let some : 0 < length word = is.some in
    and_from (not (length word == 0)) (is_text word) (grind (arith, nat_tests, some)) (test_from_IsText word is.text)

is_label-from : (label : Option (List ℕ)) → IsTextOrNone label → is_label label ≡ true
is_label-from None is = refl
is_label-from (Some label) is = test_from_IsText label is

pub xref_covered : (xref : Xref) → FitsXref xref → IsSome (xref_of (side_of_xref xref))
unfolding xref_of
xref_covered xref fits =
    let tests = and_from (bytes_eq has_dbxref has_dbxref) (is_label xref.label) (bytes_eq-refl has_dbxref) (is_label-from xref.label fits.label) in
    let text = test_from_IsText xref.id fits.id.text in
    let word = is_word-from xref.id fits.id in
    let make = λ (id : List ℕ). let x : Xref = record { id = id; label = xref.label } in x in
    let all : where_true (bytes_eq has_dbxref has_dbxref && is_label xref.label) (option_and_then (λ id. where_true (is_word id) (Some (make id))) (where_true (is_text xref.id) (Some xref.id))) ≡ Some (make xref.id) =
    (λ i. where_true (tests i) (option_and_then (λ id. where_true (is_word id) (Some (make id))) (where_true (text i) (Some xref.id)))) ∙ (λ i. where_true (word i) (Some (make xref.id))) in
    subst (λ (o : Option Xref). IsSome o) (sym all) refl

pub text_covered : (property text : List ℕ) → is_text text ≡ true → IsSome (text_of property (text_side property text))
unfolding text_of
text_covered property text is =
    let all : where_true (bytes_eq property property) (where_true true (where_true (is_text text) (Some text))) ≡ Some text = λ i. where_true (bytes_eq-refl property i) (where_true true (where_true (is i) (Some text))) in
    subst (λ (o : Option (List ℕ)). IsSome o) (sym all) refl
