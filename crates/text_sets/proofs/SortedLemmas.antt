-- The same of items that are sorted by a text.
use Rattle.std.proofs.Common.{◌≡◌, ◌∙◌, ℕ, List, [], ◌∷◌, ap, length, map, refl, suc, sym}
use Rattle.std.specs.BTreeSet.{insert_key}
use Rattle.std.specs.Cmp.{IsTotalOrder, on_total}
use Rattle.std.specs.Cmp.Lexicographic.{lists_total, nat_list_cmp_total}
use Rattle.std.specs.FinMap.{nat_cmp-IsAntisymmetric, slice_cmp-IsAntisymmetric}
use Rattle.std.specs.Ordering.{match_ordering}
use Rattle.std.specs.declared.cmp.Ordering.TheVariants.{Equal, Greater, Less}
use Rattle.text_sets.specs.Sets.{AreTold, In, SameMembers}
use Rattle.text_sets.specs.Sorted.{IsKeyOrder, Rises, by_text, sorted_by, sorted_on, text_cmp, texts_cmp}
use Rattle.text_sets.proofs.SetLemmas.{same_map}
use Rattle.text_sets.proofs.KeyLemmas.{AreTold-risesOn, RisesOn-sorted_on, never_below_itself, same_risingOn, sorted_on-each, sorted_on-is, sorted_on-only}

pub text_order : IsKeyOrder text_cmp
text_order = record { total = nat_list_cmp_total; ties = slice_cmp-IsAntisymmetric nat_cmp-IsAntisymmetric }

pub texts_order : IsKeyOrder texts_cmp
texts_order = record { total = lists_total nat_list_cmp_total; ties = slice_cmp-IsAntisymmetric (slice_cmp-IsAntisymmetric nat_cmp-IsAntisymmetric) }

pub by_text_total : {X : Type 0} (text : X → List ℕ) → IsTotalOrder (by_text text)
by_text_total text = on_total text nat_list_cmp_total

pub text_not_below_itself : {X : Type 0} (text : X → List ℕ) (x y : X) → x ≡ y → by_text text x y ≡ Less → ⊥
text_not_below_itself text = never_below_itself text_cmp text_order text

pub Rises-sorted_by : {X : Type 0} (text : X → List ℕ) (xs : List X) → Rises text (sorted_by text xs)
Rises-sorted_by text = RisesOn-sorted_on text_cmp text_order text

pub sorted_by-only : {X : Type 0} (text : X → List ℕ) (xs : List X) (y : X) → In y (sorted_by text xs) → In y xs
sorted_by-only text = sorted_on-only text_cmp text_order text

pub sorted_by-each : {X : Type 0} (text : X → List ℕ) (xs : List X) → AreTold text xs → (y : X) → In y xs → In y (sorted_by text xs)
sorted_by-each text = sorted_on-each text_cmp text_order text

-- rising items are told by their texts
pub AreTold-rises : {X : Type 0} (text : X → List ℕ) (xs : List X) → Rises text xs → AreTold text xs
AreTold-rises text = AreTold-risesOn text_cmp text_order text

-- two rising lists with the same members are one
pub same_rising : {X : Type 0} (text : X → List ℕ) (xs ys : List X) → Rises text xs → Rises text ys → SameMembers xs ys → xs ≡ ys
same_rising text = same_risingOn text_cmp text_order text

-- items with the members of a rising list, sorted, are that list
pub sorted_by-is : {X : Type 0} (text : X → List ℕ) (xs rising : List X) → Rises text rising → SameMembers xs rising → sorted_by text xs ≡ rising
sorted_by-is text = sorted_on-is text_cmp text_order text

-- ---- texts alone

texts_told : (xs : List (List ℕ)) → AreTold (λ (t : List ℕ). t) xs
texts_told xs x y p q same = same

-- texts, sorted, are told by their members
pub same_sorted : (a b : List (List ℕ)) → SameMembers a b → sorted_by (λ (t : List ℕ). t) a ≡ sorted_by (λ (t : List ℕ). t) b
same_sorted a b same =
    same_rising (λ (t : List ℕ). t) (sorted_by (λ (t : List ℕ). t) a) (sorted_by (λ (t : List ℕ). t) b) (Rises-sorted_by (λ (t : List ℕ). t) a) (Rises-sorted_by (λ (t : List ℕ). t) b) (λ x. (
      (λ here. sorted_by-each (λ (t : List ℕ). t) b (texts_told b) x ((same x).0 (sorted_by-only (λ (t : List ℕ). t) a x here))),
      (λ here. sorted_by-each (λ (t : List ℕ). t) a (texts_told a) x ((same x).1 (sorted_by-only (λ (t : List ℕ). t) b x here))),
    ))

-- sorted once more, a sorted list is the same
pub sorted_again : {X : Type 0} (text : X → List ℕ) (xs : List X) → sorted_by text (sorted_by text xs) ≡ sorted_by text xs
sorted_again text xs = sorted_by-is text (sorted_by text xs) (sorted_by text xs) (Rises-sorted_by text xs) (λ x. ((λ h. h), (λ h. h)))

-- ---- the texts of sorted items are the sorted texts

insert_texts : {X : Type 0} (text : X → List ℕ) (ys : List X) (x : X) → map text (insert_key (by_text text) ys x) ≡ insert_key (by_text (λ (t : List ℕ). t)) (map text ys) (text x)
insert_texts text [] x = refl
insert_texts text (y ∷ ys) x =
    elim (by_text text x y) as (λ o. map text (match_ordering o (x ∷ y ∷ ys) (y ∷ ys) (y ∷ insert_key (by_text text) ys x))
    ≡ match_ordering o (text x ∷ text y ∷ map text ys) (text y ∷ map text ys) (text y ∷ insert_key (by_text (λ (t : List ℕ). t)) (map text ys) (text x))) [
      | Less ↦ refl
      | Equal ↦ refl
      | Greater ↦ ap (λ ts. text y ∷ ts) (insert_texts text ys x)
    ]

pub sorted_texts : {X : Type 0} (text : X → List ℕ) (xs : List X) → map text (sorted_by text xs) ≡ sorted_by (λ (t : List ℕ). t) (map text xs)
unfolding sorted_on
sorted_texts text [] = refl
sorted_texts text (x ∷ xs) = insert_texts text (sorted_by text xs) x ∙ ap (λ ts. insert_key (by_text (λ (t : List ℕ). t)) ts (text x)) (sorted_texts text xs)

length_map : {X Y : Type 0} (f : X → Y) (xs : List X) → length (map f xs) ≡ length xs
length_map f [] = refl
length_map f (x ∷ xs) = ap suc (length_map f xs)

-- so how many there are depends on the members alone
pub same_length : {X : Type 0} (text : X → List ℕ) (xs ys : List X) → SameMembers xs ys → length (sorted_by text xs) ≡ length (sorted_by text ys)
same_length text xs ys same =
    sym (length_map text (sorted_by text xs))
    ∙ ap length (sorted_texts text xs ∙ same_sorted (map text xs) (map text ys) (same_map text xs ys same) ∙ sym (sorted_texts text ys))
    ∙ length_map text (sorted_by text ys)
