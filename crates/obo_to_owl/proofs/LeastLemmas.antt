-- The least of texts, taken one by one, is the first of them in their order.
use Rattle.std.proofs.Common.{◌≡◌, ◌⊎◌, ℕ, cond, List, [], ◌∷◌, ◌++◌, Option, None, Some, inl, inr, ⊎_elim, refl, sym, ap, subst, ◌∙◌}
use Rattle.std.specs.Cmp.{tied_itself}
use Rattle.std.specs.Cmp.Lexicographic.{nat_list_cmp_total}
use Rattle.std.specs.FinMap.{nat_cmp-IsAntisymmetric, slice_cmp-IsAntisymmetric}
use Rattle.std.specs.Ordering.{is_lt, ordering_reverse}
use Rattle.std.specs.declared.cmp.Ordering.TheVariants.{Equal, Greater, Less}
use Rattle.std.proofs.lemmas.Option.{none-some, same_Some}
use Rattle.text_sets.specs.Sets.{In}
use Rattle.text_sets.specs.Sorted.{sorted_by, text_cmp}
use Rattle.obo_frames.specs.Laws.{IsLeastName}
use Rattle.obo_frames.specs.Naming.{least_text, lesser_text}
use Rattle.obo_notes.specs.Forms.{first_part}
use Rattle.sound_documents.proofs.NameLemmas.{least_is}

abbrev AtMost : List ℕ → List ℕ → Type 0
AtMost one other = text_cmp other one ≡ Less → ⊥

itself : (text : List ℕ) → AtMost text text
itself text less = let no : Equal ≡ Less = sym (tied_itself nat_list_cmp_total text) ∙ less in absurd (cc)

back_less : (one other : List ℕ) → text_cmp one other ≡ Greater → text_cmp other one ≡ Less
back_less one other greater = nat_list_cmp_total.antisymm other one ∙ ap ordering_reverse greater

from_less : (one other : List ℕ) → text_cmp one other ≡ Less → AtMost one other
from_less one other less back = itself one (nat_list_cmp_total.trans one other one less back)

chained : (a b c : List ℕ) → AtMost a b → AtMost b c → AtMost a c
chained a b c low high less =
    elim (text_cmp b a) as (λ o. text_cmp b a ≡ o → ⊥) [
      | Less ↦ λ is. low is
      | Equal ↦ λ is. high (subst (λ x. text_cmp c x ≡ Less) (sym (slice_cmp-IsAntisymmetric nat_cmp-IsAntisymmetric b a is)) less)
      | Greater ↦ λ is. high (nat_list_cmp_total.trans c a b less (back_less b a is))
    ] refl

record IsLesser (best text least : List ℕ) : Type 0 where
  one_of : (best ≡ least) ⊎ (text ≡ least)
  best_above : AtMost least best
  text_above : AtMost least text

lesser_is : (best text : List ℕ) → IsLesser best text (lesser_text (Some best) text)
lesser_is best text =
    elim (text_cmp text best) as (λ o. text_cmp text best ≡ o → IsLesser best text (cond (is_lt o) text best)) [
      | Less ↦ λ is. record { one_of = inr refl; best_above = from_less text best is; text_above = itself text }
      | Equal ↦ λ is. record { one_of = inl refl; best_above = itself best; text_above = λ less. (let no : Equal ≡ Less = sym is ∙ less in absurd (cc)) }
      | Greater ↦ λ is. record { one_of = inl refl; best_above = itself best; text_above = λ less. (let no : Greater ≡ Less = sym is ∙ less in absurd (cc)) }
    ] refl

record IsLeastText (texts : List (List ℕ)) (least : List ℕ) : Type 0 where
  among : In least texts
  all : (text : List ℕ) → In text texts → AtMost least text

least_found : (best : List ℕ) (texts : List (List ℕ)) → (least : List ℕ) × (least_text (Some best) texts ≡ Some least) × IsLeastText (best ∷ texts) least
least_found best [] = (best, refl, record { among = inl refl; all = λ text here. ⊎_elim (λ same. subst (AtMost best) same (itself best)) (λ none. absurd none) here })
least_found best (text ∷ texts) =
    let lesser = lesser_is best text in
    let next = lesser_text (Some best) text in
    let found = least_found next texts in
    let least = found.0 in
    let is = found.2 in
    let low = is.all next (inl refl) in (
      least,
      found.1,
      record {
        among = ⊎_elim (λ same. ⊎_elim (λ a. inl (a ∙ same)) (λ b. inr (inl (b ∙ same))) lesser.one_of) (λ later. inr (inr later)) is.among;
        all = λ other here. ⊎_elim
            (λ same. subst (AtMost least) same (chained least next best low lesser.best_above))
            (λ later. ⊎_elim (λ same. subst (AtMost least) same (chained least next text low lesser.text_above)) (λ more. is.all other (inr more)) later) here;
      },
    )

least_name : (names : List (List ℕ)) → IsLeastName names (least_text None names)
least_name [] = record {
  none = (λ _. refl, λ _. refl);
  among = λ least is. absurd (none-some least is);
  least = λ one other is here. absurd here;
}
least_name (name ∷ names) =
    let found = least_found name names in
    record {
      none = (λ is. absurd (none-some found.0 (sym is ∙ found.1)), λ is. absurd (cc));
      among = λ least is. subst (λ t. In t (name ∷ names)) (same_Some found.0 least (sym found.1 ∙ is)) found.2.among;
      least = λ one other is here. subst (λ t. AtMost t other) (same_Some found.0 one (sym found.1 ∙ is)) (found.2.all other here);
    }

joined : (best : Option (List ℕ)) (some others : List (List ℕ)) → least_text best (some ++ others) ≡ least_text (least_text best some) others
joined best [] others = refl
joined best (text ∷ some) others = joined (Some (lesser_text best text)) some others

pub least_of_both : (some others : List (List ℕ)) → least_text (least_text None some) others ≡ first_part (sorted_by (λ (text : List ℕ). text) (some ++ others))
least_of_both some others = sym (joined None some others) ∙ sym (least_is (some ++ others) (least_text None (some ++ others)) (least_name (some ++ others)))
