-- Behind the clause that gives the id, the tags of a frame have places above its own.
use Rattle.std.proofs.Common.{◌≡◌, ◌<◌, ◌≤◌, ◌+◌, ℕ, Bool, true, false, List, [], ◌∷◌, Some, arith, cond, drop, length, refl, sym, subst}
use Rattle.std.specs.Prelude.{position, unwrap_or}
use Rattle.std.specs.List.{position_from}
use Rattle.std.specs.Str.{bytes_eq}
use Rattle.std.proofs.lemmas.Bool.{both_ways}
use Rattle.std.proofs.lemmas.Iterator.Adapters.{position_from-zero}
use Rattle.std.proofs.lemmas.Slice.Eq.{bytes_eq-Decides}
use Rattle.obo_tags.specs.Table.{tags_of}
use Rattle.obo_tags.specs.Tags as tags
use Rattle.obo_tags.specs.declared.kind.FrameKind.{FrameKind}
use Rattle.obo_tags.specs.declared.kind.FrameKind.TheVariants as kinds
use Rattle.obo_text.specs.Order.{place_behind}

from_above : (test : List ℕ → Bool) (bound start : ℕ) (xs : List (List ℕ)) (count : ℕ) → bound ≤ start → bound ≤ count → bound ≤ unwrap_or (position_from test start xs) count
from_above test bound start [] count low high = high
from_above test bound start (x ∷ xs) count low high =
    elim (test x) as (λ b. bound ≤ unwrap_or (cond b (Some start) (position_from test (start + 1) xs)) count) [
      | true ↦ low
      | false ↦ from_above test bound (start + 1) xs count (omega (arith, low)) high
    ]

apart_back : (one other : List ℕ) → bytes_eq one other ≡ false → bytes_eq other one ≡ false
apart_back one other apart =
    elim (bytes_eq other one) as (λ b. bytes_eq other one ≡ b → bytes_eq other one ≡ false) [
      | true ↦ λ is. absurd (both_ways (bytes_eq one other) apart ((bytes_eq-Decides one other).1 (sym ((bytes_eq-Decides other one).0 is))))
      | false ↦ λ is. is
    ] refl

behind_first : (first : List ℕ) (rest : List (List ℕ)) (tag : List ℕ) (count : ℕ) → bytes_eq first tag ≡ false → 1 ≤ count → 1 ≤ unwrap_or (position (λ one. bytes_eq one tag) (first ∷ rest)) count
behind_first first rest tag count apart some =
    subst (λ o. 1 ≤ unwrap_or o count) (sym (position_from-zero (λ one. bytes_eq one tag) (first ∷ rest)))
    (subst (λ b. 1 ≤ unwrap_or (cond b (Some 0) (position_from (λ one. bytes_eq one tag) (0 + 1) rest)) count) (sym apart)
    (from_above (λ one. bytes_eq one tag) 1 (0 + 1) rest count (omega arith) some))

above_of : (kind : FrameKind) (rest : List (List ℕ)) → tags_of kind ≡ tags.id ∷ rest → (tag : List ℕ) → 0 < place_behind kind tag
above_of kind rest is tag =
    let p : List ℕ → Bool = λ one. bytes_eq one tag in
    let some : 1 ≤ length (tags.id ∷ rest) = omega arith in
    let above : 1 ≤ cond (bytes_eq tag tags.id) (length (tags.id ∷ rest)) (unwrap_or (position p (tags.id ∷ rest)) (length (tags.id ∷ rest))) =
    elim (bytes_eq tag tags.id) as (λ b. bytes_eq tag tags.id ≡ b → 1 ≤ cond b (length (tags.id ∷ rest)) (unwrap_or (position p (tags.id ∷ rest)) (length (tags.id ∷ rest)))) [
      | true ↦ λ _. some
      | false ↦ λ apart. behind_first tags.id rest tag (length (tags.id ∷ rest)) (apart_back tag tags.id apart) some
    ] refl in
    let whole : 1 ≤ place_behind kind tag =
    subst (λ all. 1 ≤ cond (bytes_eq tag tags.id) (length all) (unwrap_or (position p all) (length all))) (sym is) above in
    omega (arith, whole)

pub place_above : (kind : FrameKind) → (kind ≡ kinds.Header → ⊥) → (tag : List ℕ) → 0 < place_behind kind tag
unfolding tags_of
place_above kinds.Header outside tag = absurd (outside refl)
place_above kinds.Term outside tag = above_of kinds.Term (drop 1 (tags_of kinds.Term)) refl tag
place_above kinds.Typedef outside tag = above_of kinds.Typedef (drop 1 (tags_of kinds.Typedef)) refl tag
place_above kinds.Instance outside tag = above_of kinds.Instance (drop 1 (tags_of kinds.Instance)) refl tag
