-- One mark more, and marks that none has.
use Rattle.std.proofs.Common.{◌≡◌, ℕ, zero, suc, ◌<◌, false, List, length, slice_set, replicate, Some, sym, subst, ◌∙◌, ◌⊎◌, ⊎_elim, inl, inr}
use Rattle.std.proofs.lemmas.Bool.{cases_eq}
use Rattle.fact_rows.specs.Marks.{IsFlagged, IsMarked}
use Rattle.fact_rows.proofs.Places.{set_same, set_other}

-- a mark that was there stays where the same one is set
pub mark_kept : (ms new : List ℕ) (s c b : ℕ) → new ≡ slice_set ms c s → c < length ms → IsMarked ms s b → IsMarked new s b
mark_kept ms new s c b e l h = subst (λ z. IsMarked z s b) (sym e) (⊎_elim
    (λ (q : b ≡ c). subst (IsMarked (slice_set ms c s) s) (sym q) (set_same ms c s l))
    (λ n. set_other ms c b s n ∙ h)
    (cases_eq b c))

pub mark_set : (ms new : List ℕ) (s c : ℕ) → new ≡ slice_set ms c s → c < length ms → IsMarked new s c
mark_set ms new s c e l = subst (λ z. IsMarked z s c) (sym e) (set_same ms c s l)

pub mark_only : (ms new : List ℕ) (s c t b : ℕ) → new ≡ slice_set ms c s → c < length ms → IsMarked new t b → IsMarked ms t b ⊎ ((t ≡ s) × (b ≡ c))
mark_only ms new s c t b e l h =
    let g : IsMarked (slice_set ms c s) t b = subst (λ z. IsMarked z t b) e h in
    ⊎_elim
    (λ (q : b ≡ c).
    let f : Some t ≡ Some s = sym (subst (IsMarked (slice_set ms c s) t) q g) ∙ set_same ms c s l in
    let k : t ≡ s = cc in inr (k, q))
    (λ n. inl (sym (set_other ms c b s n) ∙ g))
    (cases_eq b c)

-- fresh marks are all the one mark
pub fresh_mark : (n m x s : ℕ) → IsMarked (replicate n m) s x → s ≡ m
fresh_mark zero m x s h = cc
fresh_mark (suc n) m zero s h = cc
fresh_mark (suc n) m (suc x) s h = fresh_mark n m x s h

-- and fresh flags are none
pub no_flag : (n x : ℕ) → IsFlagged (replicate n false) x → ⊥
no_flag zero x h = cc
no_flag (suc n) zero h = cc
no_flag (suc n) (suc x) h = no_flag n x h
