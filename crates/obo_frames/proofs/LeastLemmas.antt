-- The least of some lines.
use Rattle.std.proofs.Common.{◌≡◌, ℕ, List, [], ◌∷◌, ◌++◌, Option, None, Some, refl}
use Rattle.obo_frames.specs.Documents.{least_line, lesser_line}

pub least_line-append : (best : Option ℕ) (lines more : List ℕ) → least_line best (lines ++ more) ≡ least_line (least_line best lines) more
least_line-append best [] more = refl
least_line-append best (line ∷ lines) more = least_line-append (Some (lesser_line best line)) lines more

never_none : (best : ℕ) (lines : List ℕ) → least_line (Some best) lines ≡ None → ⊥
never_none best [] none = cc
never_none best (line ∷ lines) none = never_none (lesser_line (Some best) line) lines none

-- where no line is the least there is none
pub no_lines : (lines : List ℕ) → least_line None lines ≡ None → lines ≡ []
no_lines [] none = refl
no_lines (line ∷ lines) none = absurd (never_none line lines none)
