-- Texts in the order of their bytes. A text that stands several times stays as often. (Own.)
use Rattle.std.specs.Prelude.{ℕ, List, [], ◌∷◌, if◌then◌else◌}
use Rattle.std.specs.Cmp.Lexicographic.{slice_cmp}
use Rattle.std.specs.Ordering.{is_lt, nat_cmp}

-- a text more among texts that are in order: behind those below it
abbrev pub with_text : List ℕ → List (List ℕ) → List (List ℕ)
with_text text [] = text ∷ []
with_text text (first ∷ texts) = if is_lt (slice_cmp nat_cmp first text) then first ∷ with_text text texts else text ∷ first ∷ texts

unfoldable pub sorted : List (List ℕ) → List (List ℕ)
sorted [] = []
sorted (text ∷ texts) = with_text text (sorted texts)
