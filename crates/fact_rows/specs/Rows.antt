-- Rows: a list of lists, of which the one at a place is the row of that number. (Own.)
use Rattle.std.specs.Prelude.{◌≡◌, ℕ, Bool, true, false, List, [], ◌∷◌, ◌++◌, slice_index_or, slice_set}
use Rattle.fact_rows.specs.Member.{In}

-- the row of a number, which is empty past the last row
abbrev pub row : {A : Type 0} → List (List A) → ℕ → List A
row rows n = slice_index_or rows n []

-- one item more at the end of a row
abbrev pub push_at : {A : Type 0} → List (List A) → ℕ → A → List (List A)
push_at rows n x = slice_set rows n (row rows n ++ x ∷ [])

-- what adding an item to a set in first-seen order does: a new one comes last, and one that is there changes nothing
abbrev pub Inserts : {A : Type 0} → List A → A → Bool → List A → Type 0
Inserts old x true new = (new ≡ old ++ x ∷ []) × (In x old → ⊥)
Inserts old x false new = (new ≡ old) × In x old

-- what adding an item to one of several sets does
abbrev pub InsertsAt : {A : Type 0} → List (List A) → ℕ → A → Bool → List (List A) → Type 0
InsertsAt old n x true new = (new ≡ push_at old n x) × (In x (row old n) → ⊥)
InsertsAt old n x false new = (new ≡ old) × In x (row old n)
