-- Marks and flags by number. (Own.)
use Rattle.std.specs.Prelude.{◌≡◌, ℕ, Bool, true, List, Some, slice_get}

-- the number x has the mark s
abbrev pub IsMarked : List ℕ → ℕ → ℕ → Type 0
IsMarked marks s x = slice_get marks x ≡ Some s

-- the number x has a flag
abbrev pub IsFlagged : List Bool → ℕ → Type 0
IsFlagged flags x = slice_get flags x ≡ Some true
