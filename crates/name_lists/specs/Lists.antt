-- Lists of numbers in places, and those that names have. (Own.)
use Rattle.std.specs.Prelude.{ℕ, ◌≡◌, ◌+◌, ◌<◌, Bool, List, [], ◌∷◌, ◌++◌, Option, None, Some, get_or, if◌then◌else◌, length, slice_set}
use Rattle.std.specs.Map.{lookup}
use Rattle.fact_rows.specs.Member.{In}
use Rattle.owl_axioms.specs.contracts.name.NamePartialEq.TheImpl as name_eq
use Rattle.owl_axioms.specs.declared.name.Name.{Name}

-- the lists with one number more at the end of the one at a place
abbrev pub list_with : List (List ℕ) → ℕ → ℕ → List (List ℕ)
list_with lists at number = slice_set lists at (get_or lists at [] ++ number ∷ [])

-- the names are one
abbrev pub same_name : Name → Name → Bool
same_name = name_eq.ghosts.eq

-- the names that have a list, each with its list's place, and the lists
pub record NamedState : Type 0 where
  pub places : List (Name × ℕ)
  pub lists : List (List ℕ)

-- the place of the list of a name, if it has one
abbrev pub place_of : NamedState → Name → Option ℕ
place_of state name = lookup (same_name name) state.places

-- a name has a list that is there, and no two names have the same
pub record HaveLists (state : NamedState) : Type 0 where
  pub there : (n : Name) (at : ℕ) → place_of state n ≡ Some at → at < length state.lists
  pub own : (n m : Name) (at : ℕ) → place_of state n ≡ Some at → place_of state m ≡ Some at → n ≡ m

-- the number is in the name's list
abbrev pub HasNumber : NamedState → Name → ℕ → Type 0
HasNumber state q i = (s : ℕ) × (place_of state q ≡ Some s) × In i (get_or state.lists s [])

-- a number comes at the end of the name's list; where the name has none, it gets one behind all others
abbrev pub IsAddedTo : NamedState → Name → ℕ → NamedState → Option ℕ → Type 0
IsAddedTo old name number new (Some at) = ((m : Name) → place_of new m ≡ place_of old m) × (new.lists ≡ list_with old.lists at number)
IsAddedTo old name number new None =
    ((m : Name) → place_of new m ≡ (if same_name name m then Some (length old.lists) else place_of old m)) × (new.lists ≡ old.lists ++ (number ∷ []) ∷ [])

abbrev pub IsAdded : NamedState → Name → ℕ → NamedState → Type 0
IsAdded old name number new = IsAddedTo old name number new (place_of old name)

-- how many numbers there are in all lists
abbrev pub number_count : List (List ℕ) → ℕ
number_count [] = 0
number_count (l ∷ lists) = length l + number_count lists
