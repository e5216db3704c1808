-- Items sorted by a key, each key once: for any order of keys, and for texts, byte by byte. (Own.)
use Rattle.std.specs.Prelude.{◌≡◌, ℕ, List, [], ◌∷◌}
use Rattle.std.specs.BTreeSet.{insert_key}
use Rattle.std.specs.Cmp.{IsTotalOrder}
use Rattle.std.specs.Cmp.Lexicographic.{slice_cmp}
use Rattle.std.specs.Ordering.{nat_cmp}
use Rattle.std.specs.declared.cmp.Ordering.{Ordering}
use Rattle.std.specs.declared.cmp.Ordering.TheVariants.{Equal, Less}

-- an order of keys in which each key ties with itself alone
pub record IsKeyOrder {K : Type 0} (cmp : K → K → Ordering) : Type 0 where
  pub total : IsTotalOrder cmp
  pub ties : (x y : K) → cmp x y ≡ Equal → x ≡ y

-- the order of two items, by their keys
abbrev pub by_key : {X K : Type 0} → (K → K → Ordering) → (X → K) → X → X → Ordering
by_key cmp key one other = cmp (key one) (key other)

-- the items in the order of their keys, and of equal keys the last alone
unfoldable pub sorted_on : {X K : Type 0} → (K → K → Ordering) → (X → K) → List X → List X
sorted_on cmp key [] = []
sorted_on cmp key (x ∷ xs) = insert_key (by_key cmp key) (sorted_on cmp key xs) x

-- the item's key is below those of all others
abbrev pub IsBelowOn : {X K : Type 0} → (K → K → Ordering) → (X → K) → X → List X → Type 0
IsBelowOn cmp key x [] = Unit {0}
IsBelowOn cmp key x (y ∷ ys) = (by_key cmp key x y ≡ Less) × IsBelowOn cmp key x ys

-- the keys rise: each is below all behind it
abbrev pub RisesOn : {X K : Type 0} → (K → K → Ordering) → (X → K) → List X → Type 0
RisesOn cmp key [] = Unit {0}
RisesOn cmp key (x ∷ xs) = IsBelowOn cmp key x xs × RisesOn cmp key xs

-- texts, byte by byte
abbrev pub text_cmp : List ℕ → List ℕ → Ordering
text_cmp = slice_cmp nat_cmp

-- lists of texts, text by text
abbrev pub texts_cmp : List (List ℕ) → List (List ℕ) → Ordering
texts_cmp = slice_cmp text_cmp

-- the order of two items, by their texts
abbrev pub by_text : {X : Type 0} → (X → List ℕ) → X → X → Ordering
by_text = by_key text_cmp

-- the items in the order of their texts, each text once
abbrev pub sorted_by : {X : Type 0} → (X → List ℕ) → List X → List X
sorted_by = sorted_on text_cmp

-- the item's text is below those of all others
abbrev pub IsBelow : {X : Type 0} → (X → List ℕ) → X → List X → Type 0
IsBelow = IsBelowOn text_cmp

-- the texts rise
abbrev pub Rises : {X : Type 0} → (X → List ℕ) → List X → Type 0
Rises = RisesOn text_cmp
