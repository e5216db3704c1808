-- Values that are sorted by a text beside them. (Own.)
use Rattle.std.specs.Prelude.{◌≡◌, ℕ, Bool, true, List, Contains, Any, map, nat_eq}
use Rattle.std.specs.Cmp.Lexicographic.{pointwise, slice_cmp}
use Rattle.std.specs.List.Sorted.{IsStrictlySortedBy}
use Rattle.std.specs.Ordering.{nat_cmp, on}
use Rattle.std.specs.declared.cmp.Ordering.{Ordering}
use Rattle.owl_axioms.specs.declared.sorting.Worded.{Worded}

-- a value beside its text
abbrev pub worded : {X : Type 0} → (X → List ℕ) → X → Worded X
worded text x = record { text = text x; value = x }

-- the values of a list
abbrev pub values_of : {X : Type 0} → List (Worded X) → List X
values_of list = map (λ w. w.value) list

-- two of them by their texts
abbrev pub by_text : {X : Type 0} → Worded X → Worded X → Ordering
by_text = on (λ w. w.text) (slice_cmp nat_cmp)

abbrev pub has_text_of : {X : Type 0} → Worded X → Worded X → Bool
has_text_of = on (λ w. w.text) (pointwise nat_eq)

-- those that were given, sorted by their texts, and for each text one
pub record AreOrdered {X : Type 0} (given kept : List (Worded X)) : Type 0 where
  pub rising : IsStrictlySortedBy by_text kept
  pub own : (w : Worded X) → Contains kept w → Contains given w
  pub each : (w : Worded X) → Contains given w → Any (λ v. has_text_of w v ≡ true) kept
