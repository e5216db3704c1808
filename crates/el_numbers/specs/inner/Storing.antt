-- The table while it is filled. (Own.)
use Rattle.std.specs.Prelude.{◌≡◌, ℕ, ◌+◌, ◌<◌, ◌≤◌, Bool, true, List, [], length, replicate, if◌then◌else◌, ◌⊎◌}
use Rattle.fact_rows.specs.Member.{In}
use Rattle.fact_rows.specs.Rows.{row}
use Rattle.el_numbers.specs.declared.fact.Fact.{Fact}
use Rattle.el_numbers.specs.declared.fact.Fact.TheVariants.{Below, Link}
use Rattle.el_numbers.specs.declared.fault.SaturationFault.{SaturationFault}
use Rattle.el_numbers.specs.declared.fault.SaturationFault.TheVariants.{TooManyFacts, NoMemory}
use Rattle.el_numbers.specs.declared.storing.FactRows.{FactRows}
use Rattle.el_numbers.specs.Table.{TableState, Has, HasOnce, size}

-- the facts of the rows
abbrev pub state_of : FactRows → TableState
state_of t = record { below = t.below.items; links = t.links.items }

abbrev pub Holds : FactRows → Fact → Type 0
Holds t g = Has (state_of t) g

-- a fact of n expressions
abbrev pub IsWithin : ℕ → Fact → Type 0
IsWithin n (Below c d) = c < n
IsWithin n (Link c r d) = (c < n) × (d < n)

-- a row for each expression, each without repeats; back has each link at its end
pub record IsLinked (t : FactRows) : Type 0 where
  pub links_long : length t.links.items ≡ length t.below.items
  pub back_long : length t.back.items ≡ length t.below.items
  pub once : HasOnce (state_of t)
  pub to_back : (b r c : ℕ) → In (r, c) (row t.links.items b) → In (r, b) (row t.back.items c)
  pub from_back : (b r c : ℕ) → In (r, b) (row t.back.items c) → In (r, c) (row t.links.items b)

-- the count is the number of facts
abbrev pub IsCounted : FactRows → Type 0
IsCounted t = t.count ≡ size (state_of t)

-- u has the facts of t and f; is_new says whether f is one more. The count stays
pub record Puts (t : FactRows) (f : Fact) (is_new : Bool) (u : FactRows) : Type 0 where
  pub is_linked : IsLinked u
  pub long : length u.below.items ≡ length t.below.items
  pub added : Holds u f
  pub kept : (g : Fact) → Holds t g → Holds u g
  pub only : (g : Fact) → Holds u g → Holds t g ⊎ ((g ≡ f) × (is_new ≡ true))
  pub larger : size (state_of u) ≡ size (state_of t) + (if is_new then 1 else 0)
  pub count : u.count ≡ t.count

-- u and the list w from t and the list q by the facts fs: what is new is counted and waits
pub record Adds (t : FactRows) (q : List Fact) (fs : List Fact) (u : FactRows) (w : List Fact) : Type 0 where
  pub is_linked : IsLinked u
  pub is_counted : IsCounted u
  pub long : length u.below.items ≡ length t.below.items
  pub added : (g : Fact) → In g fs → Holds u g
  pub kept : (g : Fact) → Holds t g → Holds u g
  pub waits : (g : Fact) → In g q → In g w
  pub news : (g : Fact) → Holds u g → Holds t g ⊎ (In g fs × In g w)
  pub waiting : (g : Fact) → In g w → In g q ⊎ Holds u g
  pub count : u.count + length q ≡ t.count + length w
  pub grows : t.count ≤ u.count

-- at TooManyFacts the limit is told, and P holds
abbrev pub AtFault : SaturationFault → ℕ → Type 0 → Type 0
AtFault (TooManyFacts n) limit P = (n ≡ limit) × P
AtFault NoMemory limit P = Unit {0}

-- the rows went over the limit by facts of fs
pub record GoesOver (t : FactRows) (fs : List Fact) (u : FactRows) (limit : ℕ) : Type 0 where
  pub once : HasOnce (state_of u)
  pub only : (g : Fact) → Holds u g → Holds t g ⊎ In g fs
  pub more : limit < size (state_of u)

-- n rows of each kind, all empty
pub record IsEmpty (n : ℕ) (t : FactRows) : Type 0 where
  pub below : t.below.items ≡ replicate n []
  pub links : t.links.items ≡ replicate n []
  pub back : t.back.items ≡ replicate n []
  pub count : t.count ≡ 0
