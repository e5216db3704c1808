-- The two answers of a saturation. (Own.)
use Rattle.std.specs.Prelude.{◌≡◌, ℕ, ◌<◌, ◌≤◌, length}
use Rattle.el_numbers.specs.declared.fact.Fact.{Fact}
use Rattle.el_numbers.specs.declared.part.NumberedPart.{NumberedPart}
use Rattle.el_numbers.specs.declared.fault.SaturationFault.{SaturationFault}
use Rattle.el_numbers.specs.declared.fault.SaturationFault.TheVariants.{TooManyFacts, NoMemory}
use Rattle.el_numbers.specs.Rules.{Derived}
use Rattle.el_numbers.specs.Table.{TableState, Has, HasOnce, size}

-- the table has exactly the derived facts, each once, and no more than the limit; it has a row for each expression
pub record IsSaturated (part : NumberedPart) (limit : ℕ) (t : TableState) : Type 0 where
  pub sound : (g : Fact) → Has t g → Derived part g
  pub complete : (g : Fact) → Derived part g → Has t g
  pub once : HasOnce t
  pub long : length t.below ≡ length part.shapes.items
  pub few : size t ≤ limit

-- more facts are derived than the limit: there is a table of derived facts alone, each once, that is larger
pub record IsMore (part : NumberedPart) (limit : ℕ) : Type 0 where
  pub table : TableState
  pub derived : (g : Fact) → Has table g → Derived part g
  pub once : HasOnce table
  pub more : limit < size table

-- what a fault says: the limit, and that more facts are derived; want of memory says nothing
abbrev pub IsFault : NumberedPart → ℕ → SaturationFault → Type 0
IsFault part limit (TooManyFacts n) = (n ≡ limit) × IsMore part limit
IsFault part limit NoMemory = Unit {0}
