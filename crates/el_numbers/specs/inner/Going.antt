-- The loop of saturation. (Own.)
use Rattle.std.specs.Prelude.{◌≡◌, ℕ, ◌≤◌, zero, suc, List, [], ◌∷◌, ◌++◌, length}
use Rattle.fact_rows.specs.Member.{In}
use Rattle.el_numbers.specs.declared.fact.Fact.{Fact}
use Rattle.el_numbers.specs.declared.fact.Fact.TheVariants.{Below}
use Rattle.el_numbers.specs.declared.part.NumberedPart.{NumberedPart}
use Rattle.el_numbers.specs.declared.storing.FactRows.{FactRows}
use Rattle.el_numbers.specs.Rules.{Rule, Derived}
use Rattle.el_numbers.specs.inner.Storing.{Holds, IsCounted, IsLinked}

-- the facts that need no premise, of the expressions below n
abbrev pub starts : ℕ → List Fact
starts zero = []
starts (suc c) = starts c ++ Below c c ∷ Below c 0 ∷ []

-- the facts that do not wait are closed under the rules
abbrev pub IsClosed : NumberedPart → FactRows → List Fact → Type 0
IsClosed part t q = (ps : List Fact) (h : Fact) → Rule part ps h → ((p : Fact) → In p ps → Holds t p × (In p q → ⊥)) → Holds t h

-- what holds whenever the next fact is taken
pub record IsUnderWay (part : NumberedPart) (limit : ℕ) (t : FactRows) (q : List Fact) : Type 0 where
  pub is_linked : IsLinked t
  pub is_counted : IsCounted t
  pub long : length t.below.items ≡ length part.shapes.items
  pub sound : (g : Fact) → Holds t g → Derived part g
  pub waits : (g : Fact) → In g q → Holds t g
  pub closed : IsClosed part t q
  pub few : t.count ≤ limit
