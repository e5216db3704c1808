-- Rounds of modules until nothing is dropped. (Sattler, Schneider and Zakharyaschev, "Which kind of module should I
-- extract?", 2009, where the alternation of bottom and top modules comes from.)
use Rattle.std.specs.Prelude.{ℕ, suc, ◌≡◌, Bool, List, [], ◌∷◌}
use Rattle.owl_axioms.specs.Names.{Scope}
use Rattle.owl_axioms.specs.declared.body.Axiom.{Axiom}
use Rattle.locality_tables.specs.declared.fills.ClassFill.TheVariants as class
use Rattle.locality_tables.specs.declared.fills.RoleFill.TheVariants as role
use Rattle.module_extract.specs.Module.{Fills, IsModule, fills_of}

-- one round: the module of the first kind, of this the module of the second, and so on
abbrev pub IsRound : List Fills → List Axiom → Scope → List Bool → List Bool → Type 0
IsRound [] axioms seed before after = before ≡ after
IsRound (k ∷ kinds) axioms seed before after = (next : List Bool) × IsModule k axioms before seed next × IsRound kinds axioms seed next after

-- so many rounds, each of which dropped something
pub data AreRounds (kinds : List Fills) (axioms : List Axiom) (seed : Scope) (first : List Bool) : ℕ → List Bool → Type 0 where
  start : AreRounds kinds axioms seed first 0 first
  more : (n : ℕ) (part next : List Bool) → AreRounds kinds axioms seed first n part → IsRound kinds axioms seed part next → (part ≡ next → ⊥) → AreRounds kinds axioms seed first (suc n) next

-- such rounds, and one more that dropped nothing, which is counted too
abbrev pub IsEnd : List Fills → List Axiom → Scope → List Bool → ℕ → List Bool → Type 0
IsEnd kinds axioms seed first rounds kept = (n : ℕ) × (rounds ≡ suc n) × AreRounds kinds axioms seed first n kept × IsRound kinds axioms seed kept kept

-- the two kinds whose modules alternate
abbrev pub bottom_and_top : List Fills
bottom_and_top = fills_of class.Empty role.Empty ∷ fills_of class.Full role.Full ∷ []
