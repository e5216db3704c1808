-- The module as a plain function: grown from nothing, in as many rounds as there are axioms. (Own.)
use Rattle.std.specs.Prelude.{ℕ, zero, suc, Bool, false, not, ◌&&◌, ◌||◌, List, [], ◌∷◌, length, map}
use Rattle.owl_axioms.specs.declared.body.Axiom.{Axiom}
use Rattle.owl_axioms.specs.Names.{Scope}
use Rattle.locality_tables.specs.Local.{is_local}
use Rattle.module_extract.specs.Module.{Fills, seed_and}

-- the flagged axioms, and with them those of the part that fail the test
abbrev pub grown : (Axiom → Bool) → List Axiom → List Bool → List Bool → List Bool
grown t [] part kept = []
grown t (a ∷ axioms) [] kept = []
grown t (a ∷ axioms) (p ∷ part) [] = []
grown t (a ∷ axioms) (p ∷ part) (f ∷ kept) = (f || (p && not (t a))) ∷ grown t axioms part kept

-- all at once: each axiom of the part that is not local for the seed and the names of the flagged ones joins
unfoldable pub round_of : Fills → List Axiom → List Bool → Scope → List Bool → List Bool
round_of k axioms part seed kept = grown (λ a. is_local k.classes k.roles (seed_and seed axioms kept) a.body) axioms part kept

-- so many rounds, from no flags
abbrev pub rounds_of : Fills → List Axiom → List Bool → Scope → ℕ → List Bool
rounds_of k axioms part seed zero = map (λ a. false) axioms
rounds_of k axioms part seed (suc n) = round_of k axioms part seed (rounds_of k axioms part seed n)

-- as many rounds as there are axioms
unfoldable pub module_of : Fills → List Axiom → List Bool → Scope → List Bool
module_of k axioms part seed = rounds_of k axioms part seed (length axioms)
