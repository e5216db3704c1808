-- What one axiom more makes of an ontology, and what many; and that saying the same is an equivalence. (Own.)
use Rattle.std.specs.Prelude.{ℕ, ◌≡◌, ◌↔◌, ◌⊎◌, List, [], ◌∷◌, ◌++◌, Contains, IsFalse, Some, slice_get}
use Rattle.owl_axioms.specs.declared.body.Axiom.{Axiom}
use Rattle.owl_ontology.specs.Ontology.{Entry, IsHeld, OntologyState, add_entries, add_entry, entry_of}
use Rattle.owl_ontology.specs.Origins.{comes_before, lesser}
use Rattle.owl_ontology.specs.Same.{HoldTheSame, SaysTheSame}
use Rattle.owl_ontology.specs.declared.origin.Origin.{Origin}

-- an axiom that no entry has comes last
abbrev pub NewComesLast : List Entry → Axiom → Origin → Type 0
NewComesLast entries added origin = ¬ (IsHeld added entries) → add_entry added origin entries ≡ entries ++ entry_of added origin ∷ []

-- one that an entry has keeps its place, with the lesser of the two origins
abbrev pub HeldKeepsLesser : List Entry → Axiom → Origin → Type 0
HeldKeepsLesser entries added origin =
    (at : ℕ) (e : Entry) → slice_get entries at ≡ Some e → e.axiom ≡ added → slice_get (add_entry added origin entries) at ≡ Some (entry_of added (lesser origin e.origin))

-- and each other entry stays
abbrev pub OthersStay : List Entry → Axiom → Origin → Type 0
OthersStay entries added origin = (at : ℕ) (e : Entry) → slice_get entries at ≡ Some e → ¬ (e.axiom ≡ added) → slice_get (add_entry added origin entries) at ≡ Some e

-- many entries more: what is held then was held before or was added
abbrev pub HoldsBoth : List Entry → List Entry → Type 0
HoldsBoth held added = (a : Axiom) → IsHeld a (add_entries held added) ↔ IsHeld a held ⊎ IsHeld a added

-- so it goes by the sets of axioms alone
abbrev pub AddingIsOfSets : List Entry → List Entry → List Entry → List Entry → Type 0
AddingIsOfSets held added others more = HoldTheSame held others → HoldTheSame added more → HoldTheSame (add_entries held added) (add_entries others more)

-- of the origins that an axiom has among entries, the least
pub record IsLeastOrigin (entries : List Entry) (a : Axiom) (origin : Origin) : Type 0 where
  pub given : Contains entries (entry_of a origin)
  pub least : (other : Origin) → Contains entries (entry_of a other) → IsFalse (comes_before other origin)

-- each axiom has then the least of the origins that it had before or was added with
abbrev pub LeastOriginStays : List Entry → List Entry → Type 0
LeastOriginStays held added = (e : Entry) → Contains (add_entries held added) e → IsLeastOrigin (held ++ added) e.axiom e.origin

-- saying the same is an equivalence
pub record SamenessIsEquivalence (one two three : OntologyState) : Type 0 where
  pub itself : SaysTheSame one one
  pub turned : SaysTheSame one two → SaysTheSame two one
  pub chained : SaysTheSame one two → SaysTheSame two three → SaysTheSame one three
