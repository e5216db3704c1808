-- An ontology as a contract sees it: its name, and its axioms in the order in which they came, each once and with its
-- least origin. (Own; an ontology as a set of axioms: OWL 2 Structural Specification and Functional-Style Syntax.)
use Rattle.std.specs.Prelude.{ℕ, Bool, false, if◌then◌else◌, List, [], ◌∷◌, Option, None, Some, Contains, map}
use Rattle.std.specs.List.{IsDistinct}
use Rattle.owl_ontology.specs.Origins.{lesser}
use Rattle.owl_axioms.specs.Same.{same_axiom}
use Rattle.owl_axioms.specs.declared.body.Axiom.{Axiom}
use Rattle.owl_ontology.specs.declared.origin.Origin.{Origin}

-- an axiom and where it comes from
pub record Entry : Type 0 where
  pub «axiom» : Axiom
  pub origin : Origin

-- the two of them
abbrev pub entry_of : Axiom → Origin → Entry
entry_of a origin = record { «axiom» = a; origin = origin }

-- the name, if there is one, and the axioms
pub record OntologyState : Type 0 where
  pub name : Option (List ℕ)
  pub entries : List Entry

-- the axioms alone
abbrev pub axioms_of : List Entry → List Axiom
axioms_of entries = map (λ e. e.axiom) entries

-- their origins alone
abbrev pub origins_of : List Entry → List Origin
origins_of entries = map (λ e. e.origin) entries

-- the axiom is there
abbrev pub IsHeld : Axiom → List Entry → Type 0
IsHeld a entries = Contains (axioms_of entries) a

-- one axiom more: where it is there it keeps its place and the lesser origin, and else it comes last
abbrev pub add_entry : Axiom → Origin → List Entry → List Entry
add_entry a origin [] = entry_of a origin ∷ []
add_entry a origin (e ∷ entries) =
    if same_axiom a e.axiom
    then record e { origin = lesser origin e.origin } ∷ entries
    else e ∷ add_entry a origin entries

-- entries one after another: each axiom once, in the order in which they come, with its least origin
abbrev pub add_entries : List Entry → List Entry → List Entry
add_entries held [] = held
add_entries held (entry ∷ entries) = add_entries (add_entry entry.axiom entry.origin held) entries

-- the entry that was taken out, if there was one
abbrev pub taken_out : Option (Axiom × Origin) → List Entry
taken_out None = []
taken_out (Some taken) = entry_of taken.0 taken.1 ∷ []

-- the first flag, or false where there is none
abbrev pub first_flag : List Bool → Bool
first_flag [] = false
first_flag (flag ∷ flags) = flag

-- what stands beside a flag that is true
abbrev pub flagged : {X : Type 0} → List Bool → List X → List X
flagged [] xs = []
flagged (flag ∷ flags) [] = []
flagged (flag ∷ flags) (x ∷ xs) = if flag then x ∷ flagged flags xs else flagged flags xs

-- no axiom is there twice
abbrev pub AreDifferent : List Entry → Type 0
AreDifferent entries = IsDistinct same_axiom (axioms_of entries)

-- the entries of a table from axioms to origins, in its order. No contract speaks of it
abbrev pub entries_of : List (Axiom × Origin) → List Entry
entries_of pairs = map (λ p. entry_of p.0 p.1) pairs
