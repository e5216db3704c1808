-- The clauses of a document beside the IRIs of their frames. (Own.)
use Rattle.std.specs.Prelude.{◌≡◌, ℕ, Bool, true, false, List, [], ◌∷◌, ◌++◌, Option, None, Some, map, slice_get}
use Rattle.iri_map.specs.Id.{iri_of}
use Rattle.text_sets.specs.Sets.{In}
use Rattle.obo_frames.specs.Framed.{Framed, unlined}
use Rattle.obo_frames.specs.declared.placed.Placed.{Placed}
use Rattle.obo_to_owl.specs.declared.rows.Row.{Row}

-- the clause of a row, and without its line
abbrev pub clause_of : Row → Placed
clause_of row = row.placed.now

abbrev pub of_row : Row → Framed
of_row row = unlined row.placed.now

-- for each clause the place of the IRI of its frame
abbrev pub AreIris : List ℕ → List Placed → List (List ℕ) → List ℕ → Type 0
AreIris space placed texts places = map (slice_get texts) places ≡ map (λ (one : Placed). Some (iri_of one.id space)) placed

-- the IRI of each row is that of its frame
abbrev pub AreRead : List ℕ → List Row → Type 0
AreRead space rows = (row : Row) → In row rows → row.iri.now ≡ iri_of row.placed.now.id space

-- the second list has more behind the first
abbrev pub Begins : {X : Type 0} → List X → List X → Type 0
Begins {X} first all = (rest : List X) × (all ≡ first ++ rest)

-- the item stands last
abbrev pub EndsWith : {X : Type 0} → X → List X → Type 0
EndsWith {X} x xs = (front : List X) × (xs ≡ front ++ x ∷ [])

-- where the test is passed the clause has the id of the one before it
abbrev pub IsOfFrame : Option Placed → Placed → Bool → Type 0
IsOfFrame None one is = is ≡ false
IsOfFrame (Some before) one is = is ≡ true → before.id ≡ one.id
