-- What stands beside flags that are true.
use Rattle.std.proofs.Common.{◌≡◌, ℕ, suc, Bool, true, false, List, [], ◌∷◌, length, slice_get, Some, inl, inr, refl, ap, arith}
use Rattle.text_sets.specs.Sets.{In}
use Rattle.owl_ontology.specs.Ontology.{Entry, axioms_of, flagged}

pub flagged_each : {X : Type 0} (flags : List Bool) (xs : List X) (x : X) → In x (flagged flags xs) → In x xs
flagged_each [] xs x here = absurd here
flagged_each (flag ∷ flags) [] x here = absurd here
flagged_each (true ∷ flags) (y ∷ xs) x (inl is) = inl is
flagged_each (true ∷ flags) (y ∷ xs) x (inr later) = inr (flagged_each flags xs x later)
flagged_each (false ∷ flags) (y ∷ xs) x later = inr (flagged_each flags xs x later)

-- what no false flag stands beside is kept
pub flagged_kept : {X : Type 0} (flags : List Bool) (xs : List X) (x : X) → length flags ≡ length xs
    → ((i : ℕ) → slice_get xs i ≡ Some x → slice_get flags i ≡ Some false → ⊥) → In x xs → In x (flagged flags xs)
flagged_kept flags [] x long never here = absurd here
flagged_kept [] (y ∷ xs) x long never here = absurd (omega arith)
flagged_kept (true ∷ flags) (y ∷ xs) x long never (inl is) = inl is
flagged_kept (true ∷ flags) (y ∷ xs) x long never (inr later) = inr (flagged_kept flags xs x (omega arith) (λ i. never (suc i)) later)
flagged_kept (false ∷ flags) (y ∷ xs) x long never (inl is) = absurd (never 0 (ap Some is) refl)
flagged_kept (false ∷ flags) (y ∷ xs) x long never (inr later) = flagged_kept flags xs x (omega arith) (λ i. never (suc i)) later

pub axioms_of-flagged : (flags : List Bool) (entries : List Entry) → axioms_of (flagged flags entries) ≡ flagged flags (axioms_of entries)
axioms_of-flagged [] entries = refl
axioms_of-flagged (flag ∷ flags) [] = refl
axioms_of-flagged (true ∷ flags) (e ∷ entries) = ap (λ rest. e.axiom ∷ rest) (axioms_of-flagged flags entries)
axioms_of-flagged (false ∷ flags) (e ∷ entries) = axioms_of-flagged flags entries

pub axioms_of-length : (entries : List Entry) → length (axioms_of entries) ≡ length entries
axioms_of-length [] = refl
axioms_of-length (e ∷ entries) = ap suc (axioms_of-length entries)
