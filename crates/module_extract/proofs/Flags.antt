-- What is flagged, by its place among all.
use Rattle.std.proofs.Common.{◌≡◌, ℕ, zero, suc, Bool, true, false, ◌||◌, List, [], ◌∷◌, Contains, Some, slice_get, length, refl, sym, ap, subst, arith, true≢false}
use Rattle.owl_ontology.specs.Ontology.{flagged}
use Rattle.owl_axioms.proofs.Listed.{by_place, fewer_names, here, later, not_in_nothing}
use Rattle.owl_axioms.specs.Names.{Scope}
use Rattle.owl_axioms.specs.declared.body.Axiom.{Axiom}
use Rattle.owl_axioms.specs.declared.name.Kind.{Kind}
use Rattle.module_extract.specs.Module.{IsPart, seed_and}
use Rattle.rel_io.proofs.Options.{none_there, same_there}

-- a flagged element has a place and a flag there
pub place_of : {X : Type 0} {P : Type 0} (flags : List Bool) (xs : List X) (x : X) → Contains (flagged flags xs) x → ((at : ℕ) → slice_get xs at ≡ Some x → slice_get flags at ≡ Some true → P) → P
place_of [] xs x h to = not_in_nothing x h
place_of (f ∷ flags) [] x h to = not_in_nothing x h
place_of (true ∷ flags) (y ∷ xs) x h to = by_place y x (flagged flags xs) h (λ e. to 0 (ap Some e) refl) (λ k. place_of flags xs x k (λ at p q. to (suc at) p q))
place_of (false ∷ flags) (y ∷ xs) x h to = place_of flags xs x h (λ at p q. to (suc at) p q)

-- and what is flagged at a place is among the flagged
pub at_place : {X : Type 0} (flags : List Bool) (xs : List X) (x : X) (at : ℕ) → slice_get xs at ≡ Some x → slice_get flags at ≡ Some true → Contains (flagged flags xs) x
at_place [] xs x at h k = absurd (none_there k)
at_place (f ∷ flags) [] x at h k = absurd (none_there h)
at_place (true ∷ flags) (y ∷ xs) x zero h k = subst (λ w. Contains (w ∷ flagged flags xs) x) (sym (same_there h)) (here x (flagged flags xs))
at_place (false ∷ flags) (y ∷ xs) x zero h k = absurd (true≢false (sym (same_there k)))
at_place (true ∷ flags) (y ∷ xs) x (suc at) h k = later y x (flagged flags xs) (at_place flags xs x at h k)
at_place (false ∷ flags) (y ∷ xs) x (suc at) h k = at_place flags xs x at h k

-- an element's flag
pub by_flag : {X : Type 0} {P : Type 0} (flags : List Bool) (xs : List X) (x : X) (at : ℕ) → length flags ≡ length xs → slice_get xs at ≡ Some x → (slice_get flags at ≡ Some true → P) → (slice_get flags at ≡ Some false → P) → P
by_flag [] [] x at l h is isnt = absurd (none_there h)
by_flag [] (y ∷ xs) x at l h is isnt = absurd (omega (arith, l))
by_flag (f ∷ flags) [] x at l h is isnt = absurd (none_there h)
by_flag (true ∷ flags) (y ∷ xs) x zero l h is isnt = is refl
by_flag (false ∷ flags) (y ∷ xs) x zero l h is isnt = isnt refl
by_flag (f ∷ flags) (y ∷ xs) x (suc at) l h is isnt = by_flag flags xs x at (omega (arith, l)) h is isnt

-- a part's elements are elements
pub in_part : {X : Type 0} (less more : List Bool) (xs : List X) → ((at : ℕ) → slice_get less at ≡ Some true → slice_get more at ≡ Some true) → (x : X) → Contains (flagged less xs) x → Contains (flagged more xs) x
in_part less more xs part x h = place_of less xs x h (λ at p q. at_place more xs x at p (part at q))

-- a part has fewer names
pub smaller : (axioms : List Axiom) (seed : Scope) (less more' : List Bool) → IsPart less more' → (k : Kind) (a : List ℕ) → seed_and seed axioms less k a ≡ true → seed_and seed axioms more' k a ≡ true
smaller axioms seed less more' part k a h = by (seed k a) _ _ h (λ q. fewer_names (flagged less axioms) (flagged more' axioms) (in_part less more' axioms part) k a q)
  where
    by : (x y z : Bool) → (x || y) ≡ true → (y ≡ true → z ≡ true) → (x || z) ≡ true
    by true y z h k = refl
    by false y z h k = k h
