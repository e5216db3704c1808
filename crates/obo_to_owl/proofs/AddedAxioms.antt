-- The axioms of entries that are added one after the other.
use Rattle.std.proofs.Common.{◌≡◌, ◌⊎◌, true, false, List, [], ◌∷◌, if◌then◌else◌, refl, sym, subst, inl, inr, ⊎_elim}
use Rattle.text_sets.specs.Sets.{In}
use Rattle.owl_axioms.specs.Same.{same_axiom}
use Rattle.owl_axioms.specs.declared.body.Axiom.{Axiom}
use Rattle.owl_ontology.specs.Ontology.{Entry, add_entry, axioms_of}
use Rattle.owl_ontology.specs.Origins.{lesser}
use Rattle.owl_ontology.specs.declared.origin.Origin.{Origin}
use Rattle.obo_to_owl.specs.inner.Adding.{add_all}

module _ (told : (one other : Axiom) → same_axiom one other ≡ true → one ≡ other) where
  -- an axiom that is there after one was added
  pub added_from : (x a : Axiom) (origin : Origin) (entries : List Entry) → In x (axioms_of (add_entry a origin entries)) → (a ≡ x) ⊎ In x (axioms_of entries)
  added_from x a origin [] (inl is) = inl is
  added_from x a origin [] (inr none) = absurd none
  added_from x a origin (e ∷ entries) here =
      elim (same_axiom a e.axiom) as (λ b. In x (axioms_of (if b then record e { origin = lesser origin e.origin } ∷ entries else e ∷ add_entry a origin entries)) → (a ≡ x) ⊎ In x (axioms_of (e ∷ entries))) [
        | true ↦ λ among. inr among
        | false ↦ λ among. ⊎_elim (λ same. inr (inl same)) (λ later. ⊎_elim (λ is. inl is) (λ more. inr (inr more)) (added_from x a origin entries later)) among
      ] here

  pub held_stays : (x a : Axiom) (origin : Origin) (entries : List Entry) → In x (axioms_of entries) → In x (axioms_of (add_entry a origin entries))
  held_stays x a origin [] here = absurd here
  held_stays x a origin (e ∷ entries) here =
      elim (same_axiom a e.axiom) as (λ b. In x (axioms_of (if b then record e { origin = lesser origin e.origin } ∷ entries else e ∷ add_entry a origin entries))) [
        | true ↦ here
        | false ↦ ⊎_elim (λ same. inl same) (λ later. inr (held_stays x a origin entries later)) here
      ]

  pub added_is_there : (a : Axiom) (origin : Origin) (entries : List Entry) → In a (axioms_of (add_entry a origin entries))
  added_is_there a origin [] = inl refl
  added_is_there a origin (e ∷ entries) =
      elim (same_axiom a e.axiom) as (λ b. same_axiom a e.axiom ≡ b → In a (axioms_of (if b then record e { origin = lesser origin e.origin } ∷ entries else e ∷ add_entry a origin entries))) [
        | true ↦ λ same. inl (sym (told a e.axiom same))
        | false ↦ λ other. inr (added_is_there a origin entries)
      ] refl

  -- after all were added there are their axioms and those before, and no others
  pub all_from : (x : Axiom) (added entries : List Entry) → In x (axioms_of (add_all added entries)) → In x (axioms_of added) ⊎ In x (axioms_of entries)
  all_from x [] entries here = inr here
  all_from x (e ∷ added) entries here =
      ⊎_elim (λ more. inl (inr more)) (λ before. ⊎_elim (λ is. inl (inl is)) (λ held. inr held) (added_from x e.axiom e.origin entries before)) (all_from x added (add_entry e.axiom e.origin entries) here)

  pub all_stay : (x : Axiom) (added entries : List Entry) → In x (axioms_of entries) → In x (axioms_of (add_all added entries))
  all_stay x [] entries here = here
  all_stay x (e ∷ added) entries here = all_stay x added (add_entry e.axiom e.origin entries) (held_stays x e.axiom e.origin entries here)

  pub all_are_there : (x : Axiom) (added entries : List Entry) → In x (axioms_of added) → In x (axioms_of (add_all added entries))
  all_are_there x [] entries here = absurd here
  all_are_there x (e ∷ added) entries (inl is) = all_stay x added (add_entry e.axiom e.origin entries) (subst (λ a. In a (axioms_of (add_entry e.axiom e.origin entries))) is (added_is_there e.axiom e.origin entries))
  all_are_there x (e ∷ added) entries (inr later) = all_are_there x added (add_entry e.axiom e.origin entries) later
