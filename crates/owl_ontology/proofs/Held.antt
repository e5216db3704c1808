-- Which axioms entries hold, when entries are added one after another.
use Rattle.std.proofs.Common.{◌≡◌, ◌<◌, true, false, if◌then◌else◌, List, [], ◌∷◌, ◌++◌, Contains, inl, inr, ◌⊎◌, ⊎_elim, refl, sym, subst, arith}
use Rattle.std.proofs.lemmas.List.Elements.{Contains-append_cases, Contains-append_right, Contains-get_or, Contains-push_cases}
use Rattle.owl_axioms.proofs.Same.{same_axiom-true}
use Rattle.owl_axioms.specs.Same.{same_axiom}
use Rattle.owl_ontology.specs.Ontology.{Entry, IsHeld, add_entries, add_entry, axioms_of}
use Rattle.owl_ontology.specs.Origins.{lesser}
use Rattle.owl_axioms.specs.declared.body.Axiom.{Axiom}
use Rattle.owl_ontology.specs.declared.origin.Origin.{Origin}

-- ---- lists

pub none_in_nothing : {X : Type 0} (x : X) → ¬ (Contains [] x)
none_in_nothing x found = let within : found.0 < 0 = found.1 in absurd (omega arith)

pub first_or_later : {X : Type 0} (x : X) (xs : List X) (y : X) → Contains (x ∷ xs) y → (x ≡ y) ⊎ Contains xs y
first_or_later x xs y found =
    ⊎_elim
    (λ one. ⊎_elim (λ none. absurd (none_in_nothing y none)) (λ is. inl is) (Contains-push_cases [] x y one))
    (λ later. inr later)
    (Contains-append_cases (x ∷ []) xs y found)

pub is_first : {X : Type 0} (x : X) (xs : List X) → Contains (x ∷ xs) x
is_first x xs = Contains-get_or (x ∷ xs) 0 x (omega arith)

pub is_later : {X : Type 0} (x : X) (xs : List X) (y : X) → Contains xs y → Contains (x ∷ xs) y
is_later x xs y found = Contains-append_right (x ∷ []) xs y found

-- ---- one entry more

pub held_or_added : (entries : List Entry) (a b : Axiom) (o : Origin) → IsHeld b (add_entry a o entries) → IsHeld b entries ⊎ (a ≡ b)
held_or_added [] a b o held = ⊎_elim (λ is. inr is) (λ none. absurd (none_in_nothing b none)) (first_or_later a [] b held)
held_or_added (e ∷ entries) a b o held =
    elim (same_axiom a e.axiom) as (λ same. IsHeld b (if same then record e { origin = lesser o e.origin } ∷ entries else e ∷ add_entry a o entries) → IsHeld b (e ∷ entries) ⊎ (a ≡ b)) [
      | true ↦ λ here. inl here
      | false ↦ λ here.
          ⊎_elim
          (λ is. inl (subst (Contains (e.axiom ∷ axioms_of entries)) is (is_first e.axiom (axioms_of entries))))
          (λ later. ⊎_elim (λ old. inl (is_later e.axiom (axioms_of entries) b old)) (λ is. inr is) (held_or_added entries a b o later))
          (first_or_later e.axiom (axioms_of (add_entry a o entries)) b here)
    ] held

pub held_stays : (entries : List Entry) (a b : Axiom) (o : Origin) → IsHeld b entries → IsHeld b (add_entry a o entries)
held_stays [] a b o held = absurd (none_in_nothing b held)
held_stays (e ∷ entries) a b o held =
    elim (same_axiom a e.axiom) as (λ same. IsHeld b (if same then record e { origin = lesser o e.origin } ∷ entries else e ∷ add_entry a o entries)) [
      | true ↦ held
      | false ↦
          ⊎_elim
          (λ is. subst (Contains (e.axiom ∷ axioms_of (add_entry a o entries))) is (is_first e.axiom (axioms_of (add_entry a o entries))))
          (λ later. is_later e.axiom (axioms_of (add_entry a o entries)) b (held_stays entries a b o later))
          (first_or_later e.axiom (axioms_of entries) b held)
    ]

pub added_is_held : (entries : List Entry) (a : Axiom) (o : Origin) → IsHeld a (add_entry a o entries)
added_is_held [] a o = is_first a []
added_is_held (e ∷ entries) a o =
    elim (same_axiom a e.axiom) as (λ same. same_axiom a e.axiom ≡ same → IsHeld a (if same then record e { origin = lesser o e.origin } ∷ entries else e ∷ add_entry a o entries)) [
      | true ↦ λ is. subst (Contains (e.axiom ∷ axioms_of entries)) (sym (same_axiom-true a e.axiom is)) (is_first e.axiom (axioms_of entries))
      | false ↦ λ is. is_later e.axiom (axioms_of (add_entry a o entries)) a (added_is_held entries a o)
    ] refl

-- ---- many entries more

pub add_entries-append : (held first second : List Entry) → add_entries held (first ++ second) ≡ add_entries (add_entries held first) second
add_entries-append held [] second = refl
add_entries-append held (e ∷ first) second = add_entries-append (add_entry e.axiom e.origin held) first second

pub all_held_or_added : (held added : List Entry) (b : Axiom) → IsHeld b (add_entries held added) → IsHeld b held ⊎ IsHeld b added
all_held_or_added held [] b here = inl here
all_held_or_added held (e ∷ added) b here =
    ⊎_elim
    (λ before. ⊎_elim (λ old. inl old) (λ is. inr (subst (Contains (e.axiom ∷ axioms_of added)) is (is_first e.axiom (axioms_of added)))) (held_or_added held e.axiom b e.origin before))
    (λ later. inr (is_later e.axiom (axioms_of added) b later))
    (all_held_or_added (add_entry e.axiom e.origin held) added b here)

pub all_held_stays : (held added : List Entry) (b : Axiom) → IsHeld b held → IsHeld b (add_entries held added)
all_held_stays held [] b here = here
all_held_stays held (e ∷ added) b here = all_held_stays (add_entry e.axiom e.origin held) added b (held_stays held e.axiom b e.origin here)

pub all_added_is_held : (held added : List Entry) (b : Axiom) → IsHeld b added → IsHeld b (add_entries held added)
all_added_is_held held [] b here = absurd (none_in_nothing b here)
all_added_is_held held (e ∷ added) b here =
    ⊎_elim
    (λ is. subst (λ x. IsHeld x (add_entries held (e ∷ added))) is (all_held_stays (add_entry e.axiom e.origin held) added e.axiom (added_is_held held e.axiom e.origin)))
    (λ later. all_added_is_held (add_entry e.axiom e.origin held) added b later)
    (first_or_later e.axiom (axioms_of added) b here)
