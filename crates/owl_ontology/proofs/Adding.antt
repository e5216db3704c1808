-- What one axiom more makes of the entries, place by place.
use Rattle.std.proofs.Common.{◌≡◌, ℕ, zero, suc, true, false, List, [], ◌∷◌, ◌++◌, None, Some, slice_get, refl, sym, ap, subst, ◌∙◌, arith, if◌then◌else◌, Contains}
use Rattle.std.proofs.lemmas.List.Elements.{Contains-get_or, Contains-append_right}
use Rattle.std.proofs.lemmas.Map.Keys.{IsDistinct-head, IsDistinct-tail}
use Rattle.std.proofs.lemmas.Option.{slice_get-map}
use Rattle.std.specs.Option.{option_map}
use Rattle.owl_ontology.proofs.Entries.{all_at}
use Rattle.owl_axioms.proofs.Same.{same_axiom-true}
use Rattle.owl_axioms.specs.Same.{same_axiom}
use Rattle.owl_ontology.specs.Ontology.{AreDifferent, Entry, IsHeld, add_entry, axioms_of, entry_of}
use Rattle.owl_ontology.specs.Origins.{lesser}
use Rattle.owl_axioms.specs.contracts.body.AxiomEq.TheImpl.Laws as laws
use Rattle.owl_axioms.specs.declared.body.Axiom.{Axiom}
use Rattle.owl_ontology.specs.declared.origin.Origin.{Origin}

-- an axiom is the same as itself
itself : (a b : Axiom) → a ≡ b → same_axiom a b ≡ true
itself a b is = subst (λ x. same_axiom a x ≡ true) is (laws.laws-law.refl a)

-- the first of two entries
Contains-first : (e : Entry) (entries : List Entry) (a : Axiom) → a ≡ e.axiom → IsHeld a (e ∷ entries)
Contains-first e entries a is = subst (Contains (e.axiom ∷ axioms_of entries)) (sym is) (Contains-get_or (e.axiom ∷ axioms_of entries) 0 e.axiom (omega arith))

-- an axiom that no entry has comes last
pub add_entry-new : (entries : List Entry) (a : Axiom) (o : Origin) → ¬ (IsHeld a entries) → add_entry a o entries ≡ entries ++ entry_of a o ∷ []
add_entry-new [] a o absent = refl
add_entry-new (e ∷ entries) a o absent =
    elim (same_axiom a e.axiom) as (λ b. same_axiom a e.axiom ≡ b → (if b then record e { origin = lesser o e.origin } ∷ entries else e ∷ add_entry a o entries) ≡ e ∷ (entries ++ entry_of a o ∷ [])) [
      | true ↦ λ is. absurd (absent (Contains-first e entries a (same_axiom-true a e.axiom is)))
      | false ↦ λ _. ap (λ rest. e ∷ rest) (add_entry-new entries a o (λ held. absent (Contains-append_right (e.axiom ∷ []) (axioms_of entries) a held)))
    ] refl

-- an axiom that is there keeps its place, with the lesser of the two origins
pub add_entry-held : (entries : List Entry) (a : Axiom) (o : Origin) (at : ℕ) (e : Entry) → AreDifferent entries → slice_get entries at ≡ Some e → e.axiom ≡ a → slice_get (add_entry a o entries) at ≡ Some (entry_of a (lesser o e.origin))
add_entry-held [] a o at e apart here is = absurd (let h : None ≡ Some e = here in cc)
add_entry-held (x ∷ entries) a o zero e apart here is =
    let h : Some x ≡ Some e = here in let first : x ≡ e = cc in
    let same : same_axiom a x.axiom ≡ true = itself a x.axiom (sym (ap (λ y. y.axiom) first ∙ is)) in
    ap (λ b. slice_get (if b then record x { origin = lesser o x.origin } ∷ entries else x ∷ add_entry a o entries) 0) same
    ∙ (λ i. Some (record { «axiom» = (ap (λ y. y.axiom) first ∙ is) i; origin = lesser o (first i).origin }))
add_entry-held (x ∷ entries) a o (suc at) e apart here is =
    let there : slice_get (axioms_of entries) at ≡ Some e.axiom = slice_get-map (λ y. y.axiom) entries at ∙ ap (option_map (λ y. y.axiom)) here in
    let other : same_axiom x.axiom e.axiom ≡ false = all_at (λ y. same_axiom x.axiom y ≡ false) (axioms_of entries) at e.axiom (IsDistinct-head same_axiom x.axiom (axioms_of entries) apart) there in
    let differs : same_axiom a x.axiom ≡ false = laws.laws-law.symm a x.axiom ∙ subst (λ y. same_axiom x.axiom y ≡ false) is other in
    ap (λ b. slice_get (if b then record x { origin = lesser o x.origin } ∷ entries else x ∷ add_entry a o entries) (suc at)) differs
    ∙ add_entry-held entries a o at e (IsDistinct-tail same_axiom x.axiom (axioms_of entries) apart) here is

-- and each other entry stays
pub add_entry-other : (entries : List Entry) (a : Axiom) (o : Origin) (at : ℕ) (e : Entry) → slice_get entries at ≡ Some e → ¬ (e.axiom ≡ a) → slice_get (add_entry a o entries) at ≡ Some e
add_entry-other [] a o at e here apart = absurd (let h : None ≡ Some e = here in cc)
add_entry-other (x ∷ entries) a o zero e here apart =
    let h : Some x ≡ Some e = here in let first : x ≡ e = cc in
    elim (same_axiom a x.axiom) as (λ b. same_axiom a x.axiom ≡ b → slice_get (if b then record x { origin = lesser o x.origin } ∷ entries else x ∷ add_entry a o entries) 0 ≡ Some e) [
      | true ↦ λ same. absurd (apart (sym (ap (λ y. y.axiom) first) ∙ sym (same_axiom-true a x.axiom same)))
      | false ↦ λ _. here
    ] refl
add_entry-other (x ∷ entries) a o (suc at) e here apart =
    elim (same_axiom a x.axiom) as (λ b. slice_get (if b then record x { origin = lesser o x.origin } ∷ entries else x ∷ add_entry a o entries) (suc at) ≡ Some e) [
      | true ↦ here
      | false ↦ add_entry-other entries a o at e here apart
    ]
