-- The origins that axioms have, when entries are added one after another.
use Rattle.std.proofs.Common.{◌≡◌, ℕ, true, false, if◌then◌else◌, List, [], ◌∷◌, ◌++◌, Contains, Some, slice_get, inl, inr, ◌⊎◌, ⊎_elim, refl, sym, ap, subst, ◌∙◌, arith, append-nil, true≢false}
use Rattle.std.proofs.lemmas.Bool.{cases_Bool}
use Rattle.std.proofs.lemmas.Bool.Decides.{nat_tests}
use Rattle.std.proofs.lemmas.List.Elements.{Contains-append_cases, Contains-append_left, Contains-append_right}
use Rattle.std.proofs.lemmas.Map.Keys.{IsDistinct-cons, IsDistinct-head, IsDistinct-tail}
use Rattle.std.proofs.lemmas.Option.{get_or_from_slice_get, slice_get-get_or, slice_get_within}
use Rattle.std.specs.List.{AllByRecursion}
use Rattle.owl_axioms.proofs.Same.{same_axiom-true}
use Rattle.owl_axioms.specs.Same.{same_axiom}
use Rattle.owl_axioms.specs.contracts.body.AxiomEq.TheImpl.Laws as laws
use Rattle.owl_axioms.specs.declared.body.Axiom.{Axiom}
use Rattle.owl_ontology.specs.Laws.{IsLeastOrigin}
use Rattle.owl_ontology.specs.Ontology.{AreDifferent, Entry, add_entries, add_entry, axioms_of, entry_of}
use Rattle.owl_ontology.specs.Origins.{comes_before, lesser}
use Rattle.owl_ontology.specs.declared.origin.Origin.{Origin}
use Rattle.owl_ontology.proofs.Adding.{add_entry-held, add_entry-other}
use Rattle.owl_ontology.proofs.Held.{first_or_later, is_first, is_later, none_in_nothing}

-- ---- the order of origins

pub before-itself : (o : Origin) → comes_before o o ≡ false
before-itself o = grind (arith, nat_tests)

pub before-through : (a b c : Origin) → comes_before a b ≡ false → comes_before b c ≡ false → comes_before a c ≡ false
before-through a b c one two = grind (arith, nat_tests, one, two)

pub lesser-first : (a b : Origin) → comes_before a (lesser a b) ≡ false
lesser-first a b =
    elim (comes_before b a) as (λ t. comes_before b a ≡ t → comes_before a (if t then b else a) ≡ false) [
      | true ↦ λ is. grind (arith, nat_tests, is)
      | false ↦ λ is. before-itself a
    ] refl

pub lesser-second : (a b : Origin) → comes_before b (lesser a b) ≡ false
lesser-second a b =
    elim (comes_before b a) as (λ t. comes_before b a ≡ t → comes_before b (if t then b else a) ≡ false) [
      | true ↦ λ is. before-itself b
      | false ↦ λ is. is
    ] refl

lesser-one : (a b : Origin) → (lesser a b ≡ a) ⊎ (lesser a b ≡ b)
lesser-one a b = elim (comes_before b a) as (λ t. ((if t then b else a) ≡ a) ⊎ ((if t then b else a) ≡ b)) [ true ↦ inr refl | false ↦ inl refl ]

-- ---- entries stay different

apart-added : (x a : Axiom) (o : Origin) (entries : List Entry) → AllByRecursion (λ y. same_axiom x y ≡ false) (axioms_of entries) → same_axiom x a ≡ false → AllByRecursion (λ y. same_axiom x y ≡ false) (axioms_of (add_entry a o entries))
apart-added x a o [] all apart = (apart, tt)
apart-added x a o (e ∷ entries) all apart =
    elim (same_axiom a e.axiom) as (λ b. AllByRecursion (λ y. same_axiom x y ≡ false) (axioms_of (if b then record e { origin = lesser o e.origin } ∷ entries else e ∷ add_entry a o entries))) [
      | true ↦ all
      | false ↦ (all.0, apart-added x a o entries all.1 apart)
    ]

pub different-added : (entries : List Entry) (a : Axiom) (o : Origin) → AreDifferent entries → AreDifferent (add_entry a o entries)
different-added [] a o all = IsDistinct-cons same_axiom a [] tt all
different-added (e ∷ entries) a o all =
    elim (same_axiom a e.axiom) as (λ b. same_axiom a e.axiom ≡ b → AreDifferent (if b then record e { origin = lesser o e.origin } ∷ entries else e ∷ add_entry a o entries)) [
      | true ↦ λ _. all
      | false ↦ λ differ.
          IsDistinct-cons same_axiom e.axiom (axioms_of (add_entry a o entries))
          (apart-added e.axiom a o entries (IsDistinct-head same_axiom e.axiom (axioms_of entries) all) (laws.laws-law.symm e.axiom a ∙ differ))
          (different-added entries a o (IsDistinct-tail same_axiom e.axiom (axioms_of entries) all))
    ] refl

-- ---- members and places

place_of : (entries : List Entry) (e : Entry) → Contains entries e → (i : ℕ) × (slice_get entries i ≡ Some e)
place_of entries e here = (here.0, slice_get-get_or entries here.0 e here.1 ∙ ap Some here.2)

member_at : (entries : List Entry) (i : ℕ) (e : Entry) → slice_get entries i ≡ Some e → Contains entries e
member_at entries i e there = (i, slice_get_within entries i e there, get_or_from_slice_get entries i e e there)

-- a member whose axiom another of different entries has
not_behind : (x : Axiom) (entries : List Entry) (e : Entry) → AllByRecursion (λ y. same_axiom x y ≡ false) (axioms_of entries) → Contains entries e → x ≡ e.axiom → ⊥
not_behind x [] e all here is = none_in_nothing e here
not_behind x (f ∷ entries) e all here is =
    ⊎_elim
    (λ first. true≢false (sym (subst (λ y. same_axiom x y ≡ true) (is ∙ ap (λ g. g.axiom) (sym first)) (laws.laws-law.refl x)) ∙ all.0))
    (λ later. not_behind x entries e all.1 later is)
    (first_or_later f entries e here)

one_entry : (entries : List Entry) (e f : Entry) → AreDifferent entries → Contains entries e → Contains entries f → e.axiom ≡ f.axiom → e ≡ f
one_entry [] e f all here there is = absurd (none_in_nothing e here)
one_entry (g ∷ entries) e f all here there is =
    let head = IsDistinct-head same_axiom g.axiom (axioms_of entries) all in
    ⊎_elim
    (λ first. ⊎_elim (λ also. sym first ∙ also) (λ later. absurd (not_behind g.axiom entries f head later (ap (λ h. h.axiom) first ∙ is))) (first_or_later g entries f there))
    (λ later. ⊎_elim (λ also. absurd (not_behind g.axiom entries e head later (ap (λ h. h.axiom) also ∙ sym is))) (λ more. one_entry entries e f (IsDistinct-tail same_axiom g.axiom (axioms_of entries) all) later more is) (first_or_later g entries f there))
    (first_or_later g entries e here)

-- ---- one entry more

-- what stands there then stood there, or is the one added, or one with its axiom
given-before : (entries : List Entry) (a : Axiom) (o : Origin) (e : Entry) → Contains (add_entry a o entries) e → Contains (entries ++ entry_of a o ∷ []) e
given-before [] a o e here = here
given-before (x ∷ entries) a o e here =
    elim (same_axiom a x.axiom) as (λ b. same_axiom a x.axiom ≡ b → Contains (if b then record x { origin = lesser o x.origin } ∷ entries else x ∷ add_entry a o entries) e → Contains (x ∷ (entries ++ entry_of a o ∷ [])) e) [
      | true ↦ λ same there.
          ⊎_elim
          (λ first.
          let axioms : a ≡ x.axiom = same_axiom-true a x.axiom same in
          ⊎_elim
          (λ is. is_later x (entries ++ entry_of a o ∷ []) e (Contains-append_right entries (entry_of a o ∷ []) e
          (subst (Contains (entry_of a o ∷ [])) ((λ i. record { «axiom» = axioms i; origin = sym is i }) ∙ first) (is_first (entry_of a o) []))))
          (λ is. subst (Contains (x ∷ (entries ++ entry_of a o ∷ []))) ((λ i. record { «axiom» = x.axiom; origin = sym is i }) ∙ first) (is_first x (entries ++ entry_of a o ∷ [])))
          (lesser-one o x.origin))
          (λ later. is_later x (entries ++ entry_of a o ∷ []) e (Contains-append_left entries (entry_of a o ∷ []) e later))
          (first_or_later (record x { origin = lesser o x.origin }) entries e there)
      | false ↦ λ _ there.
          ⊎_elim
          (λ first. subst (Contains (x ∷ (entries ++ entry_of a o ∷ []))) first (is_first x (entries ++ entry_of a o ∷ [])))
          (λ later. is_later x (entries ++ entry_of a o ∷ []) e (given-before entries a o e later))
          (first_or_later x (add_entry a o entries) e there)
    ] refl here

-- what stood there, or is added, stands there then with an origin that is not above it
record Below (entries : List Entry) (a : Axiom) (o : Origin) : Type 0 where
  origin : Origin
  here : Contains entries (entry_of a origin)
  below : comes_before o origin ≡ false

same_or_not : (a b : Axiom) → (a ≡ b) ⊎ ¬ (a ≡ b)
same_or_not a b =
    ⊎_elim
    (λ is. inl (same_axiom-true a b is))
    (λ differ. inr (λ is. true≢false (sym (subst (λ y. same_axiom a y ≡ true) is (laws.laws-law.refl a)) ∙ differ)))
    (cases_Bool (same_axiom a b))

below-old : (entries : List Entry) (a : Axiom) (o : Origin) (e : Entry) → AreDifferent entries → Contains entries e → Below (add_entry a o entries) e.axiom e.origin
below-old entries a o e all here =
    let place = place_of entries e here in
    ⊎_elim
    (λ is. record {
      origin = lesser o e.origin;
      here = subst (λ x. Contains (add_entry a o entries) (entry_of x (lesser o e.origin))) (sym is) (member_at (add_entry a o entries) place.0 (entry_of a (lesser o e.origin)) (add_entry-held entries a o place.0 e all place.1 is));
      below = lesser-second o e.origin;
    })
    (λ differ. record {
      origin = e.origin;
      here = member_at (add_entry a o entries) place.0 e (add_entry-other entries a o place.0 e place.1 differ);
      below = before-itself e.origin;
    })
    (same_or_not e.axiom a)

below-new : (entries : List Entry) (a : Axiom) (o : Origin) → Below (add_entry a o entries) a o
below-new [] a o = record { origin = o; here = is_first (entry_of a o) []; below = before-itself o }
below-new (x ∷ entries) a o =
    elim (same_axiom a x.axiom) as (λ b. same_axiom a x.axiom ≡ b → Below (if b then record x { origin = lesser o x.origin } ∷ entries else x ∷ add_entry a o entries) a o) [
      | true ↦ λ same. record {
        origin = lesser o x.origin;
        here = subst (λ y. Contains (entry_of x.axiom (lesser o x.origin) ∷ entries) (entry_of y (lesser o x.origin))) (sym (same_axiom-true a x.axiom same)) (is_first (entry_of x.axiom (lesser o x.origin)) entries);
        below = lesser-first o x.origin;
      }
      | false ↦ λ _. let rest = below-new entries a o in
          record { origin = rest.origin; here = is_later x (add_entry a o entries) (entry_of a rest.origin) rest.here; below = rest.below }
    ] refl

-- ---- many entries more

one_more : (held added : List Entry) (x : Entry) (e : Entry) → AreDifferent held → IsLeastOrigin (add_entry x.axiom x.origin held ++ added) e.axiom e.origin → IsLeastOrigin (held ++ x ∷ added) e.axiom e.origin
one_more held added x e all least =
    let more = add_entry x.axiom x.origin held in
    let through = λ (o : Origin) (b : Below more e.axiom o). before-through o b.origin e.origin b.below (least.least b.origin (Contains-append_left more added (entry_of e.axiom b.origin) b.here)) in
    record {
      given =
          ⊎_elim
          (λ here. ⊎_elim
          (λ old. Contains-append_left held (x ∷ added) e old)
          (λ one. Contains-append_right held (x ∷ added) e (Contains-append_left (x ∷ []) added e one))
          (Contains-append_cases held (x ∷ []) e (given-before held x.axiom x.origin e here)))
          (λ later. Contains-append_right held (x ∷ added) e (is_later x added e later))
          (Contains-append_cases more added e least.given);
      least = λ other there.
          ⊎_elim
          (λ old. through other (below-old held x.axiom x.origin (entry_of e.axiom other) all old))
          (λ new. ⊎_elim
          (λ is. through other (subst (λ (y : Entry). Below more y.axiom y.origin) is (below-new held x.axiom x.origin)))
          (λ later. least.least other (Contains-append_right more added (entry_of e.axiom other) later))
          (first_or_later x added (entry_of e.axiom other) new))
          (Contains-append_cases held (x ∷ added) (entry_of e.axiom other) there);
    }

pub least_stays : (held added : List Entry) → AreDifferent held → (e : Entry) → Contains (add_entries held added) e → IsLeastOrigin (held ++ added) e.axiom e.origin
least_stays held [] all e here =
    subst (λ es. IsLeastOrigin es e.axiom e.origin) (sym (append-nil held)) (record {
      given = here;
      least = λ other there. subst (λ o. comes_before o e.origin ≡ false) (ap (λ (f : Entry). f.origin) (one_entry held e (entry_of e.axiom other) all here there refl)) (before-itself e.origin);
    })
least_stays held (x ∷ added) all e here =
    one_more held added x e all (least_stays (add_entry x.axiom x.origin held) added (different-added held x.axiom x.origin all) e here)
