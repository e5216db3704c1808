-- Tables from axioms to origins, seen as lists of entries.
use Rattle.std.proofs.Common.{◌≡◌, ◌==◌, ◌+◌, ℕ, ◌<◌, ◌↔◌, Bool, true, false, cond, not, ◌&&◌, List, [], ◌∷◌, zero, suc, Some, None, Contains, IsTrue, slice_get, take, is_some, refl, sym, ap, subst, ◌∙◌, true≢false, arith, if◌then◌else◌}
use Rattle.std.proofs.lemmas.Bool.Decides.{nat_tests}
use Rattle.std.proofs.lemmas.List.Elements.{Contains-get_or, Contains-append_right}
use Rattle.std.proofs.lemmas.Map.Keys.{IsDistinct-head, IsDistinct-tail}
use Rattle.std.proofs.lemmas.Option.{slice_get-map}
use Rattle.std.specs.List.{AllByRecursion, IsDistinct, list_all}
use Rattle.std.specs.Map.{keys_of, lookup, values_of}
use Rattle.std.specs.Option.{option_map, option_map_or}
use Rattle.indexmap.specs.IndexMap.{insert_entry}
use Rattle.owl_axioms.specs.Same.{same_axiom}
use Rattle.owl_ontology.specs.Ontology.{Entry, IsHeld, add_entry, axioms_of, entries_of, origins_of}
use Rattle.owl_ontology.specs.Origins.{lesser}
use Rattle.owl_axioms.specs.Proper.{AreProper, IsProper, is_proper}
use Rattle.owl_axioms.specs.contracts.body.AxiomEq.TheImpl.Laws as laws
use Rattle.owl_axioms.specs.declared.body.Axiom.{Axiom}
use Rattle.owl_ontology.specs.declared.origin.Origin.{Origin}
use Rattle.owl_axioms.proofs.Same.{same_axiom-true}

abbrev pub Pairs : Type 0
Pairs = List (Axiom × Origin)

-- the axioms are the keys, and the origins the values
pub axioms_of-entries : (pairs : Pairs) → axioms_of (entries_of pairs) ≡ keys_of pairs
axioms_of-entries [] = refl
axioms_of-entries (p ∷ pairs) = ap (λ axioms. p.0 ∷ axioms) (axioms_of-entries pairs)

pub origins_of-entries : (pairs : Pairs) → origins_of (entries_of pairs) ≡ values_of pairs
origins_of-entries [] = refl
origins_of-entries (p ∷ pairs) = ap (λ origins. p.1 ∷ origins) (origins_of-entries pairs)

-- one axiom more in the table is one more in the entries
pub entries_of-insert : (pairs : Pairs) (a : Axiom) (o : Origin) → entries_of (insert_entry same_axiom pairs a (option_map_or (lesser o) (lookup (same_axiom a) pairs) o)) ≡ add_entry a o (entries_of pairs)
entries_of-insert [] a o = refl
entries_of-insert (p ∷ pairs) a o =
    let rest : List Entry = add_entry a o (entries_of pairs) in
    elim (same_axiom a p.0) as (λ b. entries_of (if b then (p.0, option_map_or (lesser o) (cond b (Some p.1) (lookup (same_axiom a) pairs)) o) ∷ pairs else p ∷ insert_entry same_axiom pairs a (option_map_or (lesser o) (cond b (Some p.1) (lookup (same_axiom a) pairs)) o)) ≡ (if b then record { «axiom» = p.0; origin = lesser o p.1 } ∷ entries_of pairs else record { «axiom» = p.0; origin = p.1 } ∷ rest)) [
      | true ↦ refl
      | false ↦ ap (λ es. record { «axiom» = p.0; origin = p.1 } ∷ es) (entries_of-insert pairs a o)
    ]

-- both parts of a test
pub both : (s t : Bool) → (s && t) ≡ true → (s ≡ true) × (t ≡ true)
both true t h = (refl, h)
both false t h = absurd (let e : false ≡ true = h in cc)

-- with a proper axiom more, all are proper
pub AreProper-insert : (pairs : Pairs) (a : Axiom) (o : Origin) → IsProper a → AreProper (keys_of pairs) → AreProper (keys_of (insert_entry same_axiom pairs a o))
AreProper-insert [] a o h all = let e : is_proper a ≡ true = h in rw e refl
AreProper-insert (p ∷ pairs) a o h all =
    let parts : (is_proper p.0 ≡ true) × (list_all is_proper (keys_of pairs) ≡ true) = both _ _ all in
    elim (same_axiom a p.0) as (λ b. list_all is_proper (keys_of (if b then (p.0, o) ∷ pairs else p ∷ insert_entry same_axiom pairs a o)) ≡ true) [
      | true ↦ all
      | false ↦ let there : list_all is_proper (keys_of (insert_entry same_axiom pairs a o)) ≡ true = AreProper-insert pairs a o h parts.1 in λ i. parts.0 i && there i
    ]

-- a key that is found is an axiom that is held
pub IsHeld-lookup : (pairs : Pairs) (a : Axiom) → is_some (lookup (same_axiom a) pairs) ≡ true → IsHeld a (entries_of pairs)
IsHeld-lookup [] a h = absurd (let e : false ≡ true = h in cc)
IsHeld-lookup (p ∷ pairs) a h =
    elim (same_axiom a p.0) as (λ b. same_axiom a p.0 ≡ b → is_some (cond b (Some p.1) (lookup (same_axiom a) pairs)) ≡ true → Contains (p.0 ∷ axioms_of (entries_of pairs)) a) [
      | true ↦ λ e _. subst (Contains (p.0 ∷ axioms_of (entries_of pairs))) (sym (same_axiom-true a p.0 e)) (Contains-get_or (p.0 ∷ axioms_of (entries_of pairs)) 0 p.0 (omega arith))
      | false ↦ λ _ found. Contains-append_right (p.0 ∷ []) (axioms_of (entries_of pairs)) a (IsHeld-lookup pairs a found)
    ] refl h

-- what is in a list and is not its first element is in the rest
Contains-rest : {X : Type 0} (x : X) (xs : List X) (y : X) → (x ≡ y → ⊥) → Contains (x ∷ xs) y → Contains xs y
Contains-rest x xs y apart (zero, within, is) = absurd (apart is)
Contains-rest x xs y apart (suc k, within, is) = (k, omega arith, is)

-- an axiom that is held is a key that is found
pub lookup-IsHeld : (pairs : Pairs) (a : Axiom) → IsHeld a (entries_of pairs) → is_some (lookup (same_axiom a) pairs) ≡ true
lookup-IsHeld [] a h = let within : h.0 < 0 = h.1 in absurd (omega arith)
lookup-IsHeld (p ∷ pairs) a h =
    elim (same_axiom a p.0) as (λ b. same_axiom a p.0 ≡ b → is_some (cond b (Some p.1) (lookup (same_axiom a) pairs)) ≡ true) [
      | true ↦ λ _. refl
      | false ↦ λ e. lookup-IsHeld pairs a (Contains-rest p.0 (axioms_of (entries_of pairs)) a
          (λ is. let itself : same_axiom a a ≡ true = laws.laws-law.refl a in let t : same_axiom a p.0 ≡ true = subst (λ x. same_axiom a x ≡ true) (sym is) itself in true≢false (sym t ∙ e)) h)
    ] refl

-- the key, the axiom and the origin at a place
pub key_at : (pairs : Pairs) (i : ℕ) (a : Axiom) (o : Origin) → slice_get pairs i ≡ Some (a, o) → slice_get (keys_of pairs) i ≡ Some a
key_at pairs i a o h = slice_get-map (λ p. p.0) pairs i ∙ ap (option_map (λ p. p.0)) h

pub axiom_at : (pairs : Pairs) (i : ℕ) (a : Axiom) (o : Origin) → slice_get pairs i ≡ Some (a, o) → slice_get (axioms_of (entries_of pairs)) i ≡ Some a
axiom_at pairs i a o h = ap (λ axioms. slice_get axioms i) (axioms_of-entries pairs) ∙ key_at pairs i a o h

pub origin_at : (pairs : Pairs) (i : ℕ) (o : Origin) → slice_get (values_of pairs) i ≡ Some o → slice_get (origins_of (entries_of pairs)) i ≡ Some o
origin_at pairs i o h = ap (λ origins. slice_get origins i) (origins_of-entries pairs) ∙ h

-- of proper axioms the one at a place is proper
pub proper_at : (axioms : List Axiom) (i : ℕ) (a : Axiom) → AreProper axioms → slice_get axioms i ≡ Some a → IsProper a
proper_at [] i a all h = absurd (let e : None ≡ Some a = h in cc)
proper_at (x ∷ xs) zero a all h = let e : Some x ≡ Some a = h in let same : x ≡ a = cc in subst IsProper same (both (is_proper x) (list_all is_proper xs) all).0
proper_at (x ∷ xs) (suc i) a all h = proper_at xs i a (both (is_proper x) (list_all is_proper xs) all).1 h

-- what holds of each element holds of the one at a place
pub all_at : {X : Type 0} (P : X → Type 0) (xs : List X) (i : ℕ) (x : X) → AllByRecursion P xs → slice_get xs i ≡ Some x → P x
all_at P [] i x all h = absurd (let e : None ≡ Some x = h in cc)
all_at P (y ∷ xs) zero x all h = let e : Some y ≡ Some x = h in let same : y ≡ x = cc in subst P same all.0
all_at P (y ∷ xs) (suc i) x all h = all_at P xs i x all.1 h

-- the pair at a place, put after those before it
pub insert_next : (pairs : Pairs) (i : ℕ) (a : Axiom) (o : Origin) → IsDistinct same_axiom (keys_of pairs) → slice_get pairs i ≡ Some (a, o) → insert_entry same_axiom (take i pairs) a o ≡ take (suc i) pairs
insert_next [] i a o apart h = absurd (let e : None ≡ Some (a, o) = h in cc)
insert_next (p ∷ pairs) zero a o apart h = let e : Some p ≡ Some (a, o) = h in let same : p ≡ (a, o) = cc in ap (λ q. q ∷ []) (sym same)
insert_next (p ∷ pairs) (suc i) a o apart h =
    let key : slice_get (keys_of pairs) i ≡ Some a = key_at pairs i a o h in
    let other : same_axiom p.0 a ≡ false = all_at (λ x. same_axiom p.0 x ≡ false) (keys_of pairs) i a (IsDistinct-head same_axiom p.0 (keys_of pairs) apart) key in
    let differs : same_axiom a p.0 ≡ false = laws.laws-law.symm a p.0 ∙ other in
    ap (λ b. if b then (p.0, o) ∷ take i pairs else p ∷ insert_entry same_axiom (take i pairs) a o) differs
    ∙ ap (λ rest. p ∷ rest) (insert_next pairs i a o (IsDistinct-tail same_axiom p.0 (keys_of pairs) apart) h)

-- an axiom is new exactly where no entry has it
pub is_new : (pairs : Pairs) (a : Axiom) (answer : Bool) → is_some (lookup (same_axiom a) pairs) ≡ not answer → IsTrue answer ↔ ¬ (IsHeld a (entries_of pairs))
is_new pairs a answer is = (
  λ new held. true≢false (sym (lookup-IsHeld pairs a held) ∙ is ∙ ap not new),
  λ absent. elim answer as (λ b. answer ≡ b → IsTrue answer) [
    | true ↦ λ e. e
    | false ↦ λ e. absurd (absent (IsHeld-lookup pairs a (is ∙ ap not e)))
  ] refl,
)

-- a table that grew by one exactly where the key was new tells that by its length
pub grown : (held : Bool) (before after : ℕ) → after ≡ before + (if held then 0 else 1) → held ≡ not (not (after == before))
grown true before after is = grind (arith, nat_tests, is)
grown false before after is = grind (arith, nat_tests, is)
