-- What is missing, and what the ontology is with it.
use Rattle.std.proofs.Common.{◌≡◌, ℕ, ◌+◌, zero, suc, true, false, not, ◌&&◌, List, [], ◌∷◌, ◌++◌, None, Some, Contains, length, map, slice_get, take, inl, inr, refl, sym, ap, subst, ◌∙◌, true≢false, append_assoc, arith, ◌≤◌}
use Rattle.std.specs.List.{AllByRecursion, IsDistinct, list_any}
use Rattle.std.specs.Prelude.{filter}
use Rattle.std.proofs.Math.Bool.{and-true}
use Rattle.std.proofs.lemmas.List.{map-append, take_all}
use Rattle.std.proofs.lemmas.Map.Keys.{IsDistinct-head, IsDistinct-tail}
use Rattle.indexmap.specs.IndexSet.{insert_all}
use Rattle.owl_axioms.proofs.Listed.{append_in}
use Rattle.owl_axioms.proofs.Members.{Contains-in, In, In-contains, In-from_map, In-map}
use Rattle.owl_axioms.specs.Proper.{AreProper, IsProper}
use Rattle.owl_axioms.specs.Same.{same_axiom}
use Rattle.owl_axioms.specs.declared.body.Axiom.{Axiom}
use Rattle.owl_axioms.specs.declared.body.Body.{Body}
use Rattle.owl_ontology.proofs.Adding.{add_entry-new}
use Rattle.owl_ontology.proofs.Entries.{all_at}
use Rattle.owl_ontology.specs.Ontology.{Entry, IsHeld, OntologyState, add_entry, axioms_of, entry_of}
use Rattle.relax_axioms.specs.Laws.{RelaxOfRelaxes}
use Rattle.relax_axioms.specs.Relax.{Relaxes, relax_of, step_entries, step_origin}
use Rattle.relax_axioms.specs.Relaxed.{IsMissing, IsSaid, below, plain}
use Rattle.relax_axioms.specs.Implied.{all_implied, each_once, is_said, missing_of, same_body}
use Rattle.relax_axioms.proofs.Lists.{any_in, both_true, filter_alike, from_any, is_not, not_is, take_at}
use Rattle.relax_axioms.proofs.Once.{any_filter, any_once, inserted_once, once_apart, still_apart}
use Rattle.relax_axioms.proofs.Wanted.{found_proper, found_wanted, is_wanted, same_body-true, same_itself, wanted_found}

-- a list of different bodies that has what is wanted and not said, and nothing else
abbrev pub AreMissing : List Axiom → List Body → Type 0
AreMissing axioms keys = (b : Body) → list_any (same_body b) keys ≡ (is_wanted axioms b && not (is_said axioms b))

pub are_missing : (axioms : List Axiom) → AreMissing axioms (missing_of axioms)
are_missing axioms b =
    any_filter (λ c. not (is_said axioms c)) b (each_once (all_implied axioms))
    ∙ ap (λ t. t && not (is_said axioms b)) (any_once b (all_implied axioms))

pub in_keys : (keys : List Body) (b : Body) → In b keys → list_any (same_body b) keys ≡ true
in_keys keys b here = any_in (same_body b) b keys here (same_itself b b refl)

-- what a set of the bodies that are implied is without those that are said
pub left_missing : (axioms : List Axiom) (keys said : List Body) → keys ≡ insert_all same_body [] (all_implied axioms) → ((b : Body) → list_any (same_body b) said ≡ (list_any (same_body b) keys && is_said axioms b))
    → filter (λ b. not (list_any (same_body b) said)) keys ≡ missing_of axioms
left_missing axioms keys said are those =
    filter_alike (λ b. not (list_any (same_body b) said)) (λ b. not (is_said axioms b)) keys
    (λ b here. ap not (those b ∙ ap (λ t. t && is_said axioms b) (in_keys keys b here)))
    ∙ ap (filter (λ b. not (is_said axioms b))) (are ∙ inserted_once (all_implied axioms))

pub keys_in : (keys : List Body) (b : Body) → list_any (same_body b) keys ≡ true → In b keys
keys_in keys b h = let found = from_any (same_body b) keys h in subst (λ c. In c keys) (sym (same_body-true b found.0 found.2)) found.1

wanted_key : (axioms : List Axiom) (keys : List Body) (b : Body) → AreMissing axioms keys → In b keys → (is_wanted axioms b ≡ true) × (is_said axioms b ≡ false)
wanted_key axioms keys b are here =
    let parts = both_true (is_wanted axioms b) (not (is_said axioms b)) (sym (are b) ∙ in_keys keys b here) in
    (parts.0, not_is (is_said axioms b) parts.1)

unsaid : (axioms : List Axiom) (b : Body) → is_said axioms b ≡ false → IsSaid axioms b → ⊥
unsaid axioms b isnt said = true≢false (sym (any_in (λ a. same_body a.body b) said.one axioms (In-contains said.one axioms said.stands) (same_itself said.one.body b said.says)) ∙ isnt)

said_found : (axioms : List Axiom) (b : Body) → is_said axioms b ≡ true → IsSaid axioms b
said_found axioms b h =
    let found = from_any (λ a. same_body a.body b) axioms h in
    record { one = found.0; stands = Contains-in found.0 axioms found.1; says = same_body-true found.0.body b found.2 }

pub key_proper : (axioms : List Axiom) (keys : List Body) → AreProper axioms → AreMissing axioms keys → (b : Body) → Contains keys b → IsProper (plain b)
key_proper axioms keys all are b here = found_proper axioms b all (wanted_found axioms b (wanted_key axioms keys b are (In-contains b keys here)).0)

pub key_absent : (axioms : List Axiom) (keys : List Body) → AreMissing axioms keys → (b : Body) → Contains keys b → Contains axioms (plain b) → ⊥
key_absent axioms keys are b here held = unsaid axioms b (wanted_key axioms keys b are (In-contains b keys here)).1 (record { one = plain b; stands = held; says = refl })

-- at the end of the axioms
length_axioms : (entries : List Entry) → length (axioms_of entries) ≡ length entries
length_axioms [] = refl
length_axioms (e ∷ entries) = ap suc (length_axioms entries)

pub at_end : (entries : List Entry) (i n : ℕ) → n ≡ length entries → n ≤ i → take i (axioms_of entries) ≡ axioms_of entries
at_end entries i n is past = let all = length_axioms entries in take_all i (axioms_of entries) (omega (arith, is, past, all))

-- ---- one body more

step_axioms : (added : List Axiom) → axioms_of (step_entries added) ≡ added
step_axioms [] = refl
step_axioms (a ∷ added) = ap (λ rest. a ∷ rest) (step_axioms added)

pub axioms_with : (held : List Entry) (added : List Axiom) → axioms_of (held ++ step_entries added) ≡ axioms_of held ++ added
axioms_with held added = map-append (λ (e : Entry). e.axiom) held (step_entries added) ∙ ap (λ rest. axioms_of held ++ rest) (step_axioms added)

not_before : (keys : List Body) (i : ℕ) (b : Body) → IsDistinct same_body keys → slice_get keys i ≡ Some b → In b (take i keys) → ⊥
not_before [] i b apart at here = let h : None ≡ Some b = at in absurd (cc)
not_before (k ∷ keys) zero b apart at here = here
not_before (k ∷ keys) (suc i) b apart at (inl is) =
    true≢false (sym (same_itself k b is) ∙ all_at (λ c. same_body k c ≡ false) keys i b (IsDistinct-head same_body k keys apart) at)
not_before (k ∷ keys) (suc i) b apart at (inr later) = not_before keys i b (IsDistinct-tail same_body k keys apart) at later

body_of : (b c : Body) → plain b ≡ plain c → b ≡ c
body_of b c is = ap (λ a. a.body) is

pub with_next : (held : List Entry) (keys : List Body) (i : ℕ) (b : Body) → IsDistinct same_body keys → slice_get keys i ≡ Some b → ¬ (IsHeld (plain b) held)
    → add_entry (plain b) step_origin (held ++ step_entries (map plain (take i keys))) ≡ held ++ step_entries (map plain (take (i + 1) keys))
with_next held keys i b apart at absent =
    let before = map plain (take i keys) in
    let new : ¬ (IsHeld (plain b) (held ++ step_entries before)) = λ there.
    append_in (plain b) (axioms_of held) before (subst (λ axioms. Contains axioms (plain b)) (axioms_with held before) there) absent
    (λ later. let k = In-from_map plain (plain b) (take i keys) (In-contains (plain b) before later) in
    not_before keys i b apart at (subst (λ c. In c (take i keys)) (body_of k.0 b k.2) k.1)) in
    add_entry-new (held ++ step_entries before) (plain b) step_origin new
    ∙ append_assoc held (step_entries before) (entry_of (plain b) step_origin ∷ [])
    ∙ ap (λ es. held ++ es) (sym (
    ap (λ ks. step_entries (map plain ks)) (take_at keys i b at)
    ∙ ap step_entries (map-append plain (take i keys) (b ∷ []))
    ∙ map-append (λ a. entry_of a step_origin) before (plain b ∷ [])
    ))

-- ---- all of them

missing_key : (axioms : List Axiom) (keys : List Body) → AreMissing axioms keys → (a : Axiom) → Contains (map plain keys) a → IsMissing axioms a
missing_key axioms keys are a here =
    let k = In-from_map plain a keys (In-contains a (map plain keys) here) in
    let is = wanted_key axioms keys k.0 are k.1 in
    let found = wanted_found axioms k.0 is.0 in
    record {
      class = found.class;
      operand = found.operand;
      implied = found.implied;
      unsaid = λ said. unsaid axioms k.0 is.1 (subst (IsSaid axioms) found.is said);
      is = sym k.2 ∙ ap plain (sym found.is);
    }

key_missing : (axioms : List Axiom) (keys : List Body) → AreMissing axioms keys → (a : Axiom) → IsMissing axioms a → Contains (map plain keys) a
key_missing axioms keys are a one =
    let b = below one.class one.operand in
    let no : not (is_said axioms b) ≡ true = is_not (is_said axioms b) (λ h. one.unsaid (said_found axioms b h)) in
    let has : list_any (same_body b) keys ≡ true = are b ∙ (λ i. found_wanted axioms one.class one.operand one.implied i && no i) in
    Contains-in a (map plain keys) (subst (λ c. In c (map plain keys)) (sym one.is) (In-map plain b keys (keys_in keys b has)))

apart_plain : (x : Body) (keys : List Body) → AllByRecursion (λ y. same_body x y ≡ false) keys → AllByRecursion (λ y. same_axiom (plain x) y ≡ false) (map plain keys)
apart_plain x [] all = tt
apart_plain x (y ∷ keys) all = (and-true (same_body x y) ∙ all.0, apart_plain x keys all.1)

pub distinct_plain : (keys : List Body) → IsDistinct same_body keys → IsDistinct same_axiom (map plain keys)
unfolding IsDistinct
distinct_plain [] apart = tt
distinct_plain (k ∷ keys) apart = (apart_plain k keys apart.0, distinct_plain keys apart.1)

pub relax_of_relaxes : (before : OntologyState) → RelaxOfRelaxes before
relax_of_relaxes before =
    let axioms = axioms_of before.entries in
    let keys = missing_of axioms in
    record {
      added = map plain keys;
      name = refl;
      entries = refl;
      exactly = λ a. (missing_key axioms keys (are_missing axioms) a, key_missing axioms keys (are_missing axioms) a);
      once = distinct_plain keys (still_apart (λ b. not (is_said axioms b)) (each_once (all_implied axioms)) (once_apart (all_implied axioms)));
      counted = refl;
    }

pub length_map : (keys : List Body) → length keys ≡ length (map plain keys)
length_map [] = refl
length_map (k ∷ keys) = ap suc (length_map keys)

-- the plain function by the bodies that are missing
pub relax_by : (before after : OntologyState) (keys : List Body) (count : ℕ) → keys ≡ missing_of (axioms_of before.entries) → count ≡ length keys
    → after ≡ record before { entries = before.entries ++ step_entries (map plain keys) } → relax_of before ≡ (after, count)
relax_by before after keys count are counted is =
    let made : relax_of before ≡ (record before { entries = before.entries ++ step_entries (map plain keys) }, length (map plain keys)) = λ i. (record before { entries = before.entries ++ step_entries (map plain (sym are i)) }, length (map plain (sym are i))) in
    let number = counted ∙ length_map keys in
    made ∙ (λ i. (sym is i, sym number i))

pub relaxes : (before after : OntologyState) (count : ℕ) → relax_of before ≡ (after, count) → Relaxes before after count
relaxes before after count is = subst (λ (made : OntologyState × ℕ). Relaxes before made.0 made.1) is (relax_of_relaxes before)
