-- An ontology that can be written as a document can be written with one file more.
use Rattle.std.proofs.Common.{◌≡◌, ℕ, true, not, List, [], ◌++◌, None, ⊎_elim, sym, subst}
use Rattle.text_sets.specs.Sets.{In, SameMembers}
use Rattle.text_sets.proofs.SetLemmas.{In-append, In-append_left, In-append_right, In-filter, In-from_contains, In-from_filter, In-from_map, In-map, contains-from_In}
use Rattle.owl_axioms.specs.declared.body.Axiom.{Axiom}
use Rattle.owl_ontology.specs.Ontology.{Entry, OntologyState, add_entries, axioms_of}
use Rattle.owl_ontology.proofs.Held.{all_added_is_held, all_held_or_added, all_held_stays}
use Rattle.obo_frames.specs.Soundness.{IsSound}
use Rattle.obo_frames.specs.declared.placed.Placed.{Placed}
use Rattle.obo_mapping.specs.Back.{IsSpellable}
use Rattle.spelling_laws.specs.Laws.{is_ontology_note, without_ontology_notes}
use Rattle.spelling_laws.proofs.Gathering.{merging_keeps_spelling}
use Rattle.spelling_laws.proofs.Reading.{read_can_be_written}
use Rattle.import_merge.specs.inner.Joining.{KeepsSpelling, moved, with_moved}
use Rattle.import_merge.proofs.MoveLemmas.{IsOf, in_moved, moved_in}

-- nothing can be written
pub none_spellable : IsSpellable None []
none_spellable = record {
  normal = λ value here. absurd here;
  proper = λ one here. absurd here;
  formed = λ one here. absurd here;
}

-- ---- what is held when axioms are moved

held_then : (old said : List Entry) (a : Axiom) → In a (axioms_of (add_entries old (moved said))) → In a (axioms_of old ++ without_ontology_notes (axioms_of said))
held_then old said a here =
    ⊎_elim
    (λ before. In-append_left a (axioms_of old) (without_ontology_notes (axioms_of said)) (In-from_contains a (axioms_of old) before))
    (λ added.
    let f = In-from_map (λ (x : Entry). x.axiom) a (moved said) (In-from_contains a (axioms_of (moved said)) added) in
    let there = in_moved f.0 said f.1 in
    In-append_right a (axioms_of old) (without_ontology_notes (axioms_of said))
    (In-filter (λ one. not (is_ontology_note one)) a (axioms_of said)
    (subst (λ x. In x (axioms_of said)) f.2 (In-map (λ (x : Entry). x.axiom) f.0 said there.0))
    (subst (λ x. not (is_ontology_note x) ≡ true) f.2 there.1)))
    (all_held_or_added old (moved said) a (contains-from_In a (axioms_of (add_entries old (moved said))) here))

held_before : (old said : List Entry) (a : Axiom) → In a (axioms_of old ++ without_ontology_notes (axioms_of said)) → In a (axioms_of (add_entries old (moved said)))
held_before old said a here = In-from_contains a (axioms_of (add_entries old (moved said)))
    (⊎_elim
    (λ before. all_held_stays old (moved said) a (contains-from_In a (axioms_of old) before))
    (λ of.
    let parts = In-from_filter (λ one. not (is_ontology_note one)) a (axioms_of said) of in
    let f = In-from_map (λ (x : Entry). x.axiom) a said parts.0 in
    let there = moved_in f.0 said f.1 (subst (λ x. not (is_ontology_note x) ≡ true) (sym f.2) parts.1) in
    all_added_is_held old (moved said) a (contains-from_In a (axioms_of (moved said))
    (subst (λ x. In x (axioms_of (moved said))) f.2 (In-map (λ (x : Entry). x.axiom) f.0 (moved said) there))))
    (In-append a (axioms_of old) (without_ontology_notes (axioms_of said)) here))

moved_axioms : (old said : List Entry) → SameMembers (axioms_of (add_entries old (moved said))) (axioms_of old ++ without_ontology_notes (axioms_of said))
moved_axioms old said a = (held_then old said a, held_before old said a)

-- ---- one file more

-- the ontology of a document can be written
pub said_spellable : (place : ℕ) (document : List Placed) (said : OntologyState) → IsSound document → IsOf place document said → IsSpellable said.name (axioms_of said.entries)
said_spellable place document said sound of = read_can_be_written document said.name (axioms_of said.entries) sound (record { name = of.name; says = of.same })

pub moving_keeps_spelling : (old said : OntologyState) → IsSpellable said.name (axioms_of said.entries) → KeepsSpelling old (with_moved old said.entries)
moving_keeps_spelling old said can before =
    merging_keeps_spelling old.name said.name (axioms_of old.entries) (axioms_of said.entries) (axioms_of (add_entries old.entries (moved said.entries)))
    before can (moved_axioms old.entries said.entries)
