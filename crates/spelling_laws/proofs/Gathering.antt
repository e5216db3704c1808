-- What can be written goes by the set of the axioms, and two ontologies that can be written can be written as one.
use Rattle.std.proofs.Common.{◌≡◌, ℕ, true, not, List, ◌++◌, Option, Some, inl, inr, ⊎_elim, refl, sym, subst}
use Rattle.std.specs.List.{filter_map}
use Rattle.std.specs.Option.{IsSome}
use Rattle.iri_map.specs.Ontology.{name_or_temp}
use Rattle.owl_axioms.specs.declared.body.Axiom.{Axiom}
use Rattle.owl_axioms.specs.declared.name.Name.{Name}
use Rattle.text_sets.specs.Sets.{In}
use Rattle.text_sets.proofs.SetLemmas.{In-append, In-append_left, In-append_right, In-filter, In-filter_map, In-from_filter, In-from_filter_map}
use Rattle.obo_statements.specs.Anchors.{anchors}
use Rattle.obo_mapping.specs.Back.{writing_of}
use Rattle.obo_mapping.specs.Documents.{clauses_for, declared_in}
use Rattle.obo_mapping.proofs.SpelledLaw.{declared_among, declared_name, is_declared_from}
use Rattle.spelling_laws.specs.Laws.{GatheringKeepsSpelling, IdsGoByNoName, MergingKeepsSpelling, PartKeepsSpelling, SpellableIsOfSet, is_ontology_note, without_ontology_notes}
use Rattle.spelling_laws.proofs.Forms.{clauses_move}
use Rattle.spelling_laws.proofs.SameIds.{WriteAlike, id_moves, write_alike}

pub ids_go_by_no_name : IdsGoByNoName
ids_go_by_no_name iri one other some = id_moves one other iri some

pub names_alike : (name other : Option (List ℕ)) → WriteAlike (writing_of name) (writing_of other)
names_alike name other = write_alike (name_or_temp name) (name_or_temp other)

-- an axiom has a form under another name, where its anchors stay declared
pub form_moves : (name other : Option (List ℕ)) (some more : List Axiom) (one : Axiom) → ((entity : Name) → In entity (anchors one.body) → In entity (filter_map declared_in some) → In entity (filter_map declared_in more))
    → IsSome (clauses_for (writing_of name) (filter_map declared_in some) one) → IsSome (clauses_for (writing_of other) (filter_map declared_in more) one)
form_moves name other some more one stay formed =
    clauses_move (writing_of name) (writing_of other) (names_alike name other) (filter_map declared_in some) (filter_map declared_in more) one
    (λ entity among is. is_declared_from (filter_map declared_in more) entity (stay entity among (declared_among (filter_map declared_in some) entity is))) formed

pub declared_grows : (some more : List Axiom) → ((one : Axiom) → In one some → In one more) → (entity : Name) → In entity (filter_map declared_in some) → In entity (filter_map declared_in more)
declared_grows some more each entity here =
    let a = In-from_filter_map declared_in entity some here in
    In-filter_map declared_in entity more a.0 (each a.0 a.1) a.2

pub gathering_keeps_spelling : GatheringKeepsSpelling
gathering_keeps_spelling name other some others gathered first second is = record {
  normal = first.normal;
  proper = λ one here. ⊎_elim (first.proper one) (second.proper one) (is.each one here);
  formed = λ one here. ⊎_elim
      (λ of. form_moves name name some gathered one (λ entity among known. is.declared entity (declared_grows some (some ++ others) (λ a. In-append_left a some others) entity known)) (first.formed one of))
      (λ of. form_moves other name others gathered one (λ entity among known. is.declared entity (declared_grows others (some ++ others) (λ a. In-append_right a some others) entity known)) (second.formed one of))
      (is.each one here);
}

pub part_keeps_spelling : PartKeepsSpelling
part_keeps_spelling name axioms part spellable is = record {
  normal = spellable.normal;
  proper = λ one here. spellable.proper one (is.each one here);
  formed = λ one here. form_moves name name axioms part one (λ entity among known. is.declared one entity here among known) (spellable.formed one (is.each one here));
}

pub spellable_is_of_set : SpellableIsOfSet
spellable_is_of_set name axioms others same spellable =
    gathering_keeps_spelling name name axioms axioms others spellable spellable (record {
      each = λ one here. inl ((same one).0 here);
      declared = λ entity known. declared_grows (axioms ++ axioms) others (λ a here. (same a).1 (⊎_elim (λ x. x) (λ x. x) (In-append a axioms axioms here))) entity known;
    })

pub merging_keeps_spelling : MergingKeepsSpelling
merging_keeps_spelling name other some others merged first second same =
    gathering_keeps_spelling name other some others merged first second (record {
      each = λ one here. ⊎_elim (λ of. inl of) (λ of. inr (In-from_filter (λ a. not (is_ontology_note a)) one others of).0) (In-append one some (without_ontology_notes others) ((same one).0 here));
      declared = λ entity known.
          let a = In-from_filter_map declared_in entity (some ++ others) known in
          let there : In a.0 merged = ⊎_elim
          (λ of. (same a.0).1 (In-append_left a.0 some (without_ontology_notes others) of))
          (λ of. (same a.0).1 (In-append_right a.0 some (without_ontology_notes others) (In-filter (λ x. not (is_ontology_note x)) a.0 others of (declares a.0 entity a.2))))
          (In-append a.0 some others a.1) in
          In-filter_map declared_in entity merged a.0 there a.2;
    })
  where
    declares : (one : Axiom) (entity : Name) → declared_in one ≡ Some entity → not (is_ontology_note one) ≡ true
    declares one entity is =
        let said = declared_name one entity is in
        subst (λ b. not (is_ontology_note (record { body = b; sides = one.sides })) ≡ true) (sym said) refl
