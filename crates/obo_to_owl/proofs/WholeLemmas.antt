-- The axioms of all that is added are those of the document.
use Rattle.std.proofs.Common.{◌≡◌, ◌∙◌, ℕ, not, List, [], ◌++◌, Option, Some, map, ⊎_elim, sym, ap, subst}
use Rattle.std.specs.List.{filter_map, flat_map}
use Rattle.std.specs.Option.{option_to_list}
use Rattle.std.specs.Prelude.{filter}
use Rattle.text_sets.specs.Sets.{In, SameMembers}
use Rattle.text_sets.proofs.SetLemmas.{In-append, In-append_left, In-append_right, In-flat_map, In-from_flat_map, In-from_map, In-map, same_trans}
use Rattle.owl_axioms.proofs.Same.{same_axiom-true}
use Rattle.owl_axioms.specs.Proper.{IsProper}
use Rattle.owl_axioms.specs.declared.body.Axiom.{Axiom}
use Rattle.owl_ontology.specs.Ontology.{Entry, OntologyState, axioms_of}
use Rattle.obo_frames.specs.Framed.{Framed}
use Rattle.obo_mapping.specs.Axioms.{axioms_said}
use Rattle.obo_mapping.specs.Documents.{group_said, is_untranslatable, owl, situation_of, space_of, spaced}
use Rattle.obo_mapping.proofs.SpacedLaws.{same_spaced}
use Rattle.obo_statements.specs.Groups.{Group, intersection, union}
use Rattle.obo_to_owl.specs.inner.Adding.{AreAdded, entries_said, entry_at, said_by}
use Rattle.obo_to_owl.specs.inner.Grouping.{AreBothAdded, AreGroupsAdded, AreProperGroups, Seen, seen_axiom, seen_entries}
use Rattle.obo_to_owl.specs.inner.Known.{IsKnown}
use Rattle.obo_to_owl.specs.inner.Left.{is_left}
use Rattle.obo_to_owl.specs.inner.Rows.{AreRead, of_row}
use Rattle.obo_to_owl.specs.inner.Spacing.{spaces_in}
use Rattle.obo_to_owl.specs.declared.rows.Row.{Row}
use Rattle.obo_to_owl.specs.declared.situation.Situation.{Situation}
use Rattle.obo_to_owl.proofs.AddedAxioms.{all_are_there, all_from, all_stay}
use Rattle.obo_to_owl.proofs.PartLemmas.{In-option, alone_said, option-In, said_alone, said_together, together_said}
use Rattle.obo_to_owl.proofs.SpacedLemmas.{defaults_kept, names_kept, spaces_said}

said_at_place : (o : Option Axiom) (file line : ℕ) (e : Entry) → In e (map (λ said. entry_at said file line) (option_to_list o)) → o ≡ Some e.axiom
said_at_place o file line e here = let said = In-from_map (λ said. entry_at said file line) e (option_to_list o) here in In-option e.axiom o (subst (λ a. In a (option_to_list o)) (ap (λ (e : Entry). e.axiom) said.2) said.1)

pub placed_said : (o : Option Axiom) (file line : ℕ) (said : Axiom) → o ≡ Some said → In (entry_at said file line) (map (λ said. entry_at said file line) (option_to_list o))
placed_said o file line said is = In-map (λ said. entry_at said file line) said (option_to_list o) (option-In said o is)

entry_axiom : (e : Entry) (entries : List Entry) → In e entries → In e.axiom (axioms_of entries)
entry_axiom e entries here = In-map (λ (e : Entry). e.axiom) e entries here

module _ (rows : List Row) (s : Situation) (known : IsKnown rows s) (read : AreRead (space_of (map of_row rows)) rows) (file : ℕ) where
  abbrev d : List Framed
  d = map of_row rows

  abbrev space : List ℕ
  space = space_of (map of_row rows)

  abbrev translated : List Row
  translated = filter (λ row. not (is_left s row)) rows

  abbrev clauses : List Framed
  clauses = filter (λ one. not (is_untranslatable (map of_row rows) one)) (map of_row rows)

  abbrev pub alone : List Axiom
  alone = flat_map (axioms_said (situation_of (map of_row rows))) clauses

  abbrev pub together : List Axiom
  together = filter_map (group_said (situation_of (map of_row rows)) (map of_row rows)) clauses

  abbrev plain : List Entry
  plain = flat_map (entries_said space file s) translated

  -- what is said by a clause, and by a group, is an axiom of the document
  pub clause_in_owl : (a : Axiom) → In a (alone ++ together) → In a (owl d)
  unfolding owl spaced
  clause_in_owl a here = In-append_left a (alone ++ together) _ here

  pub clauses_proper : ((said : Axiom) → In said (owl d) → IsProper said) → (row : Row) (said : Axiom) → In row translated → said_by space s row ≡ Some said → IsProper said
  clauses_proper proper row said here is = proper said (clause_in_owl said (In-append_left said alone together (said_alone rows s known read row said here is)))

  pub groups_proper : ((said : Axiom) → In said (owl d) → IsProper said) → (group : Group) → AreProperGroups space group translated
  groups_proper proper group x held said is says = proper said (clause_in_owl said (In-append_right said alone together (said_together rows s known read group x held said is says)))

  -- ---- which axioms are there

  plain_said : (a : Axiom) → In a (axioms_of plain) → In a (alone ++ together)
  plain_said a here =
      let e = In-from_map (λ (e : Entry). e.axiom) a plain here in
      let row = In-from_flat_map (entries_said space file s) e.0 translated e.1 in
      In-append_left a alone together (said_alone rows s known read row.0 a row.1 (said_at_place (said_by space s row.0) file row.0.placed.now.line e.0 row.2 ∙ ap Some e.2))

  groups_said : (group : Group) (before after : OntologyState) (more : AreGroupsAdded space file group translated before after) (a : Axiom) → In a (axioms_of more.added) → In a (alone ++ together)
  groups_said group before after more a here =
      let e = In-from_map (λ (e : Entry). e.axiom) a more.added here in
      let from = more.each e.0 e.1 in
      In-append_right a alone together (said_together rows s known read group from.0 from.1 a from.2 (said_at_place (seen_axiom space group from.0 from.1) file from.1.0 e.0 from.3 ∙ ap Some e.2))

  said_plain : (a : Axiom) → In a alone → In a (axioms_of plain)
  said_plain a here =
      let row = alone_said rows s known read a here in
      entry_axiom (entry_at a file row.0.placed.now.line) plain
      (In-flat_map (entries_said space file s) (entry_at a file row.0.placed.now.line) translated row.0 row.1 (placed_said (said_by space s row.0) file row.0.placed.now.line a row.2))

  module _ (start plainly grouped end : OntologyState) (one : AreAdded start plainly plain) (two : AreBothAdded space file translated plainly grouped) where
    added_group : (group : Group) (held : Seen) (x : List ℕ) (a : Axiom) → Rattle.obo_to_owl.specs.inner.Grouping.gather_all (Rattle.obo_to_owl.specs.inner.Grouping.group_rows group x translated) ≡ Some held → seen_axiom space group x held ≡ Some a → In a (axioms_of grouped.entries)
    added_group intersection held x a is says =
        subst (λ es. In a (axioms_of es)) (sym two.second.are.entries)
        (all_stay same_axiom-true a two.second.added two.between.entries
        (subst (λ es. In a (axioms_of es)) (sym two.first.are.entries)
        (all_are_there same_axiom-true a two.first.added plainly.entries
        (entry_axiom (entry_at a file held.0) two.first.added (two.first.all x held (entry_at a file held.0) is (placed_said (seen_axiom space intersection x held) file held.0 a says))))))
    added_group union held x a is says =
        subst (λ es. In a (axioms_of es)) (sym two.second.are.entries)
        (all_are_there same_axiom-true a two.second.added two.between.entries
        (entry_axiom (entry_at a file held.0) two.second.added (two.second.all x held (entry_at a file held.0) is (placed_said (seen_axiom space union x held) file held.0 a says))))

    pub grouped_same : start.entries ≡ [] → SameMembers (axioms_of grouped.entries) (alone ++ together)
    grouped_same empty a = (
      (λ here.
          ⊎_elim
          (λ new. groups_said union two.between grouped two.second a new)
          (λ old. ⊎_elim
          (λ new. groups_said intersection plainly two.between two.first a new)
          (λ old. ⊎_elim
          (λ new. plain_said a new)
          (λ none. absurd (subst (λ es. In a (axioms_of es)) empty none))
          (all_from same_axiom-true a plain start.entries (subst (λ es. In a (axioms_of es)) one.entries old)))
          (all_from same_axiom-true a two.first.added plainly.entries (subst (λ es. In a (axioms_of es)) two.first.are.entries old)))
          (all_from same_axiom-true a two.second.added two.between.entries (subst (λ es. In a (axioms_of es)) two.second.are.entries here))),
      (λ here.
          ⊎_elim
          (λ (by : In a alone). subst (λ es. In a (axioms_of es)) (sym two.second.are.entries) (all_stay same_axiom-true a two.second.added two.between.entries
          (subst (λ es. In a (axioms_of es)) (sym two.first.are.entries) (all_stay same_axiom-true a two.first.added plainly.entries
          (subst (λ es. In a (axioms_of es)) (sym one.entries) (all_are_there same_axiom-true a plain start.entries (said_plain a by)))))))
          (λ (by : In a together). let group = (together_said rows s known read a by).1 in added_group group.group group.held group.iri a group.gathered group.says)
          (In-append a alone together here)),
    )

    -- and all with their namespaces
    pub all_same : start.entries ≡ [] → AreAdded grouped end (spaces_in file s rows (filter (is_left s) rows) (axioms_of grouped.entries)) → SameMembers (axioms_of end.entries) (owl d)
    unfolding owl spaced
    all_same empty three =
        let held = axioms_of grouped.entries in
        let new = spaces_in file s rows (filter (is_left s) rows) held in
        let names = names_kept rows s known read in
        let texts = defaults_kept rows s known read in
        let same : SameMembers (axioms_of end.entries) (held ++ axioms_of new) = λ a. (
          (λ here. ⊎_elim (λ added. In-append_right a held (axioms_of new) added) (λ old. In-append_left a held (axioms_of new) old) (all_from same_axiom-true a new grouped.entries (subst (λ es. In a (axioms_of es)) three.entries here))),
          (λ here. subst (λ es. In a (axioms_of es)) (sym three.entries) (⊎_elim (λ old. all_stay same_axiom-true a new grouped.entries old) (λ added. all_are_there same_axiom-true a new grouped.entries added) (In-append a held (axioms_of new) here))),
        ) in
        same_trans (axioms_of end.entries) (spaced names texts held) (owl d)
        (subst (λ more. SameMembers (axioms_of end.entries) (held ++ more)) (spaces_said rows s known read file held) same)
        (same_spaced names names texts texts held (alone ++ together) (λ n. (λ h. h, λ h. h)) (λ n. (λ h. h, λ h. h)) (grouped_same empty))
