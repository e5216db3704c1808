-- The document of an ontology says its axioms.
use Rattle.std.proofs.Common.{◌≡◌, ℕ, true, false, not, ◌&&◌, List, [], ◌++◌, codes, map, Option, None, Some, ⊎_elim, refl, sym, ap, subst, ◌∙◌}
use Rattle.std.specs.List.{filter_map, list_all}
use Rattle.std.specs.Option.{option_to_list}
use Rattle.std.specs.Str.{bytes_eq}
use Rattle.std.proofs.lemmas.Bool.{and_parts, both_ways}
use Rattle.text_sets.proofs.SortedLemmas.{same_sorted}
use Rattle.text_sets.proofs.SetLemmas.{In-append, In-from_filter, In-from_filter_map, In-from_map, same_trans}
use Rattle.text_sets.specs.Sets.{In, SameMembers}
use Rattle.owl_axioms.specs.Proper.{are_proper_sides, is_proper, is_proper_body, is_proper_side, rises}
use Rattle.owl_axioms.specs.Text.{side_text}
use Rattle.owl_axioms.specs.declared.body.Axiom.{Axiom}
use Rattle.text_sets.specs.Sorted.{Rises, sorted_by, sorted_on}
use Rattle.obo_frames.specs.Framed.{Framed}
use Rattle.obo_mapping.specs.Back.{AxiomsReadBack, IsSpellable, IsTold, SaysAgain, back, writing_of}
use Rattle.obo_notes.specs.Context.{reading_in, writing_in}
use Rattle.obo_mapping.specs.Documents.{clauses_for, declared_in, has_tag, header_with, is_raw, is_untranslatable, kept_with, name_of, owl, spaced, spelled}
use Rattle.obo_notes.specs.Forms.{first_part}
use Rattle.obo_notes.proofs.ContextLemmas.{Agree-in}
use Rattle.obo_mapping.proofs.DocumentLaw as law
use Rattle.obo_statements.proofs.GroupLaws.{Rises-from_test}
use Rattle.obo_notes.proofs.PartCovers.{some_value}
use Rattle.obo_mapping.proofs.SpacedLaws.{same_spaced}
use Rattle.obo_mapping.proofs.SpelledLaw.{spelled_translated}
use Rattle.obo_mapping.proofs.SpelledShapes.{IsFormed}

pub sides_rise : (a : Axiom) → is_proper a ≡ true → (is_proper_body a.body ≡ true) × Rises side_text a.sides
unfolding is_proper are_proper_sides
sides_rise a is =
    let parts = and_parts (is_proper_body a.body) (rises (map side_text a.sides) && list_all is_proper_side a.sides) is in
    (parts.0, Rises-from_test side_text a.sides (and_parts (rises (map side_text a.sides)) (list_all is_proper_side a.sides) parts.1).0)

-- no name, or one
pub one_space : (name : Option (List ℕ)) → first_part (sorted_by (λ (t : List ℕ). t) (option_to_list name)) ≡ name
unfolding sorted_on
one_space None = refl
one_space (Some name) = refl

nothing : {X : Type 0} (xs : List X) → ((x : X) → In x xs → ⊥) → SameMembers xs []
nothing xs none x = ((λ here. none x here), (λ here. absurd here))

module _ (name : Option (List ℕ)) (O : List Axiom) (is : IsSpellable name O) (told : IsTold (writing_of name) O) where
  abbrev pub names : List (List ℕ)
  names = option_to_list name

  pub w_is : law.w names [] O ≡ writing_of name
  w_is = ap (λ n. writing_of n) (one_space name)

  -- the facts of the law, in the writing of the name
  formed_at : (s : List ℕ) → s ≡ Rattle.iri_map.specs.Ontology.name_or_temp name → (a : Axiom) → In a O → IsFormed (reading_in s) (writing_in s) (Agree-in s) (filter_map declared_in O) a
  formed_at s same a here =
      let clauses = some_value (clauses_for (writing_in s) (filter_map declared_in O) a) (subst (λ t. Rattle.std.specs.Option.IsSome (clauses_for (writing_in t) (filter_map declared_in O) a)) (sym same) (is.formed a here)) in
      let proper = sides_rise a (is.proper a here) in
      record { clauses = clauses.0; spelled = clauses.1; proper = λ _. proper.0; rises = proper.1 }

  pub spellable : law.IsSpellable names [] O
  spellable = record {
    normal = is.normal;
    formed = formed_at (law.space names [] O) (ap Rattle.iri_map.specs.Ontology.name_or_temp (one_space name));
    apart = told.names;
    once = λ x group a b some others here there one other. told.groups x group a b some others here there (ap (λ w. Rattle.obo_statements.specs.Groups.group_spelling w x group a) (sym w_is) ∙ one) (ap (λ w. Rattle.obo_statements.specs.Groups.group_spelling w x group b) (sym w_is) ∙ other);
  }

  pub nameless : law.IsNameless names [] O
  nameless = record { ontology = λ f here. absurd here; metadata = λ f here. absurd here }

  pub silent : law.IsSilent names [] O spellable nameless
  silent = record { silent = λ f here. absurd here; apart = λ f group a clauses here. absurd here }

  nothing_kept : (tag : List ℕ) → bytes_eq (codes "format-version") tag ≡ false → bytes_eq (codes "ontology") tag ≡ false → (f : Framed) → In f (kept_with (law.D names [] O) tag) → ⊥
  nothing_kept tag no_format no_name f here =
      let D = law.D names [] O in
      let found = In-from_filter (λ (one : Framed). has_tag tag one && not (is_raw one.clause.value) && is_untranslatable D one) f D here in
      let outer = and_parts (has_tag tag f && not (is_raw f.clause.value)) (is_untranslatable D f) found.1 in
      let tagged = (and_parts (has_tag tag f) (not (is_raw f.clause.value)) outer.0).0 in
      ⊎_elim
      (λ head. ⊎_elim
      (λ format. both_ways (has_tag tag f) (ap (has_tag tag) (sym format) ∙ no_format) tagged)
      (λ more. let n = In-from_map law.name_clause f names more in both_ways (has_tag tag f) (ap (has_tag tag) (sym n.2) ∙ no_name) tagged)
      head)
      (λ spelled_here. both_ways (is_untranslatable D f) (spelled_translated D (law.w names [] O) O (law.agrees names [] O spellable nameless) (law.knows names [] O spellable nameless) (law.spelled_in names [] O spellable nameless silent) f spelled_here) outer.1)
      (In-append f (header_with names) (spelled (law.w names [] O) O) found.0)

  says : SaysAgain name O
  unfolding back
  says =
      let D = law.D names [] O in
      let for = law.spaces_kept names [] O spellable nameless silent in
      let kept = law.defaults_kept names [] O spellable nameless silent in
      let none_for = nothing for (λ x here. let f = In-from_filter_map _ x (kept_with D (codes "namespace")) here in nothing_kept (codes "namespace") refl refl f.0 f.1) in
      let none_kept = nothing kept (λ x here. let f = In-from_filter_map _ x (kept_with D (codes "default-namespace")) here in nothing_kept (codes "default-namespace") refl refl f.0 f.1) in
      let both = subst (λ w. (name_of (header_with names ++ spelled w O) ≡ name) × SameMembers (owl (header_with names ++ spelled w O)) (spaced [] [] O)) w_is (
        ap first_part (same_sorted _ names (law.same_names names [] O spellable nameless)) ∙ one_space name,
        same_trans (owl D) (spaced for kept O) (spaced [] [] O) (law.says_spaced names [] O spellable nameless silent) (same_spaced for [] kept [] O O none_for none_kept (λ a. ((λ h. h), (λ h. h)))),
      )
      in record { same_name = both.0; says = both.1 }

pub axioms_read_back : AxiomsReadBack
axioms_read_back name O is told = says name O is told
