-- The document of an ontology is in normal form but for default namespaces.
use Rattle.std.proofs.Common.{map, ◌∷◌, ◌≡◌, ℕ, Bool, true, false, not, ◌&&◌, ◌||◌, List, [], ◌++◌, codes, Option, None, inl, inr, ⊎_elim, refl, sym, ap, subst, ◌∙◌}
use Rattle.std.specs.List.{filter, filter_map, flat_map, list_any}
use Rattle.std.specs.Option.{option_to_list}
use Rattle.std.proofs.lemmas.Bool.{and_parts, both_ways, false_from_ne_true, not-true, or_cases}
use Rattle.iri_map.proofs.CandidateLemmas.{bytes_eq-refl}
use Rattle.text_sets.specs.Sets.{In, SameMembers}
use Rattle.text_sets.specs.Sorted.{sorted_by}
use Rattle.text_sets.proofs.SetLemmas.{In-append, In-append_left, In-from_filter, In-from_map, same_append, same_map, same_refl, same_sym, same_trans}
use Rattle.owl_axioms.specs.declared.body.Axiom.{Axiom}
use Rattle.owl_axioms.specs.declared.name.Kind.{Kind}
use Rattle.owl_axioms.specs.declared.name.Kind.TheVariants as kinds
use Rattle.owl_axioms.specs.declared.name.Name.{Name}
use Rattle.obo_frames.specs.Framed.{Framed, unlined}
use Rattle.obo_frames.specs.declared.placed.Placed.{Placed}
use Rattle.obo_notes.specs.Context.{writing_in}
use Rattle.obo_notes.specs.Forms.{first_part}
use Rattle.obo_mapping.specs.Axioms.{same_kind}
use Rattle.obo_mapping.specs.Back.{IsSpellable, IsTold, back, writing_of}
use Rattle.obo_mapping.specs.Documents.{as_kept, has_tag, header_with, is_header, is_import, is_namespace, is_raw, is_said_elsewhere, is_untranslatable, kept, names_in, norm, owl, same_name, situation_of, space_of, spaced, spelled}
use Rattle.obo_mapping.proofs.BackLaw as backs
use Rattle.obo_mapping.proofs.DocumentLaw as law
use Rattle.obo_mapping.proofs.OfSet.{any_from_in, spelled_of_set}
use Rattle.obo_mapping.proofs.SpacedLaws.{IsAdded, added, default_of, is_added}
use Rattle.obo_mapping.proofs.SpelledLaw.{spelled_translated}
use Rattle.owl_to_obo.proofs.BackSound as sound
use Rattle.obo_writer.specs.Laws.{BackIsNormal, NoneLacksSpace, SpacedBackIsNormal}

-- ---- nothing of the document is kept

-- a clause is kept
abbrev keeps : List Framed → Framed → Bool
keeps d one = (is_import one || is_untranslatable d one) && not (is_said_elsewhere one)

never_kept : (d : List Framed) (f : Framed) → is_import f ≡ false → is_untranslatable d f ≡ false → keeps d f ≡ true → ⊥
never_kept d f no_import translated is =
    ⊎_elim
    (λ import. both_ways (is_import f) no_import import)
    (λ untranslatable. both_ways (is_untranslatable d f) translated untranslatable)
    (or_cases (is_import f) (is_untranslatable d f) (and_parts (is_import f || is_untranslatable d f) (not (is_said_elsewhere f)) is).0)

said_elsewhere : (d : List Framed) (f : Framed) → is_said_elsewhere f ≡ true → keeps d f ≡ true → ⊥
said_elsewhere d f said is =
    both_ways (is_said_elsewhere f) (not-true (is_said_elsewhere f) (and_parts (is_import f || is_untranslatable d f) (not (is_said_elsewhere f)) is).1) said

no_import_tag : (f : Framed) → has_tag (codes "import") f ≡ false → is_import f ≡ false
no_import_tag f isnt =
    false_from_ne_true (is_import f) (λ import.
    let outer = and_parts (is_header f && has_tag (codes "import") f) (not (is_raw f.clause.value)) import in
    both_ways (has_tag (codes "import") f) isnt (and_parts (is_header f) (has_tag (codes "import") f) outer.0).1)

same_header : (some others : List (List ℕ)) → SameMembers some others → SameMembers (header_with some) (header_with others)
same_header some others same f =
    let each = same_map law.name_clause some others same f in (
      (λ here. ⊎_elim (λ first. inl first) (λ later. inr (each.0 later)) here),
      (λ here. ⊎_elim (λ first. inl first) (λ later. inr (each.1 later)) here),
    )

module _ (name : Option (List ℕ)) (O : List Axiom) (is : IsSpellable name O) (told : IsTold (writing_of name) O) where
  abbrev names : List (List ℕ)
  names = option_to_list name

  abbrev D : List Framed
  D = law.D names [] O

  abbrev spellable : law.IsSpellable names [] O
  spellable = backs.spellable name O is told

  abbrev nameless : law.IsNameless names [] O
  nameless = backs.nameless name O is told

  abbrev silent : law.IsSilent names [] O spellable nameless
  silent = backs.silent name O is told

  no_import : (f : Framed) → In f (spelled (law.w names [] O) O) → is_import f ≡ false
  no_import f here =
      ⊎_elim
      (λ plain. no_import_tag f plain.import)
      (λ meta. subst (λ (g : Framed). is_import g ≡ false) meta.1.same refl)
      (law.spelled_tag names [] O spellable nameless f here)

  none_kept : (f : Framed) → In f D → keeps D f ≡ true → ⊥
  none_kept f here kept_too =
      ⊎_elim
      (λ head. ⊎_elim
      (λ format. said_elsewhere D f (ap is_said_elsewhere format) kept_too)
      (λ one. said_elsewhere D f (sym (ap is_said_elsewhere one.2)) kept_too)
      (law.from_header names [] O spellable nameless f head))
      (λ among. never_kept D f (no_import f among)
      (spelled_translated D (law.w names [] O) O (law.agrees names [] O spellable nameless) (law.knows names [] O spellable nameless) (law.spelled_in names [] O spellable nameless silent) f among) kept_too)
      (In-append f (header_with names) (spelled (law.w names [] O) O) here)

  nothing_kept : SameMembers (kept D) []
  unfolding kept
  nothing_kept f = (
    (λ here.
        let one = In-from_map (as_kept (situation_of D) (writing_in (space_of D))) f (filter (keeps D) D) here in
        let found = In-from_filter (keeps D) one.0 D one.1 in
        none_kept one.0 found.0 found.1),
    (λ here. absurd here),
  )

  -- ---- the rest stands for the axioms

  says_spaced : SameMembers (owl D) (spaced [] [] O)
  says_spaced = subst (λ d. SameMembers (owl d) (spaced [] [] O)) (sym (sound.back_is name O is told)) (backs.axioms_read_back name O is told).says

  same_spelled : SameMembers (spelled (writing_in (space_of D)) (owl D)) (spelled (writing_of name) (spaced [] [] O))
  same_spelled =
      let v = writing_of name in
      subst (λ u. SameMembers (spelled u (owl D)) (spelled v (spaced [] [] O))) (sym (ap writing_in (law.space_is names [] O spellable nameless) ∙ backs.w_is name O is told))
      (spelled_of_set v (owl D) (spaced [] [] O) says_spaced)

  document_normal : SameMembers (norm D) (header_with names ++ spelled (writing_of name) (spaced [] [] O))
  unfolding norm
  document_normal =
      let own = spelled (writing_in (space_of D)) (owl D) in
      let all = spelled (writing_of name) (spaced [] [] O) in
      same_append (header_with (names_in D)) (kept D ++ own) (header_with names) all (same_header (names_in D) names (law.same_names names [] O spellable nameless)) (same_append (kept D) own [] all nothing_kept same_spelled)

  pub normal : SameMembers (norm (back name O)) (back name (spaced [] [] O))
  unfolding back
  normal = subst (λ d. SameMembers (norm d) (header_with names ++ spelled (writing_of name) (spaced [] [] O))) (sound.back_is name O is told) document_normal

pub back_is_normal : BackIsNormal
back_is_normal name axioms is told = normal name axioms is told

-- ---- where no frame lacks a namespace

same_kind-refl : (kind : Kind) → same_kind kind kind ≡ true
same_kind-refl kinds.Class = refl
same_kind-refl kinds.Role = refl
same_kind-refl kinds.Individual = refl
same_kind-refl kinds.AnnotationProperty = refl

same_name-refl : (name : Name) → same_name name name ≡ true
same_name-refl name = λ i. same_kind-refl name.kind i && bytes_eq-refl name.iri i

none_added : (axioms : List Axiom) (a : Axiom) → NoneLacksSpace axioms → IsAdded (filter_map is_namespace axioms) axioms (default_of [] axioms) a → ⊥
none_added axioms a (inl none) is =
    let default : default_of [] axioms ≡ None = ap (λ texts. first_part (sorted_by (λ (t : List ℕ). t) texts)) none ∙ backs.one_space None in
    subst (λ (o : Option (List ℕ)). In is.text (option_to_list o)) default is.is_default
none_added axioms a (inr each) is =
    let have = filter_map is_namespace axioms in
    both_ways (list_any (same_name is.name) have) (not-true (list_any (same_name is.name) have) is.lacking)
    (any_from_in (same_name is.name) have is.name (each is.name is.declared) (same_name-refl is.name))

nothing_spaced : (axioms : List Axiom) → NoneLacksSpace axioms → SameMembers (spaced [] [] axioms) axioms
unfolding spaced
nothing_spaced axioms lacking x =
    let have = filter_map is_namespace axioms in
    let more = flat_map (added have axioms) (option_to_list (default_of [] axioms)) in (
      (λ here. ⊎_elim (λ old. old) (λ new. absurd (none_added axioms x lacking (is_added have axioms (default_of [] axioms) x new))) (In-append x axioms more here)),
      (λ here. In-append_left x axioms more here),
    )

same_back : (name : Option (List ℕ)) (some others : List Axiom) → SameMembers some others → SameMembers (back name some) (back name others)
unfolding back
same_back name some others same =
    let header = header_with (option_to_list name) in
    same_append header (spelled (writing_of name) some) header (spelled (writing_of name) others) (same_refl header) (spelled_of_set (writing_of name) some others same)

pub spaced_back_is_normal : SpacedBackIsNormal
spaced_back_is_normal name axioms is told lacking =
    same_trans (norm (back name axioms)) (back name (spaced [] [] axioms)) (back name axioms) (normal name axioms is told) (same_back name (spaced [] [] axioms) axioms (nothing_spaced axioms lacking))

-- ---- what is written

map_join : (f : Placed → Framed) (some others : List Placed) → map f (some ++ others) ≡ map f some ++ map f others
map_join f [] others = refl
map_join f (one ∷ some) others = ap (λ more. f one ∷ more) (map_join f some others)

-- the document with the clauses of the missing namespaces is its normal form
pub joined_normal : (name : Option (List ℕ)) (axioms : List Axiom) (placed more : List Placed) → IsSpellable name axioms → IsTold (writing_of name) axioms → map unlined placed ≡ back name axioms
    → SameMembers (back name axioms ++ map unlined more) (back name (spaced [] [] axioms)) → SameMembers (map unlined (placed ++ more)) (norm (map unlined placed))
joined_normal name axioms placed more is told same whole =
    let n = back name (spaced [] [] axioms) in
    subst (λ d. SameMembers (map unlined (placed ++ more)) (norm d)) (sym same)
    (same_trans (map unlined (placed ++ more)) n (norm (back name axioms))
    (subst (λ d. SameMembers d n) (sym (map_join unlined placed more ∙ ap (λ d. d ++ map unlined more) same)) whole)
    (same_sym (norm (back name axioms)) n (normal name axioms is told)))
