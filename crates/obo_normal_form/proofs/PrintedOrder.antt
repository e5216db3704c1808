-- The lists in the clauses of a normal form stand in the order of what is printed of them.
use Rattle.std.proofs.Common.{◌≡◌, ℕ, Bool, List, [], ◌++◌, map, inl, inr, ⊎_elim, sym, subst}
use Rattle.std.specs.List.{filter_map}
use Rattle.clause_printer.specs.Printing.{qualifier_text, xref_text}
use Rattle.obo_tags.specs.declared.kind.FrameKind.{FrameKind}
use Rattle.obo_tags.specs.declared.kind.ValueShape.{ValueShape}
use Rattle.obo_tags.specs.declared.kind.ValueShape.TheVariants as shapes
use Rattle.obo_clause.specs.Fits.{FitBehind, Fits, FitsShape}
use Rattle.obo_clause.specs.Spelling.{shape_at}
use Rattle.obo_clause.specs.declared.clause.Clause.{Clause}
use Rattle.obo_clause.specs.declared.clause.Qualifier.{Qualifier}
use Rattle.obo_clause.specs.declared.clause.Value.{Value}
use Rattle.obo_clause.specs.declared.clause.Value.TheVariants as value
use Rattle.owl_axioms.specs.declared.body.Axiom.{Axiom}
use Rattle.owl_axioms.specs.declared.name.Name.{Name}
use Rattle.text_sets.specs.Sets.{In}
use Rattle.text_sets.specs.Sorted.{Rises}
use Rattle.text_sets.proofs.SetLemmas.{In-append}
use Rattle.text_sets.proofs.SortedLemmas.{Rises-sorted_by}
use Rattle.obo_notes.specs.Context.{Reading, Writing, reading_in, writing_in}
use Rattle.obo_notes.specs.Laws.{IsInPrintedOrder, xrefs_in}
use Rattle.obo_notes.proofs.ContextLemmas.{Agree-in}
use Rattle.obo_statements.proofs.PrintedLists.{group_in_order}
use Rattle.obo_mapping.specs.Axioms.{Situation}
use Rattle.obo_mapping.specs.Documents.{as_kept, declared_in, header_with, kept, names_in, norm, owl, settled_qualifier, settled_value, situation_of, space_of, spelled}
use Rattle.obo_mapping.specs.Sound.{IsSound}
use Rattle.obo_mapping.proofs.DocumentLaw as law
use Rattle.obo_mapping.proofs.SpelledShapes.{Shape, shape}
use Rattle.obo_normal_form.specs.NormLaws.{NormIsInOrder}
use Rattle.obo_normal_form.proofs.FormedAxioms.{formed}
use Rattle.obo_normal_form.proofs.NormLaw as norms

-- ---- settled clauses

settled_xrefs : (reading : Reading) (writing : Writing) (role literal : Bool) (v : Value) → Rises xref_text (xrefs_in (settled_value reading writing role literal v))
unfolding settled_value xrefs_in
settled_xrefs reading writing role literal (value.Def text xrefs) = Rises-sorted_by xref_text xrefs
settled_xrefs reading writing role literal (value.Synonym text scope type xrefs) = Rises-sorted_by xref_text xrefs
settled_xrefs reading writing role literal _ = tt

-- behind a foreign value there is no qualifier
none_behind : (shape : ValueShape) (text : List ℕ) (qualifiers : List Qualifier) → FitsShape shape (value.Raw text) → FitBehind shape qualifiers → qualifiers ≡ []
none_behind shapes.Raw text qualifiers fits behind = behind
none_behind _ text qualifiers fits behind = absurd fits

kept_in_order : (situation : Situation) (writing : Writing) (kind : FrameKind) (first : Bool) (id tag : List ℕ) (v : Value) (qualifiers : List Qualifier)
    → (let c : Clause = record { tag = tag; value = v; qualifiers = qualifiers } in Fits kind first c) → IsInPrintedOrder (as_kept situation writing (Rattle.obo_frames.specs.Framed.framed kind id (record { tag = tag; value = v; qualifiers = qualifiers }))).clause
unfolding xrefs_in
kept_in_order situation writing kind first id tag (value.Raw text) qualifiers fits =
    record { xrefs = tt; qualifiers = subst (Rises qualifier_text) (sym (none_behind (shape_at kind first tag) text qualifiers fits.value fits.qualifiers)) tt }
kept_in_order situation writing kind first id tag v qualifiers fits =
    record { xrefs = settled_xrefs situation.reading writing _ _ v; qualifiers = Rises-sorted_by qualifier_text (map settled_qualifier qualifiers) }

-- ---- the law

module _ (d : List Rattle.obo_frames.specs.Framed.Framed) (sound : IsSound d) where
  abbrev Framed : Type 0
  Framed = Rattle.obo_frames.specs.Framed.Framed

  abbrev O : List Axiom
  O = owl d

  abbrev K : List Framed
  K = kept d

  abbrev space : List ℕ
  space = space_of d

  abbrev w : Writing
  w = writing_in (space_of d)

  abbrev declared : List Name
  declared = filter_map declared_in O

  spellable : law.IsSpellable (names_in d) K O
  spellable = norms.spellable d sound (formed d sound)

  nameless : law.IsNameless (names_in d) K O
  nameless = norms.nameless d sound (formed d sound)

  spelled_in_order : (f : Framed) (a : Axiom) → Shape (reading_in space) w (Agree-in space) declared a f → IsInPrintedOrder f.clause
  unfolding xrefs_in
  spelled_in_order f a (inl (inl is)) = subst (λ (g : Framed). IsInPrintedOrder g.clause) is.same (record { xrefs = tt; qualifiers = tt })
  spelled_in_order f a (inl (inr (inl is))) = subst (λ (g : Framed). IsInPrintedOrder g.clause) is.same (record { xrefs = tt; qualifiers = tt })
  spelled_in_order f a (inl (inr (inr (inl is)))) = is.order
  spelled_in_order f a (inl (inr (inr (inr is)))) = subst (λ (g : Framed). IsInPrintedOrder g.clause) is.same is.order
  spelled_in_order f a (inr is) =
      subst (λ (g : Framed). IsInPrintedOrder g.clause) is.same (group_in_order (reading_in space) w (Agree-in space) is.iri is.group a is.clauses is.spelled is.clause is.among)

  head_in_order : (f : Framed) → In f (header_with (names_in d)) → IsInPrintedOrder f.clause
  unfolding xrefs_in
  head_in_order f here =
      ⊎_elim
      (λ format. subst (λ (g : Framed). IsInPrintedOrder g.clause) (sym format) (record { xrefs = tt; qualifiers = tt }))
      (λ name. subst (λ (g : Framed). IsInPrintedOrder g.clause) name.2 (record { xrefs = tt; qualifiers = tt }))
      (law.from_header (names_in d) K O spellable nameless f here)

  in_order : (f : Framed) → In f (header_with (names_in d) ++ (K ++ spelled w O)) → IsInPrintedOrder f.clause
  in_order f here =
      ⊎_elim
      (λ head. head_in_order f head)
      (λ more. ⊎_elim
      (λ kept_one.
      let k = norms.is_kept d sound (formed d sound) f kept_one in
      let one = k.one in
      subst (λ (g : Framed). IsInPrintedOrder g.clause) k.same (kept_in_order (situation_of d) w one.frame _ one.id one.clause.tag one.clause.value one.clause.qualifiers (sound.fits one k.among)))
      (λ spelled_one.
      let of = law.is_of (names_in d) K O spellable nameless f spelled_one in
      spelled_in_order f of.one (shape (reading_in space) w (Agree-in space) declared of.one (spellable.formed of.one of.among) f of.has))
      (In-append f K (spelled w O) more))
      (In-append f (header_with (names_in d)) (K ++ spelled w O) here)

  norm_in_order : (f : Framed) → In f (norm d) → IsInPrintedOrder f.clause
  norm_in_order f here = in_order f (subst (In f) (norms.norm_is d sound (formed d sound)) here)

pub norm_is_in_order : NormIsInOrder
norm_is_in_order d sound f here = norm_in_order d sound f here
