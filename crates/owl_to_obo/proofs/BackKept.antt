-- The document of an ontology is a document.
use Rattle.std.proofs.Common.{◌≡◌, ◌≤◌, ℕ, List, Option, Some, map, length, ⊎_elim, sym, ap, subst, ◌∙◌, []}
use Rattle.std.specs.Option.{option_to_list}
use Rattle.std.proofs.lemmas.Option.{none-some, same_Some}
use Rattle.iri_map.specs.Ontology.{name_or_temp}
use Rattle.text_sets.specs.Parts.{each_some}
use Rattle.text_sets.specs.Sets.{In}
use Rattle.text_sets.specs.Sorted.{sorted_by}
use Rattle.text_sets.proofs.SetLemmas.{In-append, In-from_map}
use Rattle.obo_tags.specs.declared.kind.FrameKind.TheVariants.{Term}
use Rattle.obo_clause.specs.declared.clause.Clause.{Clause}
use Rattle.owl_axioms.specs.Text.{expr_text}
use Rattle.owl_axioms.specs.declared.body.Axiom.{Axiom}
use Rattle.owl_axioms.specs.declared.expr.ClassExpr.{ClassExpr}
use Rattle.obo_frames.specs.Framed.{Framed, framed, unlined}
use Rattle.obo_frames.specs.Soundness.{IsKept}
use Rattle.obo_frames.specs.declared.placed.Placed.{Placed}
use Rattle.obo_statements.specs.Groups.{Group, group_meaning, operand_plainly}
use Rattle.obo_mapping.specs.Back.{IsSpellable, IsTold, back, writing_of}
use Rattle.obo_mapping.specs.Documents.{group_in, group_of, group_said, header_with, situation_of, spelled}
use Rattle.obo_mapping.proofs.BackLaw as backs
use Rattle.obo_mapping.proofs.DocumentLaw as law
use Rattle.obo_mapping.proofs.SpelledLaw.{alone_no_group, group_says}
use Rattle.obo_mapping.proofs.SpelledShapes as shapes
use Rattle.obo_normal_form.proofs.OwlCases as source
use Rattle.obo_normal_form.proofs.ShortGroups.{meaning_two}
use Rattle.owl_to_obo.proofs.BackSound as sound
use Rattle.owl_to_obo.proofs.KeptLemmas.{IsWritten, kept, name_is}

module _ (name : Option (List ℕ)) (O : List Axiom) (is : IsSpellable name O) (told : IsTold (writing_of name) O) where
  abbrev names : List (List ℕ)
  names = option_to_list name

  abbrev D : List Framed
  D = law.D names [] O

  abbrev spellable : law.IsSpellable names [] O
  spellable = backs.spellable name O is told

  abbrev nameless : law.IsNameless names [] O
  nameless = backs.nameless name O is told

  abbrev silent : law.IsSilent names [] O spellable nameless
  silent = backs.silent name O is told

  no_head_group : (f : Framed) (g : Group) → In f (header_with names) → group_of f ≡ Some g → ⊥
  no_head_group f g here has =
      ⊎_elim
      (λ format. none-some g (sym (ap group_of format) ∙ has))
      (λ one. none-some g (ap group_of one.2 ∙ has))
      (law.from_header names [] O spellable nameless f here)

  abbrev clauses_at : Framed → Group → List Clause
  clauses_at f g = map (λ (each : Framed). each.clause) (group_in (situation_of D) D ((situation_of D).reading.iri f.id) g)

  abbrev read : Group → Clause → Option ClassExpr
  read g clause = operand_plainly (situation_of D).reading g clause.value

  spelled_two : (f : Framed) (g : Group) (operands : List ClassExpr) → In f (spelled (law.w names [] O) O) → group_of f ≡ Some g → each_some (read g) (clauses_at f g) ≡ Some operands → 2 ≤ length (sorted_by expr_text operands)
  unfolding Rattle.obo_mapping.specs.Axioms.axiom_spelled
  spelled_two f g operands here has found =
      let S = situation_of D in
      let w = law.w names [] O in
      let a = law.agrees names [] O spellable nameless in
      let k = law.knows names [] O spellable nameless in
      let isin = law.spelled_in names [] O spellable nameless silent in
      let of = Rattle.obo_mapping.proofs.SpelledLaw.is_of D w O a k isin f here in
      let form = isin.formed of.one of.among in
      ⊎_elim
      (λ alone. absurd (none-some g (sym (alone_no_group D w O a k isin of.one f (shapes.alone_shape S.reading w a (law.declared names [] O) of.one.body of.one.sides form.clauses f alone form.proper form.rises of.has)) ∙ has)))
      (λ grouped.
      let at = grouped.1 in
      let c = In-from_map (framed Term at.id) f at.clauses (subst (In f) (sym at.same) of.has) in
      let says : group_said S D f ≡ Some of.one = subst (λ (h : Framed). group_said S D h ≡ Some of.one) c.2 (group_says D w O a k isin of.one of.among grouped.0 at c.0 c.1) in
      let by = source.grouped_by D f of.one says in
      let same : by.group ≡ g = same_Some by.group g (sym by.has ∙ has) in
      meaning_two S.reading (S.reading.iri f.id) g (clauses_at f g) of.one operands form.proper
      (subst (λ h. group_meaning S.reading (S.reading.iri f.id) h (map (λ (each : Framed). each.clause) (group_in S D (S.reading.iri f.id) h)) ≡ Some of.one) same by.means) found)
      (shapes.form_is S.reading w a (law.declared names [] O) of.one form.clauses form.spelled)

  written : IsWritten D
  written = record {
    fits = λ f here. (sound.fine name O is told f here).fits;
    ids = λ f here. (sound.fine name O is told f here).ids;
    header = λ f here. (sound.fine name O is told f here).header;
    bare = λ f here. (sound.fine name O is told f here).bare;
    two = λ f g operands here has found. ⊎_elim (λ head. absurd (no_head_group f g head has)) (λ among. spelled_two f g operands among has found) (In-append f (header_with names) (spelled (law.w names [] O) O) here);
    space = ap name_or_temp (name_is D name (law.same_names names [] O spellable nameless)) ∙ sym (law.space_is names [] O spellable nameless ∙ ap name_or_temp (backs.one_space name));
  }

  pub back_kept : (placed : List Placed) → map unlined placed ≡ back name O → IsKept placed
  back_kept placed same = kept placed (subst IsWritten (sound.back_is name O is told ∙ sym same) written)
