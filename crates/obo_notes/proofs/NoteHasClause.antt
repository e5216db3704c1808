-- The note of a clause that some line spells has a clause, and the clause is spelled by a tag of the frame.
use Rattle.std.proofs.Common.{◌≡◌, ◌<◌, ℕ, Bool, true, false, not, ◌&&◌, List, [], ◌∷◌, codes, length, All, Option, None, Some, inl, inr, refl, sym, ap, subst, ◌∙◌, arith, cond, if◌then◌else◌}
use Rattle.std.specs.List.{filter, position_or_len}
use Rattle.std.specs.Prelude.{nat_lt}
use Rattle.std.specs.Option.{IsSome, is_some, option_and_then}
use Rattle.std.specs.Str.{bytes_eq}
use Rattle.std.proofs.lemmas.Bool.{ltb-true, cond-false, not_from_false}
use Rattle.std.proofs.lemmas.List.Elements.{All-nil}
use Rattle.std.proofs.lemmas.Option.{none-some}
use Rattle.obo_tags.specs.Table.{place_of, shape_of, tags_of}
use Rattle.obo_tags.specs.declared.kind.FrameKind.{FrameKind}
use Rattle.obo_tags.specs.declared.kind.ValueShape.{ValueShape}
use Rattle.obo_tags.specs.declared.kind.ValueShape.TheVariants as shapes
use Rattle.obo_clause.specs.Spelling.{shape_at}
use Rattle.obo_clause.specs.declared.clause.Clause.{Clause}
use Rattle.obo_clause.specs.declared.clause.Qualifier.{Qualifier}
use Rattle.obo_clause.specs.declared.clause.Value.{Value}
use Rattle.obo_clause.specs.declared.clause.Value.TheVariants as value
use Rattle.text_sets.proofs.SetLemmas.{In-append_left, In-append_right}
use Rattle.text_sets.specs.Sets.{In}
use Rattle.obo_clause.specs.Fits.{FitBehind, FitsQualifier, FitsShape}
use Rattle.text_sets.proofs.PartLemmas.{first_some-some, option_and_then_some, option_map_some}
use Rattle.obo_notes.specs.Context.{Agree, Reading, Writing}
use Rattle.obo_notes.specs.Forms.{Form, said, spelled_as}
use Rattle.obo_notes.specs.declared.note.Note.{Note}
use Rattle.obo_notes.specs.Laws.{NoteHasClause}
use Rattle.obo_notes.specs.Notes.{clause_by, clause_with, form_of, meaning, spelling, tags_tried, with_qualifiers}
use Rattle.obo_notes.proofs.Guards.{same_bytes}
use Rattle.obo_notes.proofs.NoteCovers.{covers, fit_of}
use Rattle.obo_notes.proofs.ProperSides.{sides_are_told}

-- ---- the tag is one of the frame kind

raw_says_nothing : (reading : Reading) (form : Form) (text : List ℕ) → said reading form (value.Raw text) ≡ None
unfolding said
raw_says_nothing reading (Form.TextForm property) text = refl
raw_says_nothing reading (Form.WordForm property) text = refl
raw_says_nothing reading (Form.LinkForm property) text = refl
raw_says_nothing reading (Form.TruthForm property) text = refl
raw_says_nothing reading Form.DefinitionForm text = refl
raw_says_nothing reading Form.SynonymForm text = refl
raw_says_nothing reading Form.XrefForm text = refl
raw_says_nothing reading Form.ValueForm text = refl
raw_says_nothing reading Form.SubsetForm text = refl
raw_says_nothing reading Form.TypeForm text = refl

raw_fits : (one : Value) → FitsShape shapes.Raw one → (text : List ℕ) × (one ≡ value.Raw text)
raw_fits (value.Raw text) fits = (text, refl)
raw_fits _ fits = absurd fits

not_raw : (reading : Reading) (form : Form) (shape : ValueShape) (one : Value) (note : Note) → said reading form one ≡ Some note → FitsShape shape one → shape ≡ shapes.Raw → ⊥
not_raw reading form shape one note says fits raw =
    let found = raw_fits one (subst (λ s. FitsShape s one) raw fits) in
    none-some note (sym (raw_says_nothing reading form found.0) ∙ sym (ap (said reading form) found.1) ∙ says)

here_or_later : (tag : List ℕ) (tags : List (List ℕ)) → position_or_len (λ one. bytes_eq one tag) tags < length tags → In tag tags
here_or_later tag [] within = absurd (omega arith)
here_or_later tag (one ∷ tags) within =
    elim (bytes_eq one tag) as (λ b. bytes_eq one tag ≡ b → In tag (one ∷ tags)) [
      | true ↦ λ same. inl (same_bytes one tag same)
      | false ↦ λ other. inr (here_or_later tag tags (let w = rw other at within in omega (arith, w)))
    ] refl

raw_shape : (b : Bool) (o : Option ℕ) (shape : ValueShape) → o ≡ None → (if b then shapes.Raw else (if is_some o then shape else shapes.Raw)) ≡ shapes.Raw
raw_shape true o shape none = refl
raw_shape false o shape none = ap (λ (x : Option ℕ). if is_some x then shape else shapes.Raw) none

among : (kind : FrameKind) (tag : List ℕ) → (shape_at kind false tag ≡ shapes.Raw → ⊥) → In tag (tags_of kind)
unfolding shape_of
among kind tag no_raw =
    let p = λ (one : List ℕ). bytes_eq one tag in
    elim (nat_lt (position_or_len p (tags_of kind)) (length (tags_of kind))) as (λ b. nat_lt (position_or_len p (tags_of kind)) (length (tags_of kind)) ≡ b → In tag (tags_of kind)) [
      | true ↦ λ within. here_or_later tag (tags_of kind) (ltb-true (position_or_len p (tags_of kind)) (length (tags_of kind)) within)
      | false ↦ λ past. absurd (no_raw (raw_shape (bytes_eq tag (codes "id") && true) (place_of kind tag) (shape_of tag) (cond-false _ _ _ past)))
    ] refl

kept : (p : List ℕ → Bool) (tag : List ℕ) (tags : List (List ℕ)) → In tag tags → p tag ≡ true → In tag (filter p tags)
kept p tag [] here passes = absurd here
kept p tag (z ∷ tags) (inl is) passes =
    subst (λ b. In tag (cond b (z ∷ filter p tags) (filter p tags))) (sym (ap p is ∙ passes)) (inl is)
kept p tag (z ∷ tags) (inr later) passes =
    elim (p z) as (λ b. In tag (cond b (z ∷ filter p tags) (filter p tags))) [
      | true ↦ inr (kept p tag tags later passes)
      | false ↦ kept p tag tags later passes
    ]

tried : (kind : FrameKind) (tag : List ℕ) → In tag (tags_of kind) → In tag (tags_tried kind)
unfolding tags_tried
tried kind tag here =
    elim (bytes_eq tag (codes "property_value")) as (λ b. bytes_eq tag (codes "property_value") ≡ b → In tag (tags_tried kind)) [
      | true ↦ λ same. In-append_right tag (filter other (tags_of kind)) (codes "property_value" ∷ []) (inl (sym (same_bytes tag (codes "property_value") same)))
      | false ↦ λ no. In-append_left tag (filter other (tags_of kind)) (codes "property_value" ∷ []) (kept other tag (tags_of kind) here (not_from_false (bytes_eq tag (codes "property_value")) no))
    ] refl
  where
    other : List ℕ → Bool
    other tag = not (bytes_eq tag (codes "property_value"))

-- ---- qualifiers

pub behind_fits : (shape : ValueShape) (qualifiers : List Qualifier) → FitBehind shape qualifiers → All FitsQualifier qualifiers
behind_fits shapes.Raw qualifiers none = subst (All FitsQualifier) (sym none) (All-nil FitsQualifier)
behind_fits shapes.Text qualifiers all = all
behind_fits shapes.Id qualifiers all = all
behind_fits shapes.Pair qualifiers all = all
behind_fits shapes.IdOrPair qualifiers all = all
behind_fits shapes.Bool qualifiers all = all
behind_fits shapes.Def qualifiers all = all
behind_fits shapes.Synonym qualifiers all = all
behind_fits shapes.XrefShape qualifiers all = all
behind_fits shapes.Property qualifiers all = all
behind_fits shapes.SubsetDef qualifiers all = all
behind_fits shapes.SynonymDef qualifiers all = all

pub each_note_has_clause : (reading : Reading) (writing : Writing) → Agree reading writing → (kind : FrameKind) (clause : Clause) → NoteHasClause reading writing kind clause
unfolding meaning spelling clause_by
each_note_has_clause reading writing agree kind clause note fits plain is =
    let one = option_map_some (with_qualifiers clause.qualifiers) (option_and_then (λ form. said reading form clause.value) (form_of clause.tag)) note is in
    let form = option_and_then_some (λ form. said reading form clause.value) (form_of clause.tag) one.0 one.1 in
    let shape = shape_at kind false clause.tag in
    let tag = tried kind clause.tag (among kind clause.tag (not_raw reading form.0 shape clause.value one.0 form.2 fits.value)) in
    let some = covers reading writing agree clause.tag clause.qualifiers (behind_fits shape clause.qualifiers fits.qualifiers) plain form.0 clause.value one.0 form.2 (fit_of shape clause.value fits.value) (sides_are_told reading writing agree form.0 clause.value one.0 clause.qualifiers form.2) in
    let by = subst (λ o. IsSome (option_and_then (λ f. option_and_then (clause_with clause.tag) (spelled_as writing f (with_qualifiers clause.qualifiers one.0))) o)) (sym form.1) some in
    first_some-some (clause_by writing note) (tags_tried kind) clause.tag tag (subst (λ n. IsSome (clause_by writing n clause.tag)) one.2 by)
