-- The clause of a note says the note.
use Rattle.std.proofs.Common.{◌≡◌, ℕ, false, List, [], ◌∷◌, ◌++◌, codes, map, Some, ⊎_elim, refl, sym, ap, subst, ◌∙◌, arith}
use Rattle.std.specs.Option.{option_and_then, option_map}
use Rattle.std.proofs.lemmas.List.Elements.{All-cons, All-nil}
use Rattle.std.proofs.lemmas.List.Sums.{AllPass-from_list_all}
use Rattle.std.proofs.lemmas.Option.{same_Some}
use Rattle.obo_tags.specs.Table.{shape_of, tags_of}
use Rattle.obo_tags.specs.declared.kind.FrameKind.{FrameKind}
use Rattle.obo_tags.specs.declared.kind.FrameKind.TheVariants as kinds
use Rattle.obo_tags.specs.declared.kind.ValueShape.TheVariants as shapes
use Rattle.obo_clause.specs.Spelling.{shape_at}
use Rattle.obo_clause.specs.Vocabulary.{is_tag_byte}
use Rattle.obo_clause.specs.declared.clause.Clause.{Clause}
use Rattle.obo_clause.specs.declared.clause.Qualifier.{Qualifier}
use Rattle.obo_clause.specs.declared.clause.Value.TheVariants as value
use Rattle.obo_clause.proofs.AnswerLemmas.{spells-one-clause}
use Rattle.text_sets.proofs.SetLemmas.{In-append, In-append_left, In-append_right, In-from_map, In-map}
use Rattle.text_sets.specs.Sets.{AreTold, In, SameMembers}
use Rattle.obo_clause.specs.Fits.{FitBehind, Fits, FitsQualifier, FitsShape}
use Rattle.clause_printer.specs.Printing.{clause_text, qualifier_text}
use Rattle.clause_printer.proofs.PrintedLines.{printed_line, text_of_line}
use Rattle.clause_printer.proofs.PrintedParts.{IsLine-nil}
use Rattle.owl_axioms.specs.Text.{side_text}
use Rattle.owl_axioms.specs.declared.annotation.Side.{Side}
use Rattle.text_sets.specs.Parts.{Splits, each_some}
use Rattle.text_sets.specs.Sorted.{Rises, sorted_by}
use Rattle.text_sets.proofs.PartLemmas.{each_some-back, first_some-found, option_and_then_some, option_map_some}
use Rattle.text_sets.proofs.SortedLemmas.{sorted_by-each, sorted_by-is, sorted_by-only}
use Rattle.obo_notes.specs.Context.{Agree, Reading, Writing}
use Rattle.obo_notes.specs.Forms.{note_of, said, spelled_as}
use Rattle.obo_notes.specs.declared.note.Note.{Note}
use Rattle.obo_notes.specs.Keys.{qualifier_of, side_of_qualifier}
use Rattle.obo_notes.specs.Laws.{NoteReadsBack}
use Rattle.obo_notes.specs.Notes.{clause_by, clause_with, form_of, meaning, qualifiers_of, sorted_sides, spelling, tags_tried, with_qualifiers}
use Rattle.obo_notes.proofs.FormBacks.{form-back}
use Rattle.obo_notes.proofs.KeyLemmas.{qualifier_of-back}
use Rattle.obo_notes.proofs.PartBacks.{StandsFor-qualifier}

-- ---- qualifiers are told by what is printed

-- an empty name with one qualifier
abbrev name_with : Qualifier → Clause
name_with qualifier = record { tag = codes "name"; value = value.Text []; qualifiers = qualifier ∷ [] }

name_shape : shape_at kinds.Term false (codes "name") ≡ shapes.Text
unfolding tags_of shape_of
name_shape = refl

name_fits : (qualifier : Qualifier) → FitsQualifier qualifier → Fits kinds.Term false (name_with qualifier)
name_fits qualifier fits = record {
  some = omega arith;
  each = AllPass-from_list_all is_tag_byte (codes "name") refl;
  value = subst (λ shape. FitsShape shape (value.Text [])) (sym name_shape) (text_of_line [] IsLine-nil);
  qualifiers = subst (λ shape. FitBehind shape (qualifier ∷ [])) (sym name_shape) (All-cons FitsQualifier qualifier [] fits (All-nil FitsQualifier));
}

name_text : (one other : Qualifier) → qualifier_text one ≡ qualifier_text other → clause_text (name_with one) ≡ clause_text (name_with other)
unfolding clause_text
name_text one other same = ap (λ text. codes "name" ++ 58 ∷ (32 ∷ 123 ∷ ((text ++ []) ++ 125 ∷ []))) same

first_of : List Qualifier → Qualifier → Qualifier
first_of [] other = other
first_of (one ∷ more) other = one

pub same_qualifier : (one other : Qualifier) → FitsQualifier one → FitsQualifier other → qualifier_text one ≡ qualifier_text other → one ≡ other
unfolding first_of
same_qualifier one other fits also same =
    let a = printed_line kinds.Term false (name_with one) (name_fits one fits) in
    let b = printed_line kinds.Term false (name_with other) (name_fits other also) in
    let clauses = spells-one-clause kinds.Term false (clause_text (name_with one)) (name_with one) (name_with other) a.spells
    (subst (λ line. Rattle.obo_clause.specs.Spelling.Spells kinds.Term false line (name_with other)) (sym (name_text one other same)) b.spells) in
    ap (λ (c : Clause). first_of c.qualifiers one) clauses

-- ---- the qualifiers of annotations

pub each_fits : (sides : List Side) (found : List Qualifier) → each_some qualifier_of sides ≡ Some found → (q : Qualifier) → In q found → FitsQualifier q
each_fits [] found is q here = absurd (subst (In q) (sym (same_Some [] found is)) here)
each_fits (side ∷ sides) found is q here =
    let first = option_and_then_some (λ y. option_map (λ ys. y ∷ ys) (each_some qualifier_of sides)) (qualifier_of side) found is in
    let more = option_map_some (λ ys. first.0 ∷ ys) (each_some qualifier_of sides) found first.2 in
    ⊎_elim
    (λ same. subst FitsQualifier same (qualifier_of-back side first.0 first.1).1)
    (λ later. each_fits sides more.0 more.1 q later)
    (subst (In q) (sym more.2) here)

pub told_qualifiers : (sides : List Side) (ys : List Qualifier) → each_some qualifier_of sides ≡ Some ys → AreTold qualifier_text ys
told_qualifiers sides ys is a b p q = same_qualifier a b (each_fits sides ys is a p) (each_fits sides ys is b q)

-- the qualifiers stand for the annotations
pub same_qualifiers : (sides : List Side) (qualifiers : List Qualifier) → qualifiers_of sides ≡ Some qualifiers → SameMembers (map side_of_qualifier qualifiers) sides
same_qualifiers sides qualifiers is side =
    let found = option_map_some (sorted_by qualifier_text) (each_some qualifier_of sides) qualifiers is in
    let ys = found.0 in
    let back = each_some-back qualifier_of side_of_qualifier StandsFor-qualifier sides ys found.1 in
    let told = told_qualifiers sides ys found.1 in (
      (λ here.
          let q = In-from_map side_of_qualifier side qualifiers here in
          let among = sorted_by-only qualifier_text ys q.0 (subst (In q.0) (sym found.2) q.1) in
          subst (In side) back (subst (λ s. In s (map side_of_qualifier ys)) q.2 (In-map side_of_qualifier q.0 ys among))),
      (λ here.
          let q = In-from_map side_of_qualifier side ys (subst (In side) (sym back) here) in
          let among = subst (In q.0) found.2 (sorted_by-each qualifier_text ys told q.0 q.1) in
          subst (λ s. In s (map side_of_qualifier qualifiers)) q.2 (In-map side_of_qualifier q.0 qualifiers among)),
    )

-- ---- the law

pub same_sides : (sides own rest : List Side) (qualifiers : List Qualifier) → Rises side_text sides → Splits sides own rest → qualifiers_of rest ≡ Some qualifiers → sorted_sides (own ++ map side_of_qualifier qualifiers) ≡ sides
same_sides sides own rest qualifiers rises splits is =
    let same = same_qualifiers rest qualifiers is in
    sorted_by-is side_text (own ++ map side_of_qualifier qualifiers) sides rises (λ side. (
      (λ here. ⊎_elim (splits.own side) (λ more. splits.rest side ((same side).0 more)) (In-append side own (map side_of_qualifier qualifiers) here)),
      (λ here. ⊎_elim (In-append_left side own (map side_of_qualifier qualifiers)) (λ more. In-append_right side own (map side_of_qualifier qualifiers) ((same side).1 more)) (splits.each side here)),
    ))

clause_by-back : (reading : Reading) (writing : Writing) → Agree reading writing → (note : Note) (tag : List ℕ) (clause : Clause) → Rises side_text note.sides → clause_by writing note tag ≡ Some clause → meaning reading clause ≡ Some note
unfolding clause_by meaning
clause_by-back reading writing agree note tag clause rises is =
    let form = option_and_then_some (λ form. option_and_then (clause_with tag) (spelled_as writing form note)) (form_of tag) clause is in
    let one = option_and_then_some (clause_with tag) (spelled_as writing form.0 note) clause form.2 in
    let made = option_map_some (λ (qs : List Qualifier). let c : Clause = record { tag = tag; value = one.0.value; qualifiers = qs } in c) (qualifiers_of one.0.rest) clause one.2 in
    let back = form-back reading writing agree note form.0 one.0 one.1 in
    let sides = same_sides note.sides back.own one.0.rest made.0 rises back.splits made.1 in
    let says : option_and_then (λ form. said reading form one.0.value) (form_of tag) ≡ Some (note_of note.property note.value back.own) =
    ap (option_and_then (λ form. said reading form one.0.value)) form.1 ∙ back.says in
    subst (λ c. meaning reading c ≡ Some note) made.2
    (ap (option_map (with_qualifiers made.0)) says ∙ ap (λ s. Some (note_of note.property note.value s)) sides)

pub note_reads_back : (reading : Reading) (writing : Writing) → Agree reading writing → (kind : FrameKind) (note : Note) → NoteReadsBack reading writing kind note
unfolding spelling
note_reads_back reading writing agree kind note clause rises is =
    let found = first_some-found (clause_by writing note) (tags_tried kind) clause is in
    clause_by-back reading writing agree note found.0 clause rises found.2
