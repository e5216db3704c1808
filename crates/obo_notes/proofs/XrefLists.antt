-- Xref lists of spelled clauses: the entries in printed order.
use Rattle.std.proofs.Common.{◌≡◌, ℕ, true, false, not, ◌&&◌, List, [], ◌∷◌, ◌++◌, codes, length, map, All, Option, None, Some, inl, inr, ⊎_elim, refl, sym, ap, subst, ◌∙◌, arith}
use Rattle.std.specs.Prelude.{◌==◌}
use Rattle.std.specs.Str.{bytes_eq}
use Rattle.std.proofs.lemmas.Bool.{and_parts}
use Rattle.std.proofs.lemmas.Bool.Decides.{nat_tests}
use Rattle.std.proofs.lemmas.List.Elements.{All-cons, All-nil}
use Rattle.std.proofs.lemmas.List.Sums.{AllPass-from_list_all}
use Rattle.std.proofs.lemmas.Option.{same_Some}
use Rattle.obo_tags.specs.Table.{shape_of, tags_of}
use Rattle.obo_tags.specs.declared.kind.FrameKind.TheVariants as frames
use Rattle.obo_tags.specs.declared.kind.ValueShape.TheVariants as shapes
use Rattle.obo_clause.specs.Spelling.{Spells, shape_at}
use Rattle.obo_clause.specs.Vocabulary.{is_tag_byte}
use Rattle.obo_clause.specs.declared.clause.Clause.{Clause}
use Rattle.obo_clause.specs.declared.clause.Value.{Value}
use Rattle.obo_clause.specs.declared.clause.Value.TheVariants as value
use Rattle.obo_clause.specs.declared.clause.Xref.{Xref}
use Rattle.obo_clause.proofs.AnswerLemmas.{spells-one-clause}
use Rattle.text_sets.proofs.SetLemmas.{In-from_map, In-map}
use Rattle.text_sets.specs.Sets.{AreTold, In}
use Rattle.rel_io.specs.Texts.{IsWordText}
use Rattle.obo_clause.specs.Fits.{FitBehind, Fits, FitsQualifier, FitsShape, FitsXref, IsTextOrNone}
use Rattle.clause_printer.specs.Printing.{behind_space, clause_text, xref_text}
use Rattle.clause_printer.proofs.PrintedLines.{printed_line}
use Rattle.owl_axioms.specs.declared.annotation.Side.{Side}
use Rattle.text_sets.specs.Parts.{Splits, take_all, take_all_more}
use Rattle.text_sets.specs.Sorted.{sorted_by}
use Rattle.text_sets.proofs.PartLemmas.{option_and_then_some, take_all-splits}
use Rattle.text_sets.proofs.SortedLemmas.{sorted_by-each, sorted_by-only}
use Rattle.obo_notes.specs.Context.{is_text, where_true}
use Rattle.obo_notes.specs.Keys.{text_of_value}
use Rattle.obo_notes.specs.Parts.{is_label, is_word, side_of_xref, xref_of}
use Rattle.obo_notes.specs.Vocabulary.{has_dbxref}
use Rattle.obo_notes.proofs.Guards.{where_true_some}
use Rattle.obo_notes.proofs.KeyLemmas.{IsText-from_test}
use Rattle.obo_notes.proofs.PartBacks.{StandsFor-xref}

pub all_from_in : {X : Type 0} (P : X → Type 0) (xs : List X) → ((x : X) → In x xs → P x) → All P xs
all_from_in P [] each = All-nil P
all_from_in P (x ∷ xs) each = All-cons P x xs (each x (inl refl)) (all_from_in P xs (λ y later. each y (inr later)))

pub word_from_test : (word : List ℕ) → is_word word ≡ true → IsWordText word
word_from_test word is =
    let parts = and_parts (not (length word == 0)) (is_text word) is in
    let filled : not (length word == 0) ≡ true = parts.0 in
    record { some = grind (arith, nat_tests, filled); text = IsText-from_test word parts.1 }

pub label_from_test : (label : Option (List ℕ)) → is_label label ≡ true → IsTextOrNone label
label_from_test None is = tt
label_from_test (Some label) is = IsText-from_test label is

pub xref_fits : (side : Side) (xref : Xref) → xref_of side ≡ Some xref → FitsXref xref
unfolding xref_of
xref_fits side xref is =
    let found = where_true_some (bytes_eq side.property has_dbxref && is_label side.label) _ xref is in
    let label = label_from_test side.label (and_parts (bytes_eq side.property has_dbxref) (is_label side.label) found.0).1 in
    let id = option_and_then_some (λ (id : List ℕ). where_true (is_word id) (let x : Xref = record { id = id; label = side.label } in Some x)) (text_of_value side.value) xref found.1 in
    let word = where_true_some (is_word id.0) (let x : Xref = record { id = id.0; label = side.label } in Some x) xref id.2 in
    let x : Xref = record { id = id.0; label = side.label } in
    subst FitsXref (same_Some x xref word.1) (record { id = word_from_test id.0 word.0; label = label })

taken_part : {X Y : Type 0} (part : X → Option Y) (xs : List X) (y : Y) → In y (take_all part xs).parts → (x : X) × (part x ≡ Some y)
taken_part part [] y here = absurd here
taken_part part (z ∷ xs) y here =
    elim (part z) as (λ o. part z ≡ o → In y (take_all_more z o (take_all part xs)).parts → (x : _) × (part x ≡ Some y)) [
      | None ↦ λ _ there. taken_part part xs y there
      | Some w ↦ λ is there. ⊎_elim (λ same. (z, is ∙ ap Some same)) (λ later. taken_part part xs y later) there
    ] refl here

taken_fits : (sides : List Side) (x : Xref) → In x (take_all xref_of sides).parts → FitsXref x
taken_fits sides x here = let side = taken_part xref_of sides x here in xref_fits side.0 x side.1

-- the entries in printed order are such that a line can have them
pub xrefs_fit : (sides : List Side) → All FitsXref (sorted_by xref_text (take_all xref_of sides).parts)
xrefs_fit sides = all_from_in FitsXref (sorted_by xref_text (take_all xref_of sides).parts) (λ x here. taken_fits sides x (sorted_by-only xref_text (take_all xref_of sides).parts x here))

-- ---- entries are told by what is printed

abbrev xref_clause : Xref → Clause
xref_clause one = record { tag = codes "xref"; value = value.XrefValue one; qualifiers = [] }

xref_shape : shape_at frames.Term false (codes "xref") ≡ shapes.XrefShape
unfolding tags_of shape_of
xref_shape = refl

clause_fits : (one : Xref) → FitsXref one → Fits frames.Term false (xref_clause one)
clause_fits one fits = record {
  some = omega arith;
  each = AllPass-from_list_all is_tag_byte (codes "xref") refl;
  value = subst (λ shape. FitsShape shape (value.XrefValue one)) (sym xref_shape) fits;
  qualifiers = subst (λ shape. FitBehind shape []) (sym xref_shape) (All-nil FitsQualifier);
}

same_line : (one other : Xref) → xref_text one ≡ xref_text other → clause_text (xref_clause one) ≡ clause_text (xref_clause other)
unfolding clause_text
same_line one other same = ap (λ text. codes "xref" ++ 58 ∷ (behind_space text ++ [])) same

xref_in : Value → Xref → Xref
xref_in (value.XrefValue one) other = one
xref_in _ other = other

pub same_xref : (one other : Xref) → FitsXref one → FitsXref other → xref_text one ≡ xref_text other → one ≡ other
unfolding xref_in
same_xref one other fits also same =
    let a = printed_line frames.Term false (xref_clause one) (clause_fits one fits) in
    let b = printed_line frames.Term false (xref_clause other) (clause_fits other also) in
    let clauses = spells-one-clause frames.Term false (clause_text (xref_clause one)) (xref_clause one) (xref_clause other) a.spells
    (subst (λ line. Spells frames.Term false line (xref_clause other)) (sym (same_line one other same)) b.spells) in
    ap (λ (c : Clause). xref_in c.value one) clauses

-- ---- the list

pub told_xrefs : (sides : List Side) → AreTold xref_text (take_all xref_of sides).parts
told_xrefs sides a b p q = same_xref a b (taken_fits sides a p) (taken_fits sides b q)

pub Splits-xrefs : (sides : List Side) → Splits sides (map side_of_xref (sorted_by xref_text (take_all xref_of sides).parts)) (take_all xref_of sides).rest
Splits-xrefs sides =
    let all = take_all xref_of sides in
    let splits = take_all-splits xref_of side_of_xref StandsFor-xref sides in
    let told = told_xrefs sides in
    record {
      each = λ side here. ⊎_elim
          (λ mine. inl (let x = In-from_map side_of_xref side all.parts mine in
          subst (λ s. In s (map side_of_xref (sorted_by xref_text all.parts))) x.2 (In-map side_of_xref x.0 (sorted_by xref_text all.parts) (sorted_by-each xref_text all.parts told x.0 x.1))))
          (λ left. inr left)
          (splits.each side here);
      own = λ side here.
          let x = In-from_map side_of_xref side (sorted_by xref_text all.parts) here in
          splits.own side (subst (λ s. In s (map side_of_xref all.parts)) x.2 (In-map side_of_xref x.0 all.parts (sorted_by-only xref_text all.parts x.0 x.1)));
      rest = splits.rest;
    }
