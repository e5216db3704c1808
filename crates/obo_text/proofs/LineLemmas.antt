-- What the lines of the text say.
use Rattle.std.proofs.Common.{Bool, List, None, Option, Some, [], ap, arith, codes, cond, false, inl, length, refl, subst, sym, true, ℕ, ◌++◌, ◌<◌, ◌∷◌, ◌≡◌}
use Rattle.std.specs.Prelude.{nat_eq}
use Rattle.std.specs.List.{AllPass, filter_map}
use Rattle.std.specs.Option.{option_and_then}
use Rattle.std.specs.Str.{bytes_eq}
use Rattle.std.proofs.lemmas.Bool.{both_ways}
use Rattle.std.proofs.lemmas.Bool.Decides.{nat_tests}
use Rattle.std.proofs.lemmas.List.{append-nil}
use Rattle.std.proofs.lemmas.List.Elements.{All-head, All-nil}
use Rattle.std.proofs.lemmas.Option.{none-some, same_Some}
use Rattle.text_sets.specs.Sets.{In}
use Rattle.obo_lexer.specs.Tokens.{is_blank}
use Rattle.obo_tags.specs.declared.kind.FrameKind.{FrameKind}
use Rattle.obo_tags.specs.declared.kind.ValueShape.{ValueShape}
use Rattle.obo_clause.specs.declared.clause.Clause.{Clause}
use Rattle.obo_clause.specs.declared.clause.Value.{Value}
use Rattle.obo_clause.specs.Spelled.{IsLine}
use Rattle.obo_clause.specs.Spelling.{IsFrameLine, Says, shape_at}
use Rattle.obo_clause.specs.Vocabulary.{is_tag_byte}
use Rattle.obo_clause.specs.Fits.{Fits, FitsShape}
use Rattle.rel_io.specs.Texts.{IsText}
use Rattle.clause_printer.specs.Laws.{IsLineOf}
use Rattle.clause_printer.specs.Printing.{behind_space, block_text, clause_text, value_text}
use Rattle.clause_printer.proofs.PrintedLines.{IsLine-constant, commented_line, is_line_byte, printed_line}
use Rattle.obo_frames.specs.declared.told.Place.{Place}
use Rattle.obo_frames.specs.Framed.{Framed, framed}
use Rattle.obo_text.specs.Order.{later_clauses}
use Rattle.obo_text.specs.Text.{comment_of, frame_line, last_id, line_of, name_at, name_behind, name_in, only_one, target_kind, text_in}
use Rattle.obo_text.proofs.ReadLemmas.{IsRow, at, is_marked}
use Rattle.text_sets.proofs.SetLemmas.{In-from_filter_map}
use Rattle.obo_text.proofs.SoundLemmas.{AreSound, later_fits}
use Rattle.obo_text.proofs.MemberLemmas.{later_is}
use Rattle.obo_tags.specs.declared.kind.FrameKind.TheVariants as kinds
use Rattle.obo_tags.specs.declared.kind.ValueShape.TheVariants as shapes
use Rattle.obo_clause.specs.declared.clause.Value.TheVariants as value
use Rattle.obo_clause.specs.declared.line.Line.TheVariants as says
use Rattle.obo_clause.specs.Spelling as spelling

-- ---- parts of answers

and_then_some : {X Y : Type 0} (f : X → Option Y) (o : Option X) (y : Y) → option_and_then f o ≡ Some y → (x : X) × (o ≡ Some x) × (f x ≡ Some y)
and_then_some f None y is = absurd (none-some y is)
and_then_some f (Some x) y is = (x, refl, is)

only_one_is : {X : Type 0} (xs : List X) (x : X) → only_one xs ≡ Some x → In x xs
only_one_is [] x is = absurd (none-some x is)
only_one_is (y ∷ []) x is = inl (same_Some y x is)
only_one_is (y ∷ z ∷ more) x is = absurd (none-some x is)

cond_some : {X : Type 0} (test : Bool) (o : Option X) (x : X) → cond test o None ≡ Some x → o ≡ Some x
cond_some true o x is = is
cond_some false o x is = absurd (none-some x is)

-- ---- values

text_is : (one : Value) (text : List ℕ) → text_in one ≡ Some text → one ≡ value.Text text
text_is (value.Text words) text is = ap value.Text (same_Some words text is)
text_is (value.Id a) text is = absurd (none-some text is)
text_is (value.Pair a b) text is = absurd (none-some text is)
text_is (value.Bool a) text is = absurd (none-some text is)
text_is (value.Def a b) text is = absurd (none-some text is)
text_is (value.Synonym a b c d) text is = absurd (none-some text is)
text_is (value.XrefValue a) text is = absurd (none-some text is)
text_is (value.Literal a b c) text is = absurd (none-some text is)
text_is (value.Link a b) text is = absurd (none-some text is)
text_is (value.SubsetDef a b) text is = absurd (none-some text is)
text_is (value.SynonymDef a b c) text is = absurd (none-some text is)
text_is (value.Raw a) text is = absurd (none-some text is)

text_fits : (shape : ValueShape) (text : List ℕ) → FitsShape shape (value.Text text) → IsText text
text_fits shapes.Text text fits = fits
text_fits shapes.Id text fits = absurd fits
text_fits shapes.Pair text fits = absurd fits
text_fits shapes.IdOrPair text fits = absurd fits
text_fits shapes.Bool text fits = absurd fits
text_fits shapes.Def text fits = absurd fits
text_fits shapes.Synonym text fits = absurd fits
text_fits shapes.XrefShape text fits = absurd fits
text_fits shapes.Property text fits = absurd fits
text_fits shapes.SubsetDef text fits = absurd fits
text_fits shapes.SynonymDef text fits = absurd fits
text_fits shapes.Raw text fits = absurd fits

raw_has_no_id : (one : Value) (id : List ℕ) → last_id one ≡ Some id → FitsShape shapes.Raw one → ⊥
raw_has_no_id (value.Id a) id is fits = fits
raw_has_no_id (value.Pair a b) id is fits = fits
raw_has_no_id (value.Text a) id is fits = fits
raw_has_no_id (value.Bool a) id is fits = fits
raw_has_no_id (value.Def a b) id is fits = fits
raw_has_no_id (value.Synonym a b c d) id is fits = fits
raw_has_no_id (value.XrefValue a) id is fits = fits
raw_has_no_id (value.Literal a b c) id is fits = fits
raw_has_no_id (value.Link a b) id is fits = fits
raw_has_no_id (value.SubsetDef a b) id is fits = fits
raw_has_no_id (value.SynonymDef a b c) id is fits = fits
raw_has_no_id (value.Raw a) id is fits = none-some id is

-- ---- the first byte

tag_byte_low : (byte : ℕ) → is_tag_byte byte ≡ true → nat_eq 239 byte ≡ false
tag_byte_low byte is =
    elim (nat_eq 239 byte) as (λ b. nat_eq 239 byte ≡ b → nat_eq 239 byte ≡ false) [
      | true ↦ λ h. (let same : byte ≡ 239 = grind (arith, nat_tests) in absurd (both_ways _ (ap is_tag_byte same) is))
      | false ↦ λ h. h
    ] refl

tag_unmarked : (tag rest more : List ℕ) → 0 < length tag → AllPass is_tag_byte tag → is_marked ((tag ++ rest) ++ more) ≡ false
tag_unmarked [] rest more some each = absurd (omega arith)
tag_unmarked (byte ∷ tag) rest more some each = tag_byte_low byte (All-head (λ one. is_tag_byte one ≡ true) byte tag each)

clause_unmarked : (kind : FrameKind) (first : Bool) (clause : Clause) (more : List ℕ) → Fits kind first clause → is_marked (clause_text clause ++ more) ≡ false
unfolding clause_text
clause_unmarked kind first clause more fits =
    tag_unmarked clause.tag (58 ∷ (behind_space (value_text clause.value) ++ behind_space (block_text clause.qualifiers))) more fits.some fits.each

-- ---- one line

row_of : (kind : FrameKind) (first : Bool) (clause : Clause) (line : List ℕ) → IsLineOf kind first line clause → is_marked line ≡ false → IsRow (at kind first) line (says.Content clause)
row_of kind first clause line is unmarked = record { is_line = is.is_line; says = is.says; unmarked = unmarked }

pub blank_row : (place : Place) → IsRow place [] says.Blank
blank_row place = record {
  is_line = IsLine-constant [] refl;
  says = spelling.Says.blank (record { blanks = []; comment = []; whole = refl; blank = All-nil (λ byte. is_blank byte ≡ true); commented = spelling.IsLineComment.nothing });
  unmarked = refl;
}

frame_row_of : (place : Place) (kind : FrameKind) (name : List ℕ) → spelling.IsKindName kind name → IsLine (91 ∷ (name ++ 93 ∷ [])) → IsRow place (91 ∷ (name ++ 93 ∷ [])) (says.Frame kind)
frame_row_of place kind name named line = record {
  is_line = line;
  says = spelling.Says.frame kind (record { before = []; name = name; behind = []; comment = []; whole = refl; blank_before = All-nil (λ byte. is_blank byte ≡ true); named = named; blank_behind = All-nil (λ byte. is_blank byte ≡ true); commented = spelling.IsLineComment.nothing });
  unmarked = refl;
}

pub frame_row : (place : Place) (kind : FrameKind) → (kind ≡ kinds.Header → ⊥) → IsRow place (frame_line kind) (says.Frame kind)
unfolding is_line_byte
frame_row place kinds.Header outside = absurd (outside refl)
frame_row place kinds.Term outside = frame_row_of place kinds.Term (codes "Term") spelling.IsKindName.term (IsLine-constant (codes "[Term]") refl)
frame_row place kinds.Typedef outside = frame_row_of place kinds.Typedef (codes "Typedef") spelling.IsKindName.typedef (IsLine-constant (codes "[Typedef]") refl)
frame_row place kinds.Instance outside = frame_row_of place kinds.Instance (codes "Instance") spelling.IsKindName.instance (IsLine-constant (codes "[Instance]") refl)

module _ (ds : List Framed) (sound : AreSound ds) where
  name_is_text : (kind : FrameKind) (id name : List ℕ) → name_at ds kind id ≡ Some name → IsText name
  name_is_text kind id name is =
      let from = In-from_filter_map name_in name (later_clauses ds kind id) (only_one_is (filter_map name_in (later_clauses ds kind id)) name is) in
      let later = later_is ds kind id from.0 from.1 in
      let fits = later_fits ds sound (framed kind id from.0) later.among later.none in
      let text = text_is from.0.value name (cond_some (bytes_eq from.0.tag (codes "name")) (text_in from.0.value) name from.2) in
      text_fits (shape_at kind false from.0.tag) name (subst (FitsShape (shape_at kind false from.0.tag)) text fits.value)

  line_at : (kind : FrameKind) (first : Bool) (clause : Clause) → Fits kind first clause → (o : Option (List ℕ)) → name_behind ds kind clause ≡ o → IsLineOf kind first (clause_text clause ++ comment_of o) clause
  line_at kind first clause fits None is =
      subst (λ (l : List ℕ). IsLineOf kind first l clause) (sym (append-nil (clause_text clause))) (printed_line kind first clause fits)
  line_at kind first clause fits (Some name) is =
      let target = and_then_some (λ target. option_and_then (λ id. name_at ds target id) (last_id clause.value)) (target_kind kind clause.tag) name is in
      let id = and_then_some (λ id. name_at ds target.0 id) (last_id clause.value) name target.2 in
      commented_line kind first clause name fits
      (λ raw. raw_has_no_id clause.value id.0 id.1 (subst (λ shape. FitsShape shape clause.value) raw fits.value))
      (name_is_text target.0 id.0 name id.2)

  pub line_row : (kind : FrameKind) (first : Bool) (clause : Clause) → Fits kind first clause → IsRow (at kind first) (line_of ds kind clause) (says.Content clause)
  line_row kind first clause fits =
      row_of kind first clause (line_of ds kind clause) (line_at kind first clause fits (name_behind ds kind clause) refl) (clause_unmarked kind first clause (comment_of (name_behind ds kind clause)) fits)
