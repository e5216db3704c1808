-- The clause that stands for a note is one that some line spells.
use Rattle.std.proofs.Common.{◌≡◌, ◌<◌, ℕ, Bool, true, false, not, ◌&&◌, List, [], ◌∷◌, ◌++◌, codes, length, map, All, Option, None, Some, inl, inr, ⊎_elim, refl, sym, ap, subst, ◌∙◌, arith, if◌then◌else◌, cond}
use Rattle.std.specs.List.{AllPass, filter, list_all, position_or_len}
use Rattle.std.specs.Prelude.{nat_lt}
use Rattle.std.specs.Option.{is_none, is_some, option_and_then, option_map, option_or}
use Rattle.std.specs.Str.{bytes_eq}
use Rattle.std.proofs.lemmas.Bool.{and_parts, both_ways, cases_Bool, cond-false, cond-true, false_from_ne_true, not-true}
use Rattle.std.proofs.lemmas.Bool.Decides.{nat_tests}
use Rattle.std.proofs.lemmas.List.Sums.{AllPass-from_list_all}
use Rattle.std.proofs.lemmas.Option.{none-some, same_Some}
use Rattle.iri_map.proofs.CandidateLemmas.{bytes_eq-refl}
use Rattle.obo_tags.specs.Table.{place_of, shape_of, tags_of}
use Rattle.obo_tags.specs.declared.kind.FrameKind.{FrameKind}
use Rattle.obo_tags.specs.declared.kind.FrameKind.TheVariants.{Header, Instance, Term, Typedef}
use Rattle.obo_tags.specs.declared.kind.ValueShape.{ValueShape}
use Rattle.obo_tags.specs.declared.kind.ValueShape.TheVariants as shapes
use Rattle.obo_clause.specs.Spelling.{shape_at}
use Rattle.obo_clause.specs.Vocabulary.{is_tag_byte}
use Rattle.obo_clause.specs.declared.clause.Clause.{Clause}
use Rattle.obo_clause.specs.declared.clause.Qualifier.{Qualifier}
use Rattle.obo_clause.specs.declared.clause.Value.{Value}
use Rattle.obo_clause.specs.declared.clause.Value.TheVariants as value
use Rattle.rel_io.proofs.Texts.{word_from_readable}
use Rattle.text_sets.proofs.SetLemmas.{In-append}
use Rattle.text_sets.specs.Sets.{In}
use Rattle.rel_io.specs.Texts.{IsText, IsWordText}
use Rattle.obo_clause.specs.Fits.{FitBehind, Fits, FitsQualifier, FitsShape, IsTextOrNone, IsWordOrNone}
use Rattle.clause_printer.specs.Printing.{qualifier_text, xref_text}
use Rattle.std.proofs.lemmas.Str.{IsUtf8-append}
use Rattle.percent_encoding.specs.Percent.{percent_decode}
use Rattle.iri_map.specs.Escape.{escaped_part, escaped_url}
use Rattle.iri_map.specs.Id.{is_url}
use Rattle.iri_map.specs.Laws.{IsCleanUrl}
use Rattle.iri_map.specs.Split.{after_start}
use Rattle.iri_map.proofs.UrlLemmas.{IsCleanUrl-escaped_url, is_readable-clean}
use Rattle.owl_axioms.specs.Vocabulary.{rdfs_label}
use Rattle.owl_axioms.specs.declared.annotation.NoteValue.{NoteValue}
use Rattle.owl_axioms.specs.declared.annotation.NoteValue.TheVariants.{Link, Text, Typed}
use Rattle.owl_axioms.specs.declared.annotation.Side.{Side}
use Rattle.text_sets.specs.Parts.{each_some, take_all, take_one, take_one_more}
use Rattle.text_sets.specs.Sorted.{sorted_by}
use Rattle.text_sets.proofs.PartLemmas.{first_some-found, option_and_then_some, option_map_some, option_or_some}
use Rattle.text_sets.proofs.SortedLemmas.{sorted_by-only}
use Rattle.obo_notes.specs.Context.{Agree, Reading, Writing, datatype_word, is_text, other_name, url_name, where_true, xsd_name, xsd_prefix}
use Rattle.obo_notes.specs.Forms.{Form, Spelled, as_definition, as_link, as_property, as_subset, as_synonym, as_synonym_type, as_text, as_truth, as_value_of, as_word, as_xref, described, first_part, is_truth, scope_of_property, spelled, spelled_as, synonym_parts, synonym_type_parts}
use Rattle.obo_notes.specs.declared.note.Note.{Note}
use Rattle.obo_notes.specs.Keys.{plain_text, qualifier_of, text_of_value}
use Rattle.obo_notes.specs.Notes.{Row, clause_by, clause_with, form_in, form_of, qualifiers_of, rows, spelling, tags_tried}
use Rattle.obo_notes.specs.Parts.{id_of_value, is_word, text_of, type_of, xref_of}
use Rattle.obo_notes.specs.Vocabulary.{has_dbxref, has_synonym_type, own_property, rdfs_comment, xsd, xsd_string}
use Rattle.obo_notes.proofs.XrefLists.{all_from_in, word_from_test, xrefs_fit}
use Rattle.obo_notes.proofs.Guards.{same_bytes, where_true_some}
use Rattle.obo_notes.proofs.KeyLemmas.{IsText-from_test, plain_text-back, text_of_value-back}
use Rattle.obo_notes.proofs.KeyCovers.{constant_text}
use Rattle.obo_notes.proofs.NoteLaws.{each_fits}
use Rattle.obo_notes.proofs.PartBacks.{id_of_value-back}

-- ---- the table

abbrev form_shape : Form → ValueShape
form_shape (Form.TextForm property) = shapes.Text
form_shape (Form.WordForm property) = shapes.Id
form_shape (Form.LinkForm property) = shapes.Id
form_shape (Form.TruthForm property) = shapes.Bool
form_shape Form.DefinitionForm = shapes.Def
form_shape Form.SynonymForm = shapes.Synonym
form_shape Form.XrefForm = shapes.XrefShape
form_shape Form.ValueForm = shapes.Property
form_shape Form.SubsetForm = shapes.SubsetDef
form_shape Form.TypeForm = shapes.SynonymDef

shapes_fit : map (λ (row : Row). shape_of row.tag) rows ≡ map (λ (row : Row). form_shape row.form) rows
unfolding rows shape_of
shapes_fit = refl

abbrev is_tag : Row → Bool
is_tag row = nat_lt 0 (length row.tag) && list_all is_tag_byte row.tag && not (bytes_eq row.tag (codes "id"))

tags_fit : list_all is_tag rows ≡ true
unfolding rows
tags_fit = refl

same_at : {X Y : Type 0} (f g : X → Y) (xs : List X) (x : X) → map f xs ≡ map g xs → In x xs → f x ≡ g x
same_at f g [] x same here = absurd here
same_at f g (z ∷ xs) x same (inl is) =
    let head : f z ≡ g z = cc in ap f (sym is) ∙ head ∙ ap g is
same_at f g (z ∷ xs) x same (inr later) =
    let tail : map f xs ≡ map g xs = cc in same_at f g xs x tail later

passes_in : {X : Type 0} (p : X → Bool) (xs : List X) (x : X) → list_all p xs ≡ true → In x xs → p x ≡ true
passes_in p [] x all here = absurd here
passes_in p (z ∷ xs) x all (inl is) = subst (λ y. p y ≡ true) is (and_parts (p z) (list_all p xs) all).0
passes_in p (z ∷ xs) x all (inr later) = passes_in p xs x (and_parts (p z) (list_all p xs) all).1 later

record IsRow (tag : List ℕ) (form : Form) : Type 0 where
  row : Row
  among : In row rows
  tag_is : row.tag ≡ tag
  form_is : row.form ≡ form

row_of : (tag : List ℕ) (form : Form) → form_of tag ≡ Some form → IsRow tag form
unfolding form_of
row_of tag form is =
    let found = first_some-found (form_in tag) rows form is in
    let test = where_true_some (bytes_eq found.0.tag tag) (Some found.0.form) form found.2 in
    record { row = found.0; among = found.1; tag_is = same_bytes found.0.tag tag test.0; form_is = same_Some found.0.form form test.1 }

-- ---- the place of a tag

position_within : (tag : List ℕ) (tags : List (List ℕ)) → In tag tags → position_or_len (λ one. bytes_eq one tag) tags < length tags
position_within tag [] here = absurd here
position_within tag (z ∷ tags) here =
    ⊎_elim
    (λ same. let e : bytes_eq z tag ≡ true = same in omega (arith, within_first z tags e))
    (λ other. ⊎_elim (λ is. absurd (both_ways (bytes_eq z tag) other (subst (λ t. bytes_eq z t ≡ true) is (bytes_eq-refl z)))) (λ later. within_later z tags other (position_within tag tags later)) here)
    (cases_Bool (bytes_eq z tag))
  where
    within_first : (z : List ℕ) (tags : List (List ℕ)) → bytes_eq z tag ≡ true → position_or_len (λ one. bytes_eq one tag) (z ∷ tags) < length (z ∷ tags)
    within_first z tags same = rw same (omega arith)

    within_later : (z : List ℕ) (tags : List (List ℕ)) → bytes_eq z tag ≡ false → position_or_len (λ one. bytes_eq one tag) tags < length tags → position_or_len (λ one. bytes_eq one tag) (z ∷ tags) < length (z ∷ tags)
    within_later z tags other within = rw other (omega arith)

In-from_filter : (p : List ℕ → Bool) (tag : List ℕ) (tags : List (List ℕ)) → In tag (filter p tags) → In tag tags
In-from_filter p tag [] here = absurd here
In-from_filter p tag (z ∷ tags) here =
    elim (p z) as (λ b. In tag (cond b (z ∷ filter p tags) (filter p tags)) → In tag (z ∷ tags)) [
      | true ↦ λ there. ⊎_elim (λ is. inl is) (λ later. inr (In-from_filter p tag tags later)) there
      | false ↦ λ there. inr (In-from_filter p tag tags there)
    ] here

value_tag_placed : (kind : FrameKind) → is_some (place_of kind (codes "property_value")) ≡ true
unfolding tags_of
value_tag_placed Header = refl
value_tag_placed Term = refl
value_tag_placed Typedef = refl
value_tag_placed Instance = refl

placed : (kind : FrameKind) (tag : List ℕ) → In tag (tags_of kind) → is_some (place_of kind tag) ≡ true
placed kind tag here =
    let p = λ (one : List ℕ). bytes_eq one tag in
    let within = position_within tag (tags_of kind) here in
    let test : nat_lt (position_or_len p (tags_of kind)) (length (tags_of kind)) ≡ true = grind (arith, nat_tests, within) in
    ap (λ b. is_some (cond b (Some (position_or_len p (tags_of kind))) None)) test

-- the shape of a tag that is tried is that of the tag
shape_there : (kind : FrameKind) (tag : List ℕ) → In tag (tags_tried kind) → bytes_eq tag (codes "id") ≡ false → shape_at kind false tag ≡ shape_of tag
unfolding tags_tried
shape_there kind tag here no_id =
    let there : is_some (place_of kind tag) ≡ true = ⊎_elim
    (λ one. placed kind tag (In-from_filter (λ t. not (bytes_eq t (codes "property_value"))) tag (tags_of kind) one))
    (λ last. ⊎_elim (λ is. subst (λ t. is_some (place_of kind t) ≡ true) is (value_tag_placed kind)) (λ none. absurd none) last)
    (In-append tag (filter (λ t. not (bytes_eq t (codes "property_value"))) (tags_of kind)) (codes "property_value" ∷ []) here) in
    (λ i. if no_id i && true then shapes.Raw else (if there i then shape_of tag else shapes.Raw))

-- ---- words and parts

-- ---- some forms

module _ (reading : Reading) (writing : Writing) (agree : Agree reading writing) (note : Note) where
  text_fits : (property : List ℕ) (one : Spelled) → as_text property note ≡ Some one → FitsShape shapes.Text one.value
  text_fits property one is =
      let found = where_true_some (bytes_eq note.property property) (option_map (λ text. spelled (value.Text text) note.sides) (text_of_value note.value)) one is in
      let text = option_map_some (λ text. spelled (value.Text text) note.sides) (text_of_value note.value) one found.1 in
      subst (λ (s : Spelled). FitsShape shapes.Text s.value) text.2 (IsText-from_test text.0 (text_of_value-back note.value text.0 text.1).1)

  link_fits : (property : List ℕ) (one : Spelled) → as_link writing property note ≡ Some one → FitsShape shapes.Id one.value
  link_fits property one is =
      let found = where_true_some (bytes_eq note.property property) (option_map (λ id. spelled (value.Id id) note.sides) (id_of_value writing note.value)) one is in
      let id = option_map_some (λ id. spelled (value.Id id) note.sides) (id_of_value writing note.value) one found.1 in
      let iri = id_of_value-back writing note.value id.0 id.1 in
      subst (λ (s : Spelled). FitsShape shapes.Id s.value) id.2 (word_from_readable id.0 (agree.ids iri.0 id.0 iri.2).0)

  definition_fits : (one : Spelled) → as_definition note ≡ Some one → FitsShape shapes.Def one.value
  definition_fits one is =
      let xrefs = take_all xref_of note.sides in
      let found = where_true_some (bytes_eq note.property Rattle.obo_notes.specs.Vocabulary.iao_definition) (option_map (λ text. spelled (value.Def text (sorted_by xref_text xrefs.parts)) xrefs.rest) (text_of_value note.value)) one is in
      let text = option_map_some (λ text. spelled (value.Def text (sorted_by xref_text xrefs.parts)) xrefs.rest) (text_of_value note.value) one found.1 in
      subst (λ (s : Spelled). FitsShape shapes.Def s.value) text.2 (IsText-from_test text.0 (text_of_value-back note.value text.0 text.1).1, xrefs_fit note.sides)

  -- where the value fits its form, the clause fits its frame
  pub clause_fits : (kind : FrameKind) (clause : Clause) → ((form : Form) (one : Spelled) → spelled_as writing form note ≡ Some one → FitsShape (form_shape form) one.value) → spelling writing kind note ≡ Some clause → Fits kind false clause
  unfolding spelling clause_by
  clause_fits kind clause value_fits is =
      let found = first_some-found (clause_by writing note) (tags_tried kind) clause is in
      let tag = found.0 in
      let form = option_and_then_some (λ form. option_and_then (clause_with tag) (spelled_as writing form note)) (form_of tag) clause found.2 in
      let one = option_and_then_some (clause_with tag) (spelled_as writing form.0 note) clause form.2 in
      let made = option_map_some (λ (qs : List Qualifier). let c : Clause = record { tag = tag; value = one.0.value; qualifiers = qs } in c) (qualifiers_of one.0.rest) clause one.2 in
      let ys = option_map_some (sorted_by qualifier_text) (each_some qualifier_of one.0.rest) made.0 made.1 in
      let row = row_of tag form.0 form.1 in
      let test = passes_in is_tag rows row.row tags_fit row.among in
      let tests = and_parts (nat_lt 0 (length row.row.tag) && list_all is_tag_byte row.row.tag) (not (bytes_eq row.row.tag (codes "id"))) test in
      let bytes = and_parts (nat_lt 0 (length row.row.tag)) (list_all is_tag_byte row.row.tag) tests.0 in
      let shape : shape_of tag ≡ form_shape form.0 = ap shape_of (sym row.tag_is) ∙ same_at (λ (r : Row). shape_of r.tag) (λ (r : Row). form_shape r.form) rows row.row shapes_fit row.among ∙ ap form_shape row.form_is in
      let at : shape_at kind false tag ≡ form_shape form.0 = shape_there kind tag found.1 (subst (λ t. bytes_eq t (codes "id") ≡ false) row.tag_is (not-true (bytes_eq row.row.tag (codes "id")) tests.1)) ∙ shape in
      let fit = value_fits form.0 one.0 one.1 in
      let all : All FitsQualifier made.0 = all_from_in FitsQualifier made.0 (λ q here. each_fits one.0.rest ys.0 ys.1 q (sorted_by-only qualifier_text ys.0 q (subst (In q) (sym ys.2) here))) in
      subst (λ (c : Clause). Fits kind false c) made.2 (record {
        some = subst (λ t. 0 < length t) row.tag_is (Rattle.std.proofs.lemmas.Bool.ltb-true 0 (length row.row.tag) bytes.0);
        each = subst (λ t. AllPass is_tag_byte t) row.tag_is (AllPass-from_list_all is_tag_byte row.row.tag bytes.1);
        value = subst (λ s. FitsShape s one.0.value) (sym at) fit;
        qualifiers = subst (λ s. FitBehind s made.0) (sym at) (behind form.0 made.0 all);
      })
    where
      behind : (form : Form) (qs : List Qualifier) → All FitsQualifier qs → FitBehind (form_shape form) qs
      behind (Form.TextForm property) qs all = all
      behind (Form.WordForm property) qs all = all
      behind (Form.LinkForm property) qs all = all
      behind (Form.TruthForm property) qs all = all
      behind Form.DefinitionForm qs all = all
      behind Form.SynonymForm qs all = all
      behind Form.XrefForm qs all = all
      behind Form.ValueForm qs all = all
      behind Form.SubsetForm qs all = all
      behind Form.TypeForm qs all = all

-- ---- the other forms

taken_first : {X Y : Type 0} (part : X → Option Y) (xs : List X) (y : Y) → first_part (take_one part xs).parts ≡ Some y → (x : X) × (part x ≡ Some y)
taken_first part [] y is = absurd (none-some y is)
taken_first part (z ∷ xs) y is =
    elim (part z) as (λ o. part z ≡ o → first_part (take_one_more z xs o (take_one part xs)).parts ≡ Some y → (x : _) × (part x ≡ Some y)) [
      | None ↦ λ _ more. taken_first part xs y more
      | Some w ↦ λ here first. (z, here ∙ first)
    ] refl is

text_part_fits : (property : List ℕ) (side : Side) (text : List ℕ) → text_of property side ≡ Some text → IsText text
unfolding text_of
text_part_fits property side text is = IsText-from_test text (plain_text-back side text (where_true_some (bytes_eq side.property property) (plain_text side) text is).1).2

label_fits : (property : List ℕ) (sides : List Side) → IsTextOrNone (first_part (take_one (text_of property) sides).parts)
label_fits property sides = fits (first_part (take_one (text_of property) sides).parts) refl
  where
    fits : (o : Option (List ℕ)) → first_part (take_one (text_of property) sides).parts ≡ o → IsTextOrNone o
    fits None is = tt
    fits (Some text) is = let side = taken_first (text_of property) sides text is in text_part_fits property side.0 text side.1

module _ (reading : Reading) (writing : Writing) (agree : Agree reading writing) (note : Note) where
  id_fits : (id : List ℕ) (iri : List ℕ) → writing.id iri ≡ Some id → IsWordText id
  id_fits id iri is = word_from_readable id (agree.ids iri id is).0

  value_id_fits : (id : List ℕ) → id_of_value writing note.value ≡ Some id → IsWordText id
  value_id_fits id is = let iri = id_of_value-back writing note.value id is in id_fits id iri.0 iri.2

  type_fits : (sides : List Side) → IsWordOrNone (first_part (take_one (type_of writing) sides).parts)
  unfolding type_of
  type_fits sides = fits (first_part (take_one (type_of writing) sides).parts) refl
    where
      fits : (o : Option (List ℕ)) → first_part (take_one (type_of writing) sides).parts ≡ o → IsWordOrNone o
      fits None is = tt
      fits (Some id) is =
          let side = taken_first (type_of writing) sides id is in
          let found = where_true_some (bytes_eq side.0.property has_synonym_type && is_none side.0.label) (id_of_value writing side.0.value) id side.1 in
          let iri = id_of_value-back writing side.0.value id found.1 in
          id_fits id iri.0 iri.2

  text_value_fits : (text : List ℕ) → text_of_value note.value ≡ Some text → IsText text
  text_value_fits text is = IsText-from_test text (text_of_value-back note.value text is).1

  word_fits : (property : List ℕ) (one : Spelled) → as_word property note ≡ Some one → FitsShape shapes.Id one.value
  word_fits property one is =
      let found = where_true_some (bytes_eq note.property property) _ one is in
      let text = option_and_then_some (λ text. where_true (is_word text) (Some (spelled (value.Id text) note.sides))) (text_of_value note.value) one found.1 in
      let word = where_true_some (is_word text.0) (Some (spelled (value.Id text.0) note.sides)) one text.2 in
      subst (λ (s : Spelled). FitsShape shapes.Id s.value) (same_Some (spelled (value.Id text.0) note.sides) one word.1) (word_from_test text.0 word.0)

  truth_fits : (property : List ℕ) (one : Spelled) → as_truth property note ≡ Some one → FitsShape shapes.Bool one.value
  truth_fits property one is =
      let found = where_true_some (bytes_eq note.property property && is_truth note.value) (Some (spelled (value.Bool true) note.sides)) one is in
      subst (λ (s : Spelled). FitsShape shapes.Bool s.value) (same_Some (spelled (value.Bool true) note.sides) one found.1) tt

  synonym_fits : (one : Spelled) → as_synonym writing note ≡ Some one → FitsShape shapes.Synonym one.value
  synonym_fits one is =
      let found = option_and_then_some (λ scope. option_map (λ text. synonym_parts writing text scope note.sides) (text_of_value note.value)) (scope_of_property note.property) one is in
      let text = option_map_some (λ text. synonym_parts writing text found.0 note.sides) (text_of_value note.value) one found.2 in
      subst (λ (s : Spelled). FitsShape shapes.Synonym s.value) text.2
      (text_value_fits text.0 text.1, type_fits note.sides, xrefs_fit (take_one (type_of writing) note.sides).rest)

  xref_form_fits : (one : Spelled) → as_xref note ≡ Some one → FitsShape shapes.XrefShape one.value
  xref_form_fits one is =
      let found = where_true_some (bytes_eq note.property has_dbxref) _ one is in
      let label = take_one (text_of rdfs_label) note.sides in
      let make = λ (id : List ℕ). spelled (value.XrefValue (record { id = id; label = first_part label.parts })) label.rest in
      let id = option_and_then_some (λ id. where_true (is_word id) (Some (make id))) (text_of_value note.value) one found.1 in
      let word = where_true_some (is_word id.0) (Some (make id.0)) one id.2 in
      subst (λ (s : Spelled). FitsShape shapes.XrefShape s.value) (same_Some (make id.0) one word.1) (record { id = word_from_test id.0 word.0; label = label_fits rdfs_label note.sides })

  string_word : IsWordText (codes "xsd:string")
  string_word = record { some = omega arith; text = constant_text (codes "xsd:string") refl refl refl }

  relation_fits : (relation : List ℕ) → IsWordText relation → (noted : NoteValue) (one : Value) → as_value_of writing relation noted ≡ Some one → ((iri word : List ℕ) → datatype_word writing iri ≡ Some word → IsWordText word) → FitsShape shapes.Property one
  relation_fits relation fits (Text text) one is words =
      let found = where_true_some (is_text text) (Some (value.Literal relation text (codes "xsd:string"))) one is in
      subst (FitsShape shapes.Property) (same_Some (value.Literal relation text (codes "xsd:string")) one found.1) (fits, IsText-from_test text found.0, string_word)
  relation_fits relation fits (Typed text datatype) one is words =
      let found = where_true_some (is_text text && not (bytes_eq datatype xsd_string)) _ one is in
      let word = option_map_some (λ word. value.Literal relation text word) (datatype_word writing datatype) one found.1 in
      subst (FitsShape shapes.Property) word.2 (fits, IsText-from_test text (and_parts (is_text text) (not (bytes_eq datatype xsd_string)) found.0).0, words datatype word.0 word.1)
  relation_fits relation fits (Link iri) one is words =
      let target = option_map_some (λ target. value.Link relation target) (writing.id iri) one is in
      subst (FitsShape shapes.Property) target.2 (fits, id_fits target.0 iri target.1)

  property_fits : ((iri word : List ℕ) → datatype_word writing iri ≡ Some word → IsWordText word) → (one : Spelled) → as_property writing note ≡ Some one → FitsShape shapes.Property one.value
  property_fits words one is =
      let relation = option_and_then_some (λ relation. option_map (λ one. spelled one note.sides) (as_value_of writing relation note.value)) (writing.id note.property) one is in
      let has = option_map_some (λ one. spelled one note.sides) (as_value_of writing relation.0 note.value) one relation.2 in
      subst (λ (s : Spelled). FitsShape shapes.Property s.value) has.2 (relation_fits relation.0 (id_fits relation.0 note.property relation.1) note.value has.0 has.1 words)

  subset_fits : (one : Spelled) → as_subset writing note ≡ Some one → FitsShape shapes.SubsetDef one.value
  subset_fits one is =
      let found = where_true_some (bytes_eq note.property (own_property (codes "subsetdef"))) _ one is in
      let texts = take_one (text_of rdfs_comment) note.sides in
      let id = option_and_then_some (λ id. described (λ text rest. spelled (value.SubsetDef id text) rest) texts) (id_of_value writing note.value) one found.1 in
      let text = option_map_some (λ text. spelled (value.SubsetDef id.0 text) texts.rest) (first_part texts.parts) one id.2 in
      let side = taken_first (text_of rdfs_comment) note.sides text.0 text.1 in
      subst (λ (s : Spelled). FitsShape shapes.SubsetDef s.value) text.2 (value_id_fits id.0 id.1, text_part_fits rdfs_comment side.0 text.0 side.1)

  synonym_type_fits : (one : Spelled) → as_synonym_type writing note ≡ Some one → FitsShape shapes.SynonymDef one.value
  synonym_type_fits one is =
      let found = where_true_some (bytes_eq note.property (own_property (codes "synonymtypedef"))) _ one is in
      let texts = take_one (text_of rdfs_comment) note.sides in
      let id = option_and_then_some (λ id. described (synonym_type_parts id) texts) (id_of_value writing note.value) one found.1 in
      let text = option_map_some (λ text. synonym_type_parts id.0 text texts.rest) (first_part texts.parts) one id.2 in
      let side = taken_first (text_of rdfs_comment) note.sides text.0 text.1 in
      subst (λ (s : Spelled). FitsShape shapes.SynonymDef s.value) text.2 (value_id_fits id.0 id.1, text_part_fits rdfs_comment side.0 text.0 side.1)

  pub value_fits : ((iri word : List ℕ) → datatype_word writing iri ≡ Some word → IsWordText word) → (form : Form) (one : Spelled) → spelled_as writing form note ≡ Some one → FitsShape (form_shape form) one.value
  unfolding spelled_as
  value_fits words (Form.TextForm property) one is = text_fits reading writing agree note property one is
  value_fits words (Form.WordForm property) one is = word_fits property one is
  value_fits words (Form.LinkForm property) one is = link_fits reading writing agree note property one is
  value_fits words (Form.TruthForm property) one is = truth_fits property one is
  value_fits words Form.DefinitionForm one is = definition_fits reading writing agree note one is
  value_fits words Form.SynonymForm one is = synonym_fits one is
  value_fits words Form.XrefForm one is = xref_form_fits one is
  value_fits words Form.ValueForm one is = property_fits words one is
  value_fits words Form.SubsetForm one is = subset_fits one is
  value_fits words Form.TypeForm one is = synonym_type_fits one is

-- ---- the words of datatypes

module _ (reading : Reading) (writing : Writing) (agree : Agree reading writing) where
  prefixed_word : (name : List ℕ) → IsText name → IsWordText (xsd_prefix ++ name)
  prefixed_word name is = record { some = omega arith; text = record { utf8 = IsUtf8-append xsd_prefix name (constant_text (codes "xsd:") refl refl refl).utf8 is.utf8; no_return = is.no_return } }

  pub datatype_fits : (iri word : List ℕ) → datatype_word writing iri ≡ Some word → IsWordText word
  unfolding datatype_word
  datatype_fits iri word is =
      ⊎_elim
      (λ local.
      let rest = option_and_then_some (λ rest. xsd_name iri (percent_decode rest)) (after_start xsd iri) word local in
      let name = percent_decode rest.0 in
      let test = where_true_some (is_text name && bytes_eq (xsd ++ escaped_part name) iri) (Some (xsd_prefix ++ name)) word rest.2 in
      subst IsWordText (same_Some (xsd_prefix ++ name) word test.1) (prefixed_word name (IsText-from_test name (and_parts (is_text name) (bytes_eq (xsd ++ escaped_part name) iri) test.0).0)))
      (λ more. ⊎_elim
      (λ other.
      let id = option_and_then_some other_name (writing.id iri) word other in
      let test = where_true_some (is_none (after_start xsd_prefix id.0)) (Some id.0) word id.2 in
      subst IsWordText (same_Some id.0 word test.1) (word_from_readable id.0 (agree.ids iri id.0 id.1).0))
      (λ url.
      let test = where_true_some (is_url iri && bytes_eq (escaped_url iri) iri) (Some iri) word url in
      let tests = and_parts (is_url iri) (bytes_eq (escaped_url iri) iri) test.0 in
      let clean = subst IsCleanUrl (same_bytes (escaped_url iri) iri tests.1) (IsCleanUrl-escaped_url iri tests.0) in
      subst IsWordText (same_Some iri word test.1) (word_from_readable iri (is_readable-clean iri clean)))
      (option_or_some (option_and_then other_name (writing.id iri)) (url_name iri) word more))
      (option_or_some (option_and_then (λ rest. xsd_name iri (percent_decode rest)) (after_start xsd iri)) (option_or (option_and_then other_name (writing.id iri)) (url_name iri)) word is)

  pub spelled_note_fits : (kind : FrameKind) (note : Note) (clause : Clause) → spelling writing kind note ≡ Some clause → Fits kind false clause
  spelled_note_fits kind note clause is = clause_fits reading writing agree note kind clause (value_fits reading writing agree note datatype_fits) is
