-- The note of a clause has a clause again.
use Rattle.std.proofs.Common.{◌≡◌, ◌⊎◌, ℕ, true, false, not, ◌&&◌, List, [], ◌∷◌, ◌++◌, codes, map, All, Option, None, Some, inl, inr, ⊎_elim, refl, sym, ap, subst, ◌∙◌, if◌then◌else◌}
use Rattle.std.specs.Option.{IsSome, is_none, option_and_then, option_map, option_or, option_to_list}
use Rattle.std.specs.Str.{bytes_eq}
use Rattle.std.proofs.lemmas.Bool.{and_from, not_from_false}
use Rattle.std.proofs.lemmas.Option.{none-some, same_Some}
use Rattle.percent_encoding.specs.Percent.{percent_decode}
use Rattle.text_sets.proofs.SetLemmas.{In-append, In-from_map}
use Rattle.text_sets.specs.Sets.{AreTold, In}
use Rattle.rel_io.specs.Texts.{IsText, IsWordText}
use Rattle.iri_map.specs.Escape.{escaped_part, escaped_url}
use Rattle.iri_map.specs.Id.{is_url}
use Rattle.iri_map.specs.Split.{after_start}
use Rattle.iri_map.proofs.CandidateLemmas.{after_start-append, bytes_eq-refl}
use Rattle.iri_map.proofs.EscapeLemmas.{percent_decode-escaped_part}
use Rattle.iri_map.proofs.ReadableLemmas.{All-IsUtf8}
use Rattle.obo_tags.specs.declared.kind.ValueShape.{ValueShape}
use Rattle.obo_tags.specs.declared.kind.ValueShape.TheVariants as shapes
use Rattle.obo_clause.specs.declared.clause.Clause.{Clause}
use Rattle.obo_clause.specs.declared.clause.Qualifier.{Qualifier}
use Rattle.obo_clause.specs.declared.clause.Scope.{Scope}
use Rattle.obo_clause.specs.declared.clause.Scope.TheVariants as scope
use Rattle.obo_clause.specs.declared.clause.Value.{Value}
use Rattle.obo_clause.specs.declared.clause.Value.TheVariants as value
use Rattle.obo_clause.specs.declared.clause.Xref.{Xref}
use Rattle.obo_clause.specs.Fits.{FitsQualifier, FitsShape, FitsXref, IsTextOrNone, IsWordOrNone}
use Rattle.clause_printer.specs.Printing.{qualifier_text}
use Rattle.owl_axioms.specs.Vocabulary.{rdfs_label}
use Rattle.owl_axioms.specs.Text.{side_text}
use Rattle.owl_axioms.specs.declared.annotation.NoteValue.{NoteValue}
use Rattle.owl_axioms.specs.declared.annotation.NoteValue.TheVariants.{Link, Text, Typed}
use Rattle.owl_axioms.specs.declared.annotation.Side.{Side}
use Rattle.clause_printer.specs.Printing.{xref_text}
use Rattle.text_sets.specs.Parts.{each_some, take_all, take_one}
use Rattle.text_sets.specs.Sorted.{by_text, sorted_by}
use Rattle.text_sets.proofs.PartLemmas.{each_some-some, first_some-some}
use Rattle.text_sets.proofs.SortedLemmas.{text_not_below_itself, Rises-sorted_by, sorted_by-each, sorted_by-only}
use Rattle.obo_notes.specs.Context.{Agree, Reading, Writing, datatype_by, datatype_iri, datatype_word, is_text, other_name, url_name, where_true, xsd_name, xsd_prefix}
use Rattle.obo_notes.specs.Forms.{Form, Spelled, as_value_of, described, first_part, is_true_value, literal, note_of, said, scope_of_property, scope_with, spelled, spelled_as, synonym_parts, synonym_property, synonym_type_parts}
use Rattle.obo_notes.specs.declared.note.Note.{Note}
use Rattle.obo_notes.specs.Keys.{is_key, is_reserved_key, key_of, key_property, plain_text, qualifier_of, side_of_qualifier, text_side}
use Rattle.obo_notes.specs.Notes.{clause_with, qualifiers_of, sorted_sides, with_qualifiers}
use Rattle.obo_notes.specs.Parts.{id_of_value, is_word, scope_of, side_of_scope, side_of_type, side_of_xref, text_of, type_of, xref_of}
use Rattle.obo_notes.specs.Vocabulary.{has_dbxref, has_scope, has_synonym_type, iao_definition, own_property, rdfs_comment, xsd, xsd_boolean, xsd_string}
use Rattle.std.specs.declared.cmp.Ordering.TheVariants.{Less}
use Rattle.obo_clause.specs.Spelling.{scope_word}
use Rattle.obo_notes.proofs.KeyLemmas.{IsText-from_test, qualifier_of-back}
use Rattle.obo_notes.proofs.Guards.{where_true_some}
use Rattle.obo_notes.proofs.KeyCovers.{constant_key, constant_text, key_covered, key_property-url, qualifier_covered, test_from_IsText}
use Rattle.obo_notes.proofs.PartCovers.{All-In, is_word-from, never_some_none, some_value, take_all-among, take_all-rest, take_one-among, take_one-rest, take_one-some, text_covered, xref_covered}

-- ---- the parts of a value that some line spells

abbrev pub Fit : Value → Type 0
Fit (value.Text text) = IsText text
Fit (value.Id word) = IsWordText word
Fit (value.Pair first second) = IsWordText first × IsWordText second
Fit (value.Bool truth) = Unit {0}
Fit (value.Def text xrefs) = IsText text × All FitsXref xrefs
Fit (value.Synonym text one type xrefs) = IsText text × IsWordOrNone type × All FitsXref xrefs
Fit (value.XrefValue xref) = FitsXref xref
Fit (value.Literal relation text datatype) = IsWordText relation × IsText text × IsWordText datatype
Fit (value.Link relation target) = IsWordText relation × IsWordText target
Fit (value.SubsetDef id text) = IsWordText id × IsText text
Fit (value.SynonymDef id text one) = IsWordText id × IsText text
Fit (value.Raw text) = Unit {0}

pub fit_of : (shape : ValueShape) (one : Value) → FitsShape shape one → Fit one
fit_of shapes.Text (value.Text text) fits = fits
fit_of shapes.Id (value.Id word) fits = fits
fit_of shapes.Pair (value.Pair first second) fits = fits
fit_of shapes.IdOrPair (value.Id word) fits = fits
fit_of shapes.IdOrPair (value.Pair first second) fits = fits
fit_of shapes.Bool (value.Bool truth) fits = tt
fit_of shapes.Def (value.Def text xrefs) fits = fits
fit_of shapes.Synonym (value.Synonym text one type xrefs) fits = fits
fit_of shapes.XrefShape (value.XrefValue xref) fits = fits
fit_of shapes.Property (value.Literal relation text datatype) fits = fits
fit_of shapes.Property (value.Link relation target) fits = fits
fit_of shapes.SubsetDef (value.SubsetDef id text) fits = fits
fit_of shapes.SynonymDef (value.SynonymDef id text one) fits = fits
fit_of shapes.Raw (value.Raw text) fits = tt
fit_of _ _ fits = absurd fits

-- ---- qualifiers are there again

qualifiers_some : (sides : List Side) → ((side : Side) → In side sides → IsSome (qualifier_of side)) → IsSome (qualifiers_of sides)
qualifiers_some sides all =
    let found = some_value (each_some qualifier_of sides) (each_some-some qualifier_of sides all) in
    subst (λ o. IsSome (option_map (sorted_by qualifier_text) o)) (sym found.1) refl

pub finish : (tag : List ℕ) (o : Option Spelled) (one : Spelled) → o ≡ Some one → ((side : Side) → In side one.rest → IsSome (qualifier_of side)) → IsSome (option_and_then (clause_with tag) o)
finish tag o one is all =
    let found = some_value (qualifiers_of one.rest) (qualifiers_some one.rest all) in
    subst (λ x. IsSome (option_and_then (clause_with tag) x)) (sym is)
    (subst (λ x. IsSome (option_map (λ (qs : List Qualifier). let c : Clause = record { tag = tag; value = one.value; qualifiers = qs } in c) x)) (sym found.1) refl)

-- each annotation is one that the value says, or one of a qualifier
abbrev IsEither : List Side → List Side → Type 0
IsEither sides own = (side : Side) → In side sides → In side own ⊎ IsSome (qualifier_of side)

pub either : (own : List Side) (qualifiers : List Qualifier) → All FitsQualifier qualifiers → All (λ (q : Qualifier). is_reserved_key q.key ≡ false) qualifiers → IsEither (sorted_sides (own ++ map side_of_qualifier qualifiers)) own
either own qualifiers fits plain side here =
    let among = sorted_by-only side_text (own ++ map side_of_qualifier qualifiers) side here in
    ⊎_elim (λ is. inl is)
    (λ more.
    let q = In-from_map side_of_qualifier side qualifiers more in
    inr (subst (λ s. IsSome (qualifier_of s)) q.2 (qualifier_covered q.0 (All-In FitsQualifier qualifiers q.0 fits q.1) (All-In (λ (q : Qualifier). is_reserved_key q.key ≡ false) qualifiers q.0 plain q.1))))
    (In-append side own (map side_of_qualifier qualifiers) among)

-- ---- annotations with a text alone, of a property that is a key

-- the key of a property that is a URL and a key
url_key : (property : List ℕ) → is_key property ≡ true → is_reserved_key property ≡ false → is_url property ≡ true → escaped_url property ≡ property → IsSome (key_of property)
url_key property key plain url same = subst (λ p. IsSome (key_of p)) (key_property-url property url ∙ same) (key_covered property key plain)

label_is_key : is_key rdfs_label ≡ true
unfolding rdfs_label
label_is_key = constant_key rdfs_label refl refl

label_key : IsSome (key_of rdfs_label)
unfolding rdfs_label is_reserved_key is_url escaped_url
label_key = url_key rdfs_label label_is_key refl refl refl

comment_is_key : is_key rdfs_comment ≡ true
unfolding rdfs_comment
comment_is_key = constant_key rdfs_comment refl refl

comment_key : IsSome (key_of rdfs_comment)
unfolding rdfs_comment is_reserved_key is_url escaped_url
comment_key = url_key rdfs_comment comment_is_key refl refl refl

scope_property : key_property (codes "hasScope") ≡ has_scope
unfolding key_property is_url escaped_part
scope_property = refl

scope_key : IsSome (key_of has_scope)
unfolding is_reserved_key
scope_key = subst (λ p. IsSome (key_of p)) scope_property (key_covered (codes "hasScope") (constant_key (codes "hasScope") refl refl) refl)

text_side_covered : (property text : List ℕ) → IsSome (key_of property) → is_text text ≡ true → IsSome (qualifier_of (text_side property text))
unfolding qualifier_of
text_side_covered property text key is =
    let found = some_value (key_of property) key in
    let make = λ (k : List ℕ). option_map (λ (t : List ℕ). let q : Qualifier = record { key = k; value = t } in q) (plain_text (text_side property text)) in
    subst (λ o. IsSome (option_and_then make o)) (sym found.1)
    (subst (λ b. IsSome (option_map (λ (t : List ℕ). let q : Qualifier = record { key = found.0; value = t } in q) (where_true b (Some text)))) (sym is) refl)

-- ---- datatypes

module _ (reading : Reading) (writing : Writing) (agree : Agree reading writing) where
  abbrev HasWord : List ℕ → Type 0
  HasWord iri = IsSome (datatype_word writing iri)

  or_first : {X : Type 0} (o other : Option X) → IsSome o → IsSome (option_or o other)
  or_first None other some = let h : false ≡ true = some in absurd (cc)
  or_first (Some x) other some = refl

  or_second : {X : Type 0} (o other : Option X) → IsSome other → IsSome (option_or o other)
  or_second None other some = some
  or_second (Some x) other some = refl

  local_has_word : (name : List ℕ) → IsText name → HasWord (xsd ++ escaped_part name)
  unfolding datatype_word
  local_has_word name text =
      let iri = xsd ++ escaped_part name in
      let test = and_from (is_text name) (bytes_eq iri iri) (test_from_IsText name text) (bytes_eq-refl iri) in
      let named : IsSome (xsd_name iri name) = subst (λ b. IsSome (where_true b (Some (xsd_prefix ++ name)))) (sym test) refl in
      let decoded = percent_decode-escaped_part name (All-IsUtf8 name text.utf8) in
      or_first (option_and_then (λ rest. xsd_name iri (percent_decode rest)) (after_start xsd iri)) (option_or (option_and_then other_name (writing.id iri)) (url_name iri))
      (subst (λ o. IsSome (option_and_then (λ rest. xsd_name iri (percent_decode rest)) o)) (sym (after_start-append xsd (escaped_part name)))
      (subst (λ n. IsSome (xsd_name iri n)) (sym decoded) named))

  other_has_word : (id : List ℕ) → HasWord (reading.iri id)
  unfolding datatype_word
  other_has_word id =
      let iri = reading.iri id in
      let clean = agree.clean id in
      let test = and_from (is_url iri) (bytes_eq (escaped_url iri) iri) clean.0 (subst (λ x. bytes_eq x iri ≡ true) (sym clean.1) (bytes_eq-refl iri)) in
      let url : IsSome (url_name iri) = subst (λ b. IsSome (where_true b (Some iri))) (sym test) refl in
      or_second (option_and_then (λ rest. xsd_name iri (percent_decode rest)) (after_start xsd iri)) (option_or (option_and_then other_name (writing.id iri)) (url_name iri))
      (or_second (option_and_then other_name (writing.id iri)) (url_name iri) url)

  -- ---- what a word names has a word

  word_has_word : (id : List ℕ) → HasWord (datatype_iri reading id)
  unfolding datatype_iri
  word_has_word id =
      elim (after_start xsd_prefix id) as (λ o. HasWord (datatype_by reading id o)) [
        | None ↦ other_has_word id
        | Some name ↦ elim (is_text name) as (λ b. is_text name ≡ b → HasWord (if b then xsd ++ escaped_part name else reading.iri id)) [
          | true ↦ λ is. local_has_word name (IsText-from_test name is)
          | false ↦ λ _. other_has_word id
        ] refl
      ]

  literal_has_value : (relation text datatype : List ℕ) → is_text text ≡ true → IsText datatype → IsSome (as_value_of writing relation (literal text (datatype_iri reading datatype)))
  literal_has_value relation text datatype is word =
      let iri = datatype_iri reading datatype in
      elim (bytes_eq iri xsd_string) as (λ b. bytes_eq iri xsd_string ≡ b → IsSome (as_value_of writing relation (if b then Text text else Typed text iri))) [
        | true ↦ λ _. subst (λ b. IsSome (where_true b (Some (value.Literal relation text (codes "xsd:string"))))) (sym is) refl
        | false ↦ λ other.
            let found = some_value (datatype_word writing iri) (word_has_word datatype) in
            let test = and_from (is_text text) (not (bytes_eq iri xsd_string)) is (not_from_false (bytes_eq iri xsd_string) other) in
            subst (λ b. IsSome (where_true b (option_map (λ w. value.Literal relation text w) (datatype_word writing iri)))) (sym test)
            (subst (λ o. IsSome (option_map (λ w. value.Literal relation text w) o)) (sym found.1) refl)
      ] refl

  -- ---- form by form

  module _ (tag : List ℕ) (qualifiers : List Qualifier) (fits : All FitsQualifier qualifiers) (plain : All (λ (q : Qualifier). is_reserved_key q.key ≡ false) qualifiers) where
    -- a clause of the tag says what is said
    abbrev Covers : Form → Note → Type 0
    Covers form one =
        AreTold side_text (one.sides ++ map side_of_qualifier qualifiers) → IsSome (option_and_then (clause_with tag) (spelled_as writing form (with_qualifiers qualifiers one)))

    own_or : (own : List Side) → IsEither (sorted_sides (own ++ map side_of_qualifier qualifiers)) own
    own_or own = either own qualifiers fits plain

    no_own : (side : Side) → In side (sorted_sides ([] ++ map side_of_qualifier qualifiers)) → IsSome (qualifier_of side)
    no_own side here = ⊎_elim (λ none. absurd none) (λ x. x) (own_or [] side here)

    text_covers : (property text : List ℕ) → IsText text → Covers (Form.TextForm property) (note_of property (Text text) [])
    unfolding spelled_as
    text_covers property text is told =
        let sides = sorted_sides ([] ++ map side_of_qualifier qualifiers) in
        finish tag (spelled_as writing (Form.TextForm property) (note_of property (Text text) sides)) (spelled (value.Text text) sides)
        (λ i. where_true (bytes_eq-refl property i) (option_map (λ t. spelled (value.Text t) sides) (where_true (test_from_IsText text is i) (Some text)))) no_own

    word_covers : (property word : List ℕ) → IsWordText word → Covers (Form.WordForm property) (note_of property (Text word) [])
    unfolding spelled_as
    word_covers property word is told =
        let sides = sorted_sides ([] ++ map side_of_qualifier qualifiers) in
        finish tag (spelled_as writing (Form.WordForm property) (note_of property (Text word) sides)) (spelled (value.Id word) sides)
        ((λ i. where_true (bytes_eq-refl property i) (option_and_then (λ t. where_true (is_word t) (Some (spelled (value.Id t) sides))) (where_true (test_from_IsText word is.text i) (Some word))))
        ∙ (λ i. where_true (is_word-from word is i) (Some (spelled (value.Id word) sides)))) no_own

    link_covers : (property id : List ℕ) → Covers (Form.LinkForm property) (note_of property (Link (reading.iri id)) [])
    unfolding spelled_as
    link_covers property id told =
        let sides = sorted_sides ([] ++ map side_of_qualifier qualifiers) in
        let found = some_value (writing.id (reading.iri id)) (agree.iris id) in
        finish tag (spelled_as writing (Form.LinkForm property) (note_of property (Link (reading.iri id)) sides)) (spelled (value.Id found.0) sides)
        (λ i. where_true (bytes_eq-refl property i) (option_map (λ x. spelled (value.Id x) sides) (found.1 i))) no_own

    truth_covers : (property : List ℕ) → Covers (Form.TruthForm property) (note_of property is_true_value [])
    unfolding spelled_as
    truth_covers property told =
        let sides = sorted_sides ([] ++ map side_of_qualifier qualifiers) in
        finish tag (spelled_as writing (Form.TruthForm property) (note_of property is_true_value sides)) (spelled (value.Bool true) sides)
        (λ i. where_true (bytes_eq-refl property i && (bytes_eq-refl (codes "true") i && bytes_eq-refl xsd_boolean i)) (Some (spelled (value.Bool true) sides))) no_own

    -- what no list takes is no entry of one
    behind_list : (own before sides : List Side) (xrefs : List Xref) → All FitsXref xrefs → own ≡ before ++ map side_of_xref xrefs → IsEither sides own
        → ((side : Side) → In side before → xref_of side ≡ None → In side (take_all xref_of sides).rest → ⊥) → (side : Side) → In side (take_all xref_of sides).rest → IsSome (qualifier_of side)
    behind_list own before sides xrefs all is known no_other side here =
        let none = take_all-rest xref_of sides side here in
        ⊎_elim
        (λ mine. ⊎_elim
        (λ other. absurd (no_other side other none here))
        (λ entry.
        let x = In-from_map side_of_xref side xrefs entry in
        absurd (never_some_none (xref_of side) (subst (λ s. IsSome (xref_of s)) x.2 (xref_covered x.0 (All-In FitsXref xrefs x.0 all x.1))) none))
        (In-append side before (map side_of_xref xrefs) (subst (In side) is mine)))
        (λ some. some)
        (known side (take_all-among xref_of sides side here))

    definition_covers : (text : List ℕ) (xrefs : List Xref) → IsText text → All FitsXref xrefs → Covers Form.DefinitionForm (note_of iao_definition (Text text) (map side_of_xref xrefs))
    unfolding spelled_as
    definition_covers text xrefs is all told =
        let own = map side_of_xref xrefs in
        let sides = sorted_sides (own ++ map side_of_qualifier qualifiers) in
        let taken = take_all xref_of sides in
        finish tag (spelled_as writing Form.DefinitionForm (note_of iao_definition (Text text) sides)) (spelled (value.Def text (sorted_by xref_text taken.parts)) taken.rest)
        (λ i. where_true (bytes_eq-refl iao_definition i) (option_map (λ t. spelled (value.Def t (sorted_by xref_text taken.parts)) taken.rest) (where_true (test_from_IsText text is i) (Some text))))
        (behind_list own [] sides xrefs all refl (own_or own) (λ side none _ _. none))

    xref_covers : (xref : Xref) → FitsXref xref → Covers Form.XrefForm (note_of has_dbxref (Text xref.id) (map (text_side rdfs_label) (option_to_list xref.label)))
    unfolding spelled_as
    xref_covers xref is told =
        let own = map (text_side rdfs_label) (option_to_list xref.label) in
        let sides = sorted_sides (own ++ map side_of_qualifier qualifiers) in
        let label = take_one (text_of rdfs_label) sides in
        let make = λ (id : List ℕ). spelled (value.XrefValue (record { id = id; label = first_part label.parts })) label.rest in
        finish tag (spelled_as writing Form.XrefForm (note_of has_dbxref (Text xref.id) sides)) (make xref.id)
        ((λ i. where_true (bytes_eq-refl has_dbxref i) (option_and_then (λ id. where_true (is_word id) (Some (make id))) (where_true (test_from_IsText xref.id is.id.text i) (Some xref.id))))
        ∙ (λ i. where_true (is_word-from xref.id is.id i) (Some (make xref.id))))
        (λ side here. ⊎_elim
        (λ mine. label_covered xref.label is.label side mine)
        (λ some. some)
        (own_or own side (take_one-among (text_of rdfs_label) sides side here)))
      where
        label_covered : (label : Option (List ℕ)) → IsTextOrNone label → (side : Side) → In side (map (text_side rdfs_label) (option_to_list label)) → IsSome (qualifier_of side)
        label_covered None fit side mine = absurd mine
        label_covered (Some text) fit side (inl same) = subst (λ s. IsSome (qualifier_of s)) same (text_side_covered rdfs_label text label_key (test_from_IsText text fit))
        label_covered (Some text) fit side (inr none) = absurd none

    -- ---- synonyms

    type_covered : (id : List ℕ) → IsSome (type_of writing (side_of_type reading id))
    unfolding type_of
    type_covered id =
        let found = some_value (writing.id (reading.iri id)) (agree.iris id) in
        let all : where_true (bytes_eq has_synonym_type has_synonym_type && true) (writing.id (reading.iri id)) ≡ Some found.0 = λ i. where_true (bytes_eq-refl has_synonym_type i && true) (found.1 i) in
        subst (λ (o : Option (List ℕ)). IsSome o) (sym all) refl

    -- what has a text is no type
    text_is_no_type : (side : Side) (text : List ℕ) → side.value ≡ Text text → IsSome (type_of writing side) → ⊥
    unfolding type_of
    text_is_no_type side text is some =
        let found = some_value (type_of writing side) some in
        let value = where_true_some (bytes_eq side.property has_synonym_type && is_none side.label) (id_of_value writing side.value) found.0 found.1 in
        none-some found.0 (sym (ap (id_of_value writing) is) ∙ value.1)

    qualifier_is_no_type : (side : Side) → IsSome (qualifier_of side) → IsSome (type_of writing side) → ⊥
    qualifier_is_no_type side some type =
        let found = some_value (qualifier_of side) some in
        let back = (qualifier_of-back side found.0 found.1).0 in
        text_is_no_type side found.0.value (ap (λ (s : Side). s.value) (sym back)) type

    -- the one type
    type_is : (type : Option (List ℕ)) (xrefs : List Xref) (side : Side) → In side (map (side_of_type reading) (option_to_list type) ++ map side_of_xref xrefs) → IsSome (type_of writing side) → (id : List ℕ) × (type ≡ Some id) × (side_of_type reading id ≡ side)
    type_is type xrefs side here some =
        ⊎_elim
        (λ typed. from_type type typed)
        (λ entry. let x = In-from_map side_of_xref side xrefs entry in absurd (text_is_no_type side x.0.id (ap (λ (s : Side). s.value) (sym x.2)) some))
        (In-append side (map (side_of_type reading) (option_to_list type)) (map side_of_xref xrefs) here)
      where
        from_type : (t : Option (List ℕ)) → In side (map (side_of_type reading) (option_to_list t)) → (id : List ℕ) × (t ≡ Some id) × (side_of_type reading id ≡ side)
        from_type None typed = absurd typed
        from_type (Some id) (inl is) = (id, refl, is)
        from_type (Some id) (inr none) = absurd none

    with_scope : (one : Scope) → In one (scope.Exact ∷ scope.Broad ∷ scope.Narrow ∷ scope.Related ∷ []) → IsSome (scope_of_property (synonym_property one))
    unfolding scope_of_property
    with_scope one among =
        first_some-some (scope_with (synonym_property one)) (scope.Exact ∷ scope.Broad ∷ scope.Narrow ∷ scope.Related ∷ []) one among
        (subst (λ b. IsSome (where_true b (Some one))) (sym (bytes_eq-refl (synonym_property one))) refl)

    scope_covered : (one : Scope) → IsSome (scope_of_property (synonym_property one))
    scope_covered scope.Exact = with_scope scope.Exact (inl refl)
    scope_covered scope.Broad = with_scope scope.Broad (inr (inl refl))
    scope_covered scope.Narrow = with_scope scope.Narrow (inr (inr (inl refl)))
    scope_covered scope.Related = with_scope scope.Related (inr (inr (inr (inl refl))))

    synonym_covers : (text : List ℕ) (one : Scope) (type : Option (List ℕ)) (xrefs : List Xref) → IsText text → All FitsXref xrefs
        → Covers Form.SynonymForm (note_of (synonym_property one) (Text text) (map (side_of_type reading) (option_to_list type) ++ map side_of_xref xrefs))
    unfolding spelled_as
    synonym_covers text one type xrefs is all told =
        let types = map (side_of_type reading) (option_to_list type) in
        let own = types ++ map side_of_xref xrefs in
        let sides = sorted_sides (own ++ map side_of_qualifier qualifiers) in
        let scope = some_value (scope_of_property (synonym_property one)) (scope_covered one) in
        let rest = (take_one (type_of writing) sides).rest in
        let known = own_or own in
        let typed : (s : Side) → In s sides → IsSome (type_of writing s) → (id : List ℕ) × (type ≡ Some id) × (side_of_type reading id ≡ s) =
        λ s there some. ⊎_elim (λ mine. type_is type xrefs s mine some) (λ qualified. absurd (qualifier_is_no_type s qualified some)) (known s there) in
        let once : (a b : Side) → In a sides → In b sides → IsSome (type_of writing a) → IsSome (type_of writing b) → by_text side_text a b ≡ Less → ⊥ =
        λ a b p q some also less.
        let x = typed a p some in
        let y = typed b q also in
        let ids = same_Some x.0 y.0 (sym x.1 ∙ y.1) in
        text_not_below_itself side_text a b (sym x.2 ∙ ap (side_of_type reading) ids ∙ y.2) less in
        let left : (s : Side) → In s rest → type_of writing s ≡ None = take_one-rest side_text (type_of writing) sides (Rises-sorted_by side_text (own ++ map side_of_qualifier qualifiers)) once in
        finish tag (spelled_as writing Form.SynonymForm (note_of (synonym_property one) (Text text) sides)) (synonym_parts writing text scope.0 sides)
        (λ i. option_and_then (λ s. option_map (λ t. synonym_parts writing t s sides) (where_true (test_from_IsText text is i) (Some text))) (scope.1 i))
        (behind_list own types rest xrefs all refl (λ side there. known side (take_one-among (type_of writing) sides side there))
        (λ side typed_side none there.
        let here = take_all-among xref_of rest side there in
        let x = In-from_map (side_of_type reading) side (option_to_list type) typed_side in
        never_some_none (type_of writing side) (subst (λ s. IsSome (type_of writing s)) x.2 (type_covered x.0)) (left side here)))

    -- ---- any relation

    relation_covers : (relation : List ℕ) (noted : NoteValue) → IsSome (as_value_of writing relation noted) → (iri : List ℕ) → writing.id iri ≡ Some relation → Covers Form.ValueForm (note_of iri noted [])
    unfolding spelled_as
    relation_covers relation noted some iri written told =
        let sides = sorted_sides ([] ++ map side_of_qualifier qualifiers) in
        let found = some_value (as_value_of writing relation noted) some in
        finish tag (spelled_as writing Form.ValueForm (note_of iri noted sides)) (spelled found.0 sides)
        ((λ i. option_and_then (λ r. option_map (λ v. spelled v sides) (as_value_of writing r noted)) (written i)) ∙ (λ i. option_map (λ v. spelled v sides) (found.1 i))) no_own

    literal_covers : (relation text datatype : List ℕ) → IsText text → IsText datatype → Covers Form.ValueForm (note_of (reading.iri relation) (literal text (datatype_iri reading datatype)) [])
    literal_covers relation text datatype is word =
        let found = some_value (writing.id (reading.iri relation)) (agree.iris relation) in
        relation_covers found.0 (literal text (datatype_iri reading datatype)) (literal_has_value found.0 text datatype (test_from_IsText text is) word) (reading.iri relation) found.1

    target_covers : (relation target : List ℕ) → Covers Form.ValueForm (note_of (reading.iri relation) (Link (reading.iri target)) [])
    target_covers relation target =
        let found = some_value (writing.id (reading.iri relation)) (agree.iris relation) in
        let id = some_value (writing.id (reading.iri target)) (agree.iris target) in
        relation_covers found.0 (Link (reading.iri target)) (subst (λ o. IsSome (option_map (λ t. value.Link found.0 t) o)) (sym id.1) refl) (reading.iri relation) found.1

    -- ---- the typedefs of the header

    described_side : (text : List ℕ) (more : List Side) → IsText text → AreTold side_text ((text_side rdfs_comment text ∷ more) ++ map side_of_qualifier qualifiers)
        → IsSome (first_part (take_one (text_of rdfs_comment) (sorted_sides ((text_side rdfs_comment text ∷ more) ++ map side_of_qualifier qualifiers))).parts)
    described_side text more is told =
        let all = (text_side rdfs_comment text ∷ more) ++ map side_of_qualifier qualifiers in
        take_one-some (text_of rdfs_comment) (sorted_sides all) (text_side rdfs_comment text) (sorted_by-each side_text all told (text_side rdfs_comment text) (inl refl)) (text_covered rdfs_comment text (test_from_IsText text is))

    comment_covered : (text : List ℕ) → IsText text → (side : Side) → text_side rdfs_comment text ≡ side → IsSome (qualifier_of side)
    comment_covered text is side same = subst (λ s. IsSome (qualifier_of s)) same (text_side_covered rdfs_comment text comment_key (test_from_IsText text is))

    subset_covers : (id text : List ℕ) → IsText text → Covers Form.SubsetForm (note_of (own_property (codes "subsetdef")) (Link (reading.iri id)) (text_side rdfs_comment text ∷ []))
    unfolding spelled_as
    subset_covers id text is told =
        let own = text_side rdfs_comment text ∷ [] in
        let property = own_property (codes "subsetdef") in
        let sides = sorted_sides (own ++ map side_of_qualifier qualifiers) in
        let texts = take_one (text_of rdfs_comment) sides in
        let word = some_value (writing.id (reading.iri id)) (agree.iris id) in
        let found = some_value (first_part texts.parts) (described_side text [] is told) in
        finish tag (spelled_as writing Form.SubsetForm (note_of property (Link (reading.iri id)) sides)) (spelled (value.SubsetDef word.0 found.0) texts.rest)
        ((λ i. where_true (bytes_eq-refl property i) (option_and_then (λ x. described (λ t rest. spelled (value.SubsetDef x t) rest) texts) (word.1 i)))
        ∙ (λ i. option_map (λ t. spelled (value.SubsetDef word.0 t) texts.rest) (found.1 i)))
        (λ side here. ⊎_elim
        (λ mine. ⊎_elim (comment_covered text is side) (λ none. absurd none) mine)
        (λ some. some)
        (own_or own side (take_one-among (text_of rdfs_comment) sides side here)))

    scope_is_text : (one : Scope) → IsText (scope_word one)
    scope_is_text scope.Exact = constant_text (codes "EXACT") refl refl refl
    scope_is_text scope.Broad = constant_text (codes "BROAD") refl refl refl
    scope_is_text scope.Narrow = constant_text (codes "NARROW") refl refl refl
    scope_is_text scope.Related = constant_text (codes "RELATED") refl refl refl

    synonym_type_covers : (id text : List ℕ) (one : Option Scope) → IsText text
        → Covers Form.TypeForm (note_of (own_property (codes "synonymtypedef")) (Link (reading.iri id)) (text_side rdfs_comment text ∷ map side_of_scope (option_to_list one)))
    unfolding spelled_as
    synonym_type_covers id text one is told =
        let scopes = map side_of_scope (option_to_list one) in
        let own = text_side rdfs_comment text ∷ scopes in
        let property = own_property (codes "synonymtypedef") in
        let sides = sorted_sides (own ++ map side_of_qualifier qualifiers) in
        let texts = take_one (text_of rdfs_comment) sides in
        let word = some_value (writing.id (reading.iri id)) (agree.iris id) in
        let found = some_value (first_part texts.parts) (described_side text scopes is told) in
        finish tag (spelled_as writing Form.TypeForm (note_of property (Link (reading.iri id)) sides)) (synonym_type_parts word.0 found.0 texts.rest)
        ((λ i. where_true (bytes_eq-refl property i) (option_and_then (λ x. described (synonym_type_parts x) texts) (word.1 i)))
        ∙ (λ i. option_map (λ t. synonym_type_parts word.0 t texts.rest) (found.1 i)))
        (λ side here. ⊎_elim
        (λ mine. ⊎_elim
        (comment_covered text is side)
        (λ scoped. let s = In-from_map side_of_scope side (option_to_list one) scoped in subst (λ x. IsSome (qualifier_of x)) s.2 (text_side_covered has_scope (scope_word s.0) scope_key (test_from_IsText (scope_word s.0) (scope_is_text s.0))))
        mine)
        (λ some. some)
        (own_or own side (take_one-among (text_of rdfs_comment) sides side (take_one-among scope_of texts.rest side here))))

    -- ---- all forms

    pub covers : (form : Form) (v : Value) (one : Note) → said reading form v ≡ Some one → Fit v → Covers form one
    unfolding said
    covers (Form.TextForm property) (value.Text text) one is fit = subst (Covers (Form.TextForm property)) (same_Some _ one is) (text_covers property text fit)
    covers (Form.WordForm property) (value.Id word) one is fit = subst (Covers (Form.WordForm property)) (same_Some _ one is) (word_covers property word fit)
    covers (Form.LinkForm property) (value.Id id) one is fit = subst (Covers (Form.LinkForm property)) (same_Some _ one is) (link_covers property id)
    covers (Form.TruthForm property) (value.Bool true) one is fit = subst (Covers (Form.TruthForm property)) (same_Some _ one is) (truth_covers property)
    covers Form.DefinitionForm (value.Def text xrefs) one is fit = subst (Covers Form.DefinitionForm) (same_Some _ one is) (definition_covers text xrefs fit.0 fit.1)
    covers Form.SynonymForm (value.Synonym text scope type xrefs) one is fit = subst (Covers Form.SynonymForm) (same_Some _ one is) (synonym_covers text scope type xrefs fit.0 fit.2)
    covers Form.XrefForm (value.XrefValue xref) one is fit = subst (Covers Form.XrefForm) (same_Some _ one is) (xref_covers xref fit)
    covers Form.ValueForm (value.Literal relation text datatype) one is fit = subst (Covers Form.ValueForm) (same_Some _ one is) (literal_covers relation text datatype fit.1 fit.2.text)
    covers Form.ValueForm (value.Link relation target) one is fit = subst (Covers Form.ValueForm) (same_Some _ one is) (target_covers relation target)
    covers Form.SubsetForm (value.SubsetDef id text) one is fit = subst (Covers Form.SubsetForm) (same_Some _ one is) (subset_covers id text fit.1)
    covers Form.TypeForm (value.SynonymDef id text scope) one is fit = subst (Covers Form.TypeForm) (same_Some _ one is) (synonym_type_covers id text scope fit.1)
    covers _ _ one is fit = absurd (none-some one is)
