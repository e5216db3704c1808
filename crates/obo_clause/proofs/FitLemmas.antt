-- The tests of a clause's parts tell what they are to tell.
use Rattle.std.proofs.Common.{◌≡◌, ◌<◌, ℕ, ◌==◌, ◌+◌, ◌-◌, ◌&&◌, Bool, false, not, List, [], ◌∷◌, ◌++◌, None, Option, Some, arith, get_or, length, length-append, refl, sym, ap, subst, ◌∙◌}
use Rattle.std.specs.Bool.{Decides}
use Rattle.std.specs.List.{All, AllPass, list_all, list_any}
use Rattle.std.specs.Str.{IsUtf8, is_utf8}
use Rattle.std.proofs.lemmas.Bool.{not-true, not_from_false}
use Rattle.std.proofs.lemmas.Bool.Decides.{Decides-and, Decides-by_and, Decides-eqb, nat_tests}
use Rattle.std.proofs.lemmas.List.Sums.{AllPass-from_list_all, list_all-from_AllPass}
use Rattle.std.proofs.Math.Seq.{get_or-append_seam}
use Rattle.std.proofs.lemmas.Str.{IsUtf8-from_is_utf8, is_utf8-from_IsUtf8}
use Rattle.rel_io.specs.Texts.{IsText, IsWordText, is_line_feed, is_return}
use Rattle.obo_lexer.specs.Tokens.{is_blank}
use Rattle.obo_tags.specs.declared.kind.FrameKind.{FrameKind}
use Rattle.obo_tags.specs.declared.kind.ValueShape.{ValueShape}
use Rattle.obo_tags.specs.declared.kind.ValueShape.TheVariants as shapes
use Rattle.obo_clause.specs.declared.clause.Clause.{Clause}
use Rattle.obo_clause.specs.declared.clause.Qualifier.{Qualifier}
use Rattle.obo_clause.specs.declared.clause.Value.{Value}
use Rattle.obo_clause.specs.declared.clause.Value.TheVariants as value
use Rattle.obo_clause.specs.declared.clause.Xref.{Xref}
use Rattle.obo_clause.specs.Fits.{FitBehind, Fits, FitsQualifier, FitsShape, FitsXref, IsRawText, IsTextOrNone, IsWordOrNone}
use Rattle.obo_clause.specs.Grammar.{IsTrimmed}
use Rattle.obo_clause.specs.Marks.{bare}
use Rattle.obo_clause.specs.Spelling.{shape_at}
use Rattle.obo_clause.specs.Vocabulary.{is_key_mark, is_tag_byte}
use Rattle.obo_clause.specs.inner.FitTests as test

-- the same condition in other words
by_parts : {P Q : Type 0} (b : Bool) → Decides b P → (P → Q) → (Q → P) → Decides b Q
by_parts b is to back = (λ h. to (is.0 h), λ q. is.1 (back q))

is_utf8_decides : (text : List ℕ) → Decides (is_utf8 text) (IsUtf8 text)
is_utf8_decides text = (IsUtf8-from_is_utf8 text, is_utf8-from_IsUtf8 text)

not_decides : (b : Bool) → Decides (not b) (b ≡ false)
not_decides b = (not-true b, not_from_false b)

empty_decides : {A : Type 0} (items : List A) → Decides (length items == 0) (length items ≡ 0)
empty_decides items = Decides-eqb (length items) 0

filled_decides : {A : Type 0} (items : List A) → Decides (not (length items == 0)) (0 < length items)
filled_decides items = (
  λ h. let none : (length items == 0) ≡ false = not-true (length items == 0) h in grind (arith, nat_tests, none),
  λ some. grind (arith, nat_tests, some),
)

pass_decides : {A : Type 0} (passes : A → Bool) (items : List A) → Decides (list_all passes items) (AllPass passes items)
pass_decides passes items = (AllPass-from_list_all passes items, list_all-from_AllPass passes items)

never : Decides false ⊥
never = (λ h. cc, λ nothing. absurd nothing)

is_text_decides : (text : List ℕ) → Decides (test.is_text text) (IsText text)
is_text_decides text =
    by_parts (test.is_text text) (Decides-and _ _ (is_utf8_decides text) (not_decides (list_any is_return text)))
    (λ is. record { utf8 = is.0; no_return = is.1 }) (λ is. (is.utf8, is.no_return))

is_word_decides : (word : List ℕ) → Decides (test.is_word word) (IsWordText word)
is_word_decides word =
    by_parts (test.is_word word) (Decides-and _ _ (filled_decides word) (is_text_decides word))
    (λ is. record { some = is.0; text = is.1 }) (λ is. (is.some, is.text))

is_word_or_none_decides : (word : Option (List ℕ)) → Decides (test.is_word_or_none word) (IsWordOrNone word)
is_word_or_none_decides None = (λ _. tt, λ _. refl)
is_word_or_none_decides (Some word) = is_word_decides word

is_text_or_none_decides : (text : Option (List ℕ)) → Decides (test.is_text_or_none text) (IsTextOrNone text)
is_text_or_none_decides None = (λ _. tt, λ _. refl)
is_text_or_none_decides (Some text) = is_text_decides text

fits_xref_decides : (xref : Xref) → Decides (test.fits_xref xref) (FitsXref xref)
fits_xref_decides xref =
    by_parts (test.fits_xref xref) (Decides-and _ _ (is_word_decides xref.id) (is_text_or_none_decides xref.label))
    (λ is. record { id = is.0; label = is.1 }) (λ is. (is.id, is.label))

fit_xrefs_decides : (xrefs : List Xref) → Decides (list_all test.fits_xref xrefs) (All FitsXref xrefs)
fit_xrefs_decides xrefs = Decides-by_and test.fits_xref FitsXref (list_all test.fits_xref) fits_xref_decides refl (λ _ _. refl) xrefs

fits_qualifier_decides : (qualifier : Qualifier) → Decides (test.fits_qualifier qualifier) (FitsQualifier qualifier)
fits_qualifier_decides qualifier =
    by_parts (test.fits_qualifier qualifier)
    (Decides-and _ _ (Decides-and _ _ (Decides-and _ _ (filled_decides qualifier.key) (pass_decides (λ byte. is_key_mark (bare byte)) qualifier.key)) (is_utf8_decides qualifier.key)) (is_text_decides qualifier.value))
    (λ is. record { some = is.0.0.0; each = is.0.0.1; utf8 = is.0.1; value = is.1 })
    (λ is. (((is.some, is.each), is.utf8), is.value))

fit_qualifiers_decides : (qualifiers : List Qualifier) → Decides (list_all test.fits_qualifier qualifiers) (All FitsQualifier qualifiers)
fit_qualifiers_decides qualifiers = Decides-by_and test.fits_qualifier FitsQualifier (list_all test.fits_qualifier) fits_qualifier_decides refl (λ _ _. refl) qualifiers

-- a list that is not empty has a last item
split_last : (byte : ℕ) (bytes : List ℕ) → (front : List ℕ) × (last : ℕ) × (byte ∷ bytes ≡ front ++ last ∷ [])
split_last byte [] = ([], byte, refl)
split_last byte (next ∷ bytes) = let more = split_last next bytes in (byte ∷ more.0, more.1, ap (λ l. byte ∷ l) more.2)

last_is : (text front : List ℕ) (last : ℕ) → text ≡ front ++ last ∷ [] → get_or text (length text - 1) 0 ≡ last
last_is text front last whole =
    let n : length text ≡ length front + 1 = ap length whole ∙ length-append front (last ∷ []) in
    let place : length text - 1 ≡ length front = omega (arith, n) in
    ap (λ i. get_or text i 0) place ∙ (ap (λ l. get_or l (length front) 0) whole ∙ get_or-append_seam front last [] 0)

no_split : (front : List ℕ) (last : ℕ) → [] ≡ front ++ last ∷ [] → ⊥
no_split front last whole = let n : 0 ≡ length front + 1 = ap length whole ∙ length-append front (last ∷ []) in absurd (omega (arith, n))

trimmed_decides : (text : List ℕ) → Decides (test.is_trimmed text) (IsTrimmed ℕ is_blank text)
trimmed_decides [] = (λ _. record { begins = λ item rest whole. absurd (cc); ends = λ item rest whole. absurd (no_split rest item whole) }, λ _. refl)
trimmed_decides (byte ∷ bytes) =
    by_parts (test.is_trimmed (byte ∷ bytes)) (Decides-and _ _ (not_decides (is_blank byte)) (not_decides (is_blank (get_or (byte ∷ bytes) (length (byte ∷ bytes) - 1) 0))))
    (λ is. record {
      begins = λ item rest whole. (let same : byte ≡ item = cc in subst (λ b. is_blank b ≡ false) same is.0);
      ends = λ item rest whole. subst (λ b. is_blank b ≡ false) (last_is (byte ∷ bytes) rest item whole) is.1;
    })
    (λ is.
    let split = split_last byte bytes in
    (is.begins byte bytes refl, subst (λ b. is_blank b ≡ false) (sym (last_is (byte ∷ bytes) split.0 split.1 split.2)) (is.ends split.1 split.0 split.2)))

raw_text_decides : (text : List ℕ) → Decides (test.is_raw_text text) (IsRawText text)
raw_text_decides text =
    by_parts (test.is_raw_text text) (Decides-and _ _ (Decides-and _ _ (trimmed_decides text) (is_text_decides text)) (not_decides (list_any is_line_feed text)))
    (λ is. record { trimmed = is.0.0; line = record { utf8 = is.0.1.utf8; no_line_feed = is.1; no_return = is.0.1.no_return } })
    (λ is. ((is.trimmed, record { utf8 = is.line.utf8; no_return = is.line.no_return }), is.line.no_line_feed))

three : {P Q R : Type 0} (a b c : Bool) → Decides a P → Decides b Q → Decides c R → Decides (a && b && c) (P × Q × R)
three a b c p q r =
    by_parts (a && b && c) (Decides-and _ _ (Decides-and _ _ p q) r) (λ is. (is.0.0, is.0.1, is.1)) (λ is. ((is.0, is.1), is.2))

shape_decides : (shape : ValueShape) (one : Value) → Decides (test.fits_shape shape one) (FitsShape shape one)
unfolding test.fits_shape
shape_decides shapes.Text (value.Text text) = is_text_decides text
shape_decides shapes.Id (value.Id word) = is_word_decides word
shape_decides shapes.Pair (value.Pair first second) = Decides-and _ _ (is_word_decides first) (is_word_decides second)
shape_decides shapes.IdOrPair (value.Id word) = is_word_decides word
shape_decides shapes.IdOrPair (value.Pair first second) = Decides-and _ _ (is_word_decides first) (is_word_decides second)
shape_decides shapes.Bool (value.Bool truth) = (λ _. tt, λ _. refl)
shape_decides shapes.Def (value.Def text xrefs) = Decides-and _ _ (is_text_decides text) (fit_xrefs_decides xrefs)
shape_decides shapes.Synonym (value.Synonym text scope type xrefs) =
    three (test.is_text text) (test.is_word_or_none type) (list_all test.fits_xref xrefs) (is_text_decides text) (is_word_or_none_decides type) (fit_xrefs_decides xrefs)
shape_decides shapes.XrefShape (value.XrefValue xref) = fits_xref_decides xref
shape_decides shapes.Property (value.Literal relation text datatype) =
    three (test.is_word relation) (test.is_text text) (test.is_word datatype) (is_word_decides relation) (is_text_decides text) (is_word_decides datatype)
shape_decides shapes.Property (value.Link relation target) = Decides-and _ _ (is_word_decides relation) (is_word_decides target)
shape_decides shapes.SubsetDef (value.SubsetDef id text) = Decides-and _ _ (is_word_decides id) (is_text_decides text)
shape_decides shapes.SynonymDef (value.SynonymDef id text scope) = Decides-and _ _ (is_word_decides id) (is_text_decides text)
shape_decides shapes.Raw (value.Raw text) = raw_text_decides text
shape_decides _ _ = never

none_decides : (qualifiers : List Qualifier) → Decides (length qualifiers == 0) (qualifiers ≡ [])
none_decides qualifiers = by_parts (length qualifiers == 0) (empty_decides qualifiers) (empty_from qualifiers) (ap length)
  where
    empty_from : (items : List Qualifier) → length items ≡ 0 → items ≡ []
    empty_from [] h = refl
    empty_from (item ∷ items) h = absurd (omega (arith, h))

behind_decides : (shape : ValueShape) (qualifiers : List Qualifier) → Decides (test.fit_behind shape qualifiers) (FitBehind shape qualifiers)
behind_decides shapes.Raw qualifiers = none_decides qualifiers
behind_decides _ qualifiers = fit_qualifiers_decides qualifiers

pub fits_decides : (kind : FrameKind) (first : Bool) (clause : Clause) → Decides (test.fits kind first clause) (Fits kind first clause)
fits_decides kind first clause =
    let shape = shape_at kind first clause.tag in
    by_parts (test.fits kind first clause)
    (Decides-and _ _ (Decides-and _ _ (Decides-and _ _ (pass_decides is_tag_byte clause.tag) (filled_decides clause.tag)) (shape_decides shape clause.value)) (behind_decides shape clause.qualifiers))
    (λ is. record { some = is.0.0.1; each = is.0.0.0; value = is.0.1; qualifiers = is.1 })
    (λ is. (((is.each, is.some), is.value), is.qualifiers))
