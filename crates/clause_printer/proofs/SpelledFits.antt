-- What a line spells has parts as they have to be: from the grammar, part by part.
use Rattle.std.proofs.Common.{◌≡◌, ◌⊎◌, ℕ, ◌<◌, Bool, true, not, List, [], ◌∷◌, ◌++◌, Option, None, Some, length, unwrap_or, refl, sym, ap, subst, ◌∙◌, inl, inr, append_assoc, append-nil, arith}
use Rattle.std.specs.List.{All, AllPass}
use Rattle.std.proofs.lemmas.Bool.{and_parts}
use Rattle.std.proofs.lemmas.List.{length-map}
use Rattle.std.proofs.lemmas.List.Elements.{All-append, All-cons, All-head, All-nil, All-tail}
use Rattle.obo_tags.specs.declared.kind.FrameKind.{FrameKind}
use Rattle.obo_tags.specs.declared.kind.ValueShape.{ValueShape}
use Rattle.obo_clause.specs.declared.clause.Clause.{Clause}
use Rattle.obo_clause.specs.declared.clause.Qualifier.{Qualifier}
use Rattle.obo_clause.specs.declared.clause.Scope.{Scope}
use Rattle.obo_clause.specs.declared.clause.Value.{Value}
use Rattle.obo_clause.specs.declared.clause.Xref.{Xref}
use Rattle.obo_clause.specs.Grammar.{AreBlanks, AreQualifiers, AreSlots, IsBlock, IsComment, IsEnding, IsEntry, IsKey, IsLabel, IsQualifier, IsQuoted, IsSlot, IsUnquoted, IsWord, IsXrefList}
use Rattle.obo_clause.specs.Grammar as grammar
use Rattle.obo_clause.specs.declared.mark.MarkedByte.{MarkedByte}
use Rattle.obo_clause.specs.Marks.{bare, read_as}
use Rattle.rel_io.specs.Texts.{IsText, IsWordText}
use Rattle.obo_clause.specs.Fits.{FitBehind, Fits, FitsQualifier, FitsShape, FitsXref, IsTextOrNone, IsWordOrNone}
use Rattle.obo_clause.specs.Spelled.{IsLine, IsSpelledAs}
use Rattle.obo_clause.specs.Spelling.{IsQualifiedValue, IsMoreList, IsMoreWord, IsScoped, IsSecondWord, IsTagged, IsTypeScope, IsValue, shape_at, text_datatype}
use Rattle.obo_clause.specs.Spelling as spelling
use Rattle.obo_clause.specs.Vocabulary.{block_close, block_open, comma, equals, is_key_mark, list_close, list_open, quote}
use Rattle.clause_printer.proofs.PrintedLines.{IsLine-constant, is_line_byte, text_of_line}
use Rattle.clause_printer.proofs.TextCuts.{LowStart, Sound, line_behind_blanks, line_cut, line_front, low_blanks, low_gap, sound_behind_blanks, sound_cut, sound_front, sound_line, starts_low_blanks}

-- ---- words and quoted texts

text_read : (marks : List MarkedByte) (text : List ℕ) → read_as marks ≡ text → Sound marks → IsText text
text_read marks text read is = subst IsText read is

some_read : (marks : List MarkedByte) (text : List ℕ) → read_as marks ≡ text → 0 < length marks → 0 < length text
some_read marks text read some = subst (λ (l : List ℕ). 0 < length l) read (omega (arith, length-map marks (λ (mark : MarkedByte). mark.byte)))

word_text_of : (marks : List MarkedByte) (word : List ℕ) → IsWord marks word → Sound marks → IsWordText word
word_text_of marks word is sound = record { some = some_read marks word is.read is.some; text = text_read marks word is.read sound }

low_quoted : (marks behind : List MarkedByte) (text : List ℕ) → IsQuoted marks text → LowStart (marks ++ behind)
low_quoted marks behind text is = subst (λ (l : List MarkedByte). LowStart (l ++ behind)) (sym is.whole) (omega arith)

-- the text between the quotes, and what stands behind them
sound_quoted : (marks behind : List MarkedByte) (text : List ℕ) → IsQuoted marks text → Sound (marks ++ behind) → IsText text × Sound behind
sound_quoted marks behind text is sound =
    let whole : Sound (quote ∷ ((is.inside ++ quote ∷ []) ++ behind)) = subst (λ (l : List MarkedByte). Sound (l ++ behind)) is.whole sound in
    let inner : Sound (is.inside ++ quote ∷ behind) = subst Sound (append_assoc is.inside (quote ∷ []) behind) (sound_front quote ((is.inside ++ quote ∷ []) ++ behind) (omega arith) whole) in
    let cut = sound_cut is.inside (quote ∷ behind) (omega arith) inner in
    (text_read is.inside text is.read cut.0, sound_front quote behind (omega arith) cut.1)

quoted_text_of : (marks : List MarkedByte) (text : List ℕ) → IsQuoted marks text → Sound marks → IsText text
quoted_text_of marks text is sound = (sound_quoted marks [] text is (subst Sound (sym (append-nil marks)) sound)).0

low_label : (marks behind : List MarkedByte) (label : Option (List ℕ)) → IsLabel marks label → LowStart behind → LowStart (marks ++ behind)
low_label marks behind None is low = subst (λ (l : List MarkedByte). LowStart (l ++ behind)) (sym is) low
low_label marks behind (Some text) is low = low_quoted marks behind text is

sound_label : (marks behind : List MarkedByte) (label : Option (List ℕ)) → IsLabel marks label → Sound (marks ++ behind) → IsTextOrNone label
sound_label marks behind None is sound = tt
sound_label marks behind (Some text) is sound = (sound_quoted marks behind text is sound).0

-- ---- xref lists

fits_entry : (marks : List MarkedByte) (xref : Xref) → IsEntry marks xref → Sound marks → FitsXref xref
fits_entry marks xref is sound =
    let rest = is.between ++ (is.label ++ is.behind) in
    let whole : Sound (is.before ++ (is.id ++ rest)) = subst Sound (is.whole ∙ nested is.before is.id is.between is.label is.behind) sound in
    let behind_low : LowStart is.behind = subst LowStart (append-nil is.behind) (low_blanks is.behind [] is.blank_behind tt) in
    let low : LowStart rest = low_blanks is.between (is.label ++ is.behind) is.blank_between (low_label is.label is.behind xref.label is.labelled behind_low) in
    let cut = sound_cut is.id rest low (sound_behind_blanks is.before (is.id ++ rest) is.blank_before whole) in
    record {
      id = record { some = some_read is.id xref.id is.read is.some; text = text_read is.id xref.id is.read cut.0 };
      label = sound_label is.label is.behind xref.label is.labelled (sound_behind_blanks is.between (is.label ++ is.behind) is.blank_between cut.1);
    }
  where
    nested : (a b c d e : List MarkedByte) → a ++ b ++ c ++ d ++ e ≡ a ++ (b ++ (c ++ (d ++ e)))
    nested a b c d e = simp append_assoc

fits_slot : (marks : List MarkedByte) (xrefs : List Xref) → IsSlot marks xrefs → Sound marks → All FitsXref xrefs
fits_slot marks _ (grammar.IsSlot.skipped blank) sound = All-nil FitsXref
fits_slot marks _ (grammar.IsSlot.filled xref entry) sound = All-cons FitsXref xref [] (fits_entry marks xref entry sound) (All-nil FitsXref)

fits_slots : (marks : List MarkedByte) (xrefs : List Xref) → AreSlots marks xrefs → Sound marks → All FitsXref xrefs
fits_slots _ _ (grammar.AreSlots.last marks xrefs slot) sound = fits_slot marks xrefs slot sound
fits_slots _ _ (grammar.AreSlots.more marks rest xrefs others slot slots) sound =
    let cut = sound_cut marks (comma ∷ rest) (omega arith) sound in
    All-append FitsXref xrefs others (fits_slot marks xrefs slot cut.0) (fits_slots rest others slots (sound_front comma rest (omega arith) cut.1))

fits_list : (marks behind : List MarkedByte) (xrefs : List Xref) → IsXrefList marks xrefs → Sound (marks ++ behind) → All FitsXref xrefs
fits_list marks behind xrefs is sound =
    let whole : Sound (list_open ∷ ((is.inside ++ list_close ∷ []) ++ behind)) = subst (λ (l : List MarkedByte). Sound (l ++ behind)) is.whole sound in
    let inner : Sound (is.inside ++ list_close ∷ behind) = subst Sound (append_assoc is.inside (list_close ∷ []) behind) (sound_front list_open ((is.inside ++ list_close ∷ []) ++ behind) (omega arith) whole) in
    fits_slots is.inside xrefs is.slots (sound_cut is.inside (list_close ∷ behind) (omega arith) inner).0

fits_more_list : (marks behind : List MarkedByte) (xrefs : List Xref) → IsMoreList marks xrefs → Sound (marks ++ behind) → All FitsXref xrefs
fits_more_list _ behind _ spelling.IsMoreList.nothing sound = All-nil FitsXref
fits_more_list _ behind _ (spelling.IsMoreList.list blanks marks xrefs blank list) sound =
    fits_list marks behind xrefs list (sound_behind_blanks blanks (marks ++ behind) blank (subst Sound (append_assoc blanks marks behind) sound))

low_list : (marks behind : List MarkedByte) (xrefs : List Xref) → IsXrefList marks xrefs → LowStart (marks ++ behind)
low_list marks behind xrefs is = subst (λ (l : List MarkedByte). LowStart (l ++ behind)) (sym is.whole) (omega arith)

low_more_list : (marks behind : List MarkedByte) (xrefs : List Xref) → IsMoreList marks xrefs → LowStart behind → LowStart (marks ++ behind)
low_more_list _ behind _ spelling.IsMoreList.nothing low = low
low_more_list _ behind _ (spelling.IsMoreList.list blanks marks xrefs blank list) low =
    subst LowStart (sym (append_assoc blanks marks behind)) (low_blanks blanks (marks ++ behind) blank (low_list marks behind xrefs list))

-- ---- the words behind a quoted text

-- the word behind blanks, and what stands behind it
sound_word : (blanks marks behind : List MarkedByte) (word : List ℕ) → AreBlanks blanks → IsWord marks word → LowStart behind → Sound ((blanks ++ marks) ++ behind) → IsWordText word × Sound behind
sound_word blanks marks behind word blank is low sound =
    let cut = sound_cut marks behind low (sound_behind_blanks blanks (marks ++ behind) blank (subst Sound (append_assoc blanks marks behind) sound)) in
    (word_text_of marks word is cut.0, cut.1)

datatype_fits : IsWordText text_datatype
unfolding is_line_byte
datatype_fits = record { some = omega arith; text = text_of_line text_datatype (IsLine-constant text_datatype refl) }

fits_more_word : (marks behind : List MarkedByte) (datatype : Option (List ℕ)) → IsMoreWord marks datatype → LowStart behind → Sound (marks ++ behind) → IsWordOrNone datatype
fits_more_word _ behind _ spelling.IsMoreWord.nothing low sound = tt
fits_more_word _ behind _ (spelling.IsMoreWord.word blanks marks word blank is) low sound = (sound_word blanks marks behind word blank is low sound).0

low_second : (marks behind : List MarkedByte) (type : Option (List ℕ)) → IsSecondWord marks type → LowStart behind → LowStart (marks ++ behind)
low_second _ behind _ spelling.IsSecondWord.nothing low = low
low_second _ behind _ (spelling.IsSecondWord.word blanks marks word some blank is) low = subst LowStart (sym (append_assoc blanks marks behind)) (low_gap blanks (marks ++ behind) some blank)

fits_second : (marks behind : List MarkedByte) (type : Option (List ℕ)) → IsSecondWord marks type → LowStart behind → Sound (marks ++ behind) → IsWordOrNone type × Sound behind
fits_second _ behind _ spelling.IsSecondWord.nothing low sound = (tt, sound)
fits_second _ behind _ (spelling.IsSecondWord.word blanks marks word some blank is) low sound = sound_word blanks marks behind word blank is low sound

fits_scoped : (marks behind : List MarkedByte) (one : Scope) (type : Option (List ℕ)) → IsScoped marks one type → LowStart behind → Sound (marks ++ behind) → IsWordOrNone type × Sound behind
fits_scoped _ behind _ _ spelling.IsScoped.nothing low sound = (tt, sound)
fits_scoped _ behind _ _ (spelling.IsScoped.scoped blanks marks more one type blank is second) low sound =
    let whole : Sound ((blanks ++ marks) ++ (more ++ behind)) = subst Sound (append_assoc (blanks ++ marks) more behind) sound in
    fits_second more behind type second low (sound_word blanks marks (more ++ behind) _ blank is (low_second more behind type second low) whole).1
fits_scoped _ behind _ _ (spelling.IsScoped.typed blanks marks word blank is no_scope) low sound = sound_word blanks marks behind word blank is low sound

-- ---- endings

key_bytes : (marks : List MarkedByte) → AllPass is_key_mark marks → AllPass (λ byte. is_key_mark (bare byte)) (read_as marks)
key_bytes [] each = All-nil (λ byte. is_key_mark (bare byte) ≡ true)
key_bytes (mark ∷ marks) each =
    All-cons (λ byte. is_key_mark (bare byte) ≡ true) mark.byte (read_as marks)
    (and_parts (not mark.is_escaped) _ (All-head (λ one. is_key_mark one ≡ true) mark marks each)).1
    (key_bytes marks (All-tail (λ one. is_key_mark one ≡ true) mark marks each))

unquoted_or_quoted : (marks : List MarkedByte) (text : List ℕ) → IsQuoted marks text ⊎ IsUnquoted marks text → Sound marks → IsText text
unquoted_or_quoted marks text (inl quoted) sound = quoted_text_of marks text quoted sound
unquoted_or_quoted marks text (inr unquoted) sound = text_read marks text unquoted.read sound

fits_qualifier : (marks : List MarkedByte) (qualifier : Qualifier) → IsQualifier marks qualifier → Sound marks → FitsQualifier qualifier
fits_qualifier marks qualifier is sound =
    let whole : Sound (is.key ++ (is.before ++ equals ∷ (is.behind ++ is.value))) = subst Sound (is.whole ∙ append_assoc is.key is.before (equals ∷ (is.behind ++ is.value))) sound in
    let cut = sound_cut is.key (is.before ++ equals ∷ (is.behind ++ is.value)) (low_blanks is.before (equals ∷ (is.behind ++ is.value)) is.blank_before (omega arith)) whole in
    let value = sound_behind_blanks is.behind is.value is.blank_behind (sound_front equals (is.behind ++ is.value) (omega arith) (sound_behind_blanks is.before (equals ∷ (is.behind ++ is.value)) is.blank_before cut.1)) in
    record {
      some = some_read is.key qualifier.key is.keyed.read is.keyed.some;
      each = subst (AllPass (λ byte. is_key_mark (bare byte))) is.keyed.read (key_bytes is.key is.keyed.each);
      utf8 = (text_read is.key qualifier.key is.keyed.read cut.0).utf8;
      value = unquoted_or_quoted is.value qualifier.value is.valued value;
    }

fits_qualifiers : (marks : List MarkedByte) (qualifiers : List Qualifier) → AreQualifiers marks qualifiers → Sound marks → All FitsQualifier qualifiers
fits_qualifiers _ _ (grammar.AreQualifiers.last marks qualifier is) sound = All-cons FitsQualifier qualifier [] (fits_qualifier marks qualifier is sound) (All-nil FitsQualifier)
fits_qualifiers _ _ (grammar.AreQualifiers.more marks before behind rest qualifier others is blank_before blank_behind are) sound =
    let whole : Sound (marks ++ (before ++ comma ∷ (behind ++ rest))) = subst Sound (append_assoc marks before (comma ∷ (behind ++ rest))) sound in
    let cut = sound_cut marks (before ++ comma ∷ (behind ++ rest)) (low_blanks before (comma ∷ (behind ++ rest)) blank_before (omega arith)) whole in
    let later = sound_behind_blanks behind rest blank_behind (sound_front comma (behind ++ rest) (omega arith) (sound_behind_blanks before (comma ∷ (behind ++ rest)) blank_before cut.1)) in
    All-cons FitsQualifier qualifier others (fits_qualifier marks qualifier is cut.0) (fits_qualifiers rest others are later)

fits_block : (marks behind : List MarkedByte) (qualifiers : List Qualifier) → IsBlock marks qualifiers → Sound (marks ++ behind) → All FitsQualifier qualifiers
fits_block marks behind qualifiers is sound =
    let last = is.behind ++ block_close ∷ behind in
    let whole : Sound (block_open ∷ (is.before ++ (is.inside ++ last))) = subst Sound (ap (λ l. l ++ behind) is.whole ∙ ap (λ l. block_open ∷ l) (nested is.before is.inside is.behind behind)) sound in
    let inner = sound_behind_blanks is.before (is.inside ++ last) is.blank_before (sound_front block_open (is.before ++ (is.inside ++ last)) (omega arith) whole) in
    fits_qualifiers is.inside qualifiers is.within (sound_cut is.inside last (low_blanks is.behind (block_close ∷ behind) is.blank_behind (omega arith)) inner).0
  where
    nested : (a b c d : List MarkedByte) → (a ++ b ++ c ++ block_close ∷ []) ++ d ≡ a ++ (b ++ (c ++ block_close ∷ d))
    nested a b c d = simp append_assoc

fits_ending : (marks : List MarkedByte) (qualifiers : List Qualifier) → IsEnding marks qualifiers → Sound marks → All FitsQualifier qualifiers
fits_ending _ _ (grammar.IsEnding.bare comment is) sound = All-nil FitsQualifier
fits_ending _ _ (grammar.IsEnding.qualified block blanks comment qualifiers is blank commented) sound =
    fits_block block (blanks ++ comment) qualifiers is (subst Sound (append_assoc block blanks comment) sound)

low_comment : (marks : List MarkedByte) → IsComment marks → LowStart marks
low_comment _ grammar.IsComment.nothing = tt
low_comment _ (grammar.IsComment.comment rest) = omega arith

low_ending : (marks : List MarkedByte) (qualifiers : List Qualifier) → IsEnding marks qualifiers → LowStart marks
low_ending _ _ (grammar.IsEnding.bare comment is) = low_comment comment is
low_ending _ _ (grammar.IsEnding.qualified block blanks comment qualifiers is blank commented) =
    subst LowStart (ap (λ l. l ++ blanks ++ comment) (sym is.whole)) (omega arith)

-- ---- values

-- two words with blanks between them
fits_words : (marks blanks others behind : List MarkedByte) (first second : List ℕ) → IsWord marks first → 0 < length blanks → AreBlanks blanks → IsWord others second → LowStart behind → Sound ((marks ++ blanks ++ others) ++ behind) → IsWordText first × IsWordText second
fits_words marks blanks others behind first second left some blank right low sound =
    let whole : Sound (marks ++ ((blanks ++ others) ++ behind)) = subst Sound (nested marks blanks others behind) sound in
    let cut = sound_cut marks ((blanks ++ others) ++ behind) (subst LowStart (sym (append_assoc blanks others behind)) (low_gap blanks (others ++ behind) some blank)) whole in
    (word_text_of marks first left cut.0, (sound_word blanks others behind second blank right low cut.1).0)
  where
    nested : (a b c d : List MarkedByte) → (a ++ b ++ c) ++ d ≡ a ++ ((b ++ c) ++ d)
    nested a b c d = ap (λ l. l ++ d) (append_assoc a b c) ∙ append_assoc a (b ++ c) d

-- a word, blanks and a quoted text, and what stands behind them
fits_described : (marks blanks texts behind : List MarkedByte) (word text : List ℕ) → IsWord marks word → AreBlanks blanks → IsQuoted texts text → Sound ((marks ++ blanks ++ texts) ++ behind) → IsWordText word × IsText text × Sound behind
fits_described marks blanks texts behind word text is blank quoted sound =
    let whole : Sound (marks ++ (blanks ++ (texts ++ behind))) = subst Sound (nested marks blanks texts behind) sound in
    let cut = sound_cut marks (blanks ++ (texts ++ behind)) (low_blanks blanks (texts ++ behind) blank (low_quoted texts behind text quoted)) whole in
    let later = sound_quoted texts behind text quoted (sound_behind_blanks blanks (texts ++ behind) blank cut.1) in
    (word_text_of marks word is cut.0, later.0, later.1)
  where
    nested : (a b c d : List MarkedByte) → (a ++ b ++ c) ++ d ≡ a ++ (b ++ (c ++ d))
    nested a b c d = simp append_assoc

datatype_of : (datatype : Option (List ℕ)) → IsWordOrNone datatype → IsWordText (unwrap_or datatype text_datatype)
datatype_of None is = datatype_fits
datatype_of (Some word) is = is

fits_value : (behind : List MarkedByte) (shape : ValueShape) (marks : List MarkedByte) (one : Value) (qualifiers : List Qualifier) → IsValue behind shape marks one → LowStart behind → Sound (marks ++ behind) → All FitsQualifier qualifiers → FitsShape shape one × FitBehind shape qualifiers
fits_value behind _ _ _ qualifiers (spelling.IsValue.text marks text run) low sound all = (text_read marks text run.read (sound_cut marks behind low sound).0, all)
fits_value behind _ _ _ qualifiers (spelling.IsValue.id marks word is) low sound all = (word_text_of marks word is (sound_cut marks behind low sound).0, all)
fits_value behind _ _ _ qualifiers (spelling.IsValue.pair marks blanks others first second left some blank right) low sound all =
    (fits_words marks blanks others behind first second left some blank right low sound, all)
fits_value behind _ _ _ qualifiers (spelling.IsValue.class marks word is) low sound all = (word_text_of marks word is (sound_cut marks behind low sound).0, all)
fits_value behind _ _ _ qualifiers (spelling.IsValue.restriction marks blanks others first second left some blank right) low sound all =
    (fits_words marks blanks others behind first second left some blank right low sound, all)
fits_value behind _ _ _ qualifiers (spelling.IsValue.truth marks truth is) low sound all = (tt, all)
fits_value behind _ _ _ qualifiers (spelling.IsValue.definition marks more text xrefs quoted listed) low sound all =
    let cut = sound_quoted marks (more ++ behind) text quoted (subst Sound (append_assoc marks more behind) sound) in
    ((cut.0, fits_more_list more behind xrefs listed cut.1), all)
fits_value behind _ _ _ qualifiers (spelling.IsValue.synonym marks scopes more text one type xrefs quoted has_scope listed) low sound all =
    let whole : Sound (marks ++ (scopes ++ (more ++ behind))) = subst Sound (append_assoc (marks ++ scopes) more behind ∙ append_assoc marks scopes (more ++ behind)) sound in
    let cut = sound_quoted marks (scopes ++ (more ++ behind)) text quoted whole in
    let later = fits_scoped scopes (more ++ behind) one type has_scope (low_more_list more behind xrefs listed low) cut.1 in
    ((cut.0, later.0, fits_more_list more behind xrefs listed later.1), all)
fits_value behind _ _ _ qualifiers (spelling.IsValue.xref marks blanks more xref some quoted run blank labelled) low sound all =
    let whole : Sound (marks ++ (blanks ++ (more ++ behind))) = subst Sound (append_assoc (marks ++ blanks) more behind ∙ append_assoc marks blanks (more ++ behind)) sound in
    let cut = sound_cut marks (blanks ++ (more ++ behind)) (low_blanks blanks (more ++ behind) blank (low_label more behind xref.label labelled low)) whole in (
      record {
        id = record { some = some_read marks xref.id run.read some; text = text_read marks xref.id run.read cut.0 };
        label = sound_label more behind xref.label labelled (sound_behind_blanks blanks (more ++ behind) blank cut.1);
      },
      all,
    )
fits_value behind _ _ _ qualifiers (spelling.IsValue.literal marks blanks texts more relation text datatype is blank quoted typed) low sound all =
    let whole : Sound ((marks ++ blanks ++ texts) ++ (more ++ behind)) = subst Sound (append_assoc (marks ++ blanks ++ texts) more behind) sound in
    let parts = fits_described marks blanks texts (more ++ behind) relation text is blank quoted whole in
    ((parts.0, parts.1, datatype_of datatype (fits_more_word more behind datatype typed low parts.2)), all)
fits_value behind _ _ _ qualifiers (spelling.IsValue.link marks blanks others relation target left some blank right) low sound all =
    (fits_words marks blanks others behind relation target left some blank right low sound, all)
fits_value behind _ _ _ qualifiers (spelling.IsValue.subset marks blanks texts id text is blank quoted) low sound all =
    let parts = fits_described marks blanks texts behind id text is blank quoted sound in
    ((parts.0, parts.1), all)
fits_value behind _ _ _ qualifiers (spelling.IsValue.synonym_type marks blanks texts more id text one is blank quoted has_scope) low sound all =
    let whole : Sound ((marks ++ blanks ++ texts) ++ (more ++ behind)) = subst Sound (append_assoc (marks ++ blanks ++ texts) more behind) sound in
    let parts = fits_described marks blanks texts (more ++ behind) id text is blank quoted whole in
    ((parts.0, parts.1), all)

-- ---- what stands behind the colon, and clauses

fits_content : (shape : ValueShape) (bytes : List ℕ) (one : Value) (qualifiers : List Qualifier) → IsQualifiedValue shape bytes one qualifiers → IsLine bytes → FitsShape shape one × FitBehind shape qualifiers
fits_content _ _ _ _ (spelling.IsQualifiedValue.raw before text behind blank_before trimmed blank_behind) line =
    let inner = line_behind_blanks before (text ++ behind) blank_before (subst IsLine (append_assoc before text behind) line) in
    (record { trimmed = trimmed; line = (line_cut text behind (starts_low_blanks behind blank_behind) inner).0 }, refl)
fits_content _ _ _ _ (spelling.IsQualifiedValue.shaped shape bytes before marks between ending one qualifiers whole blank_before value blank_between ended) line =
    let sound : Sound (before ++ (marks ++ (between ++ ending))) = subst Sound (whole ∙ append_assoc (before ++ marks) between ending ∙ append_assoc before marks (between ++ ending)) (sound_line bytes line) in
    let inner = sound_behind_blanks before (marks ++ (between ++ ending)) blank_before sound in
    let low = low_blanks between ending blank_between (low_ending ending qualifiers ended) in
    let behind = sound_behind_blanks between ending blank_between (sound_cut marks (between ++ ending) low inner).1 in
    fits_value (between ++ ending) shape marks one qualifiers value low inner (fits_ending ending qualifiers ended behind)

pub spelled_fits : (kind : FrameKind) (first : Bool) (clause : Clause) → IsSpelledAs kind first clause → Fits kind first clause
spelled_fits kind first clause is =
    let tagged = is.spells.tagged in
    let rest = is.spells.rest in
    let whole : IsLine ((tagged.before ++ clause.tag ++ tagged.between) ++ 58 ∷ rest) = subst IsLine tagged.whole is.is_line in
    let behind = line_front 58 rest (omega arith) (line_cut (tagged.before ++ clause.tag ++ tagged.between) (58 ∷ rest) (omega arith) whole).1 in
    let content = fits_content (shape_at kind first clause.tag) rest clause.value clause.qualifiers is.spells.valued behind in
    record { some = tagged.some; each = tagged.each; value = content.0; qualifiers = content.1 }
