-- Blocks of qualifiers, as they are printed.
use Rattle.std.proofs.Common.{◌≡◌, ℕ, ◌==◌, true, false, ◌||◌, List, [], ◌∷◌, ◌++◌, codes, map, refl, sym, ap, subst, ◌∙◌, append-nil, inl, arith}
use Rattle.std.specs.List.{All, flat_map}
use Rattle.std.proofs.lemmas.Bool.{not-true, not_from_false, or_from, or_parts}
use Rattle.std.proofs.lemmas.List.Elements.{All-head, All-map, All-nil, All-tail, All-weaker}
use Rattle.std.proofs.lemmas.List.Folds.{list_any_none}
use Rattle.rel_io.specs.Texts.{IsText, is_return}
use Rattle.obo_lexer.specs.Tokens.{is_blank}
use Rattle.obo_clause.specs.declared.clause.Qualifier.{Qualifier}
use Rattle.obo_clause.specs.Grammar.{AreBlanks, AreQualifiers, IsBlock, IsComment, IsEnding, IsKey, IsQualifier, IsQuoted}
use Rattle.obo_clause.specs.Grammar as grammar
use Rattle.obo_clause.specs.declared.mark.MarkedByte.{MarkedByte}
use Rattle.obo_clause.specs.Marks.{bare, read_as}
use Rattle.obo_clause.specs.Fits.{FitsQualifier}
use Rattle.clause_printer.specs.Printing.{block_text, qualifier_text, quoted_text}
use Rattle.obo_clause.specs.Vocabulary.{block_close, block_open, comma, equals, is_key_mark, is_one_of, is_space}
use Rattle.clause_printer.proofs.SpelledMarks.{is_spellable, spelled}
use Rattle.clause_printer.proofs.PrintedParts.{Are, Prints, Prints-append, Prints-nil, Prints-sign, Prints-weaker, other_byte, prints_marks, some-map}
use Rattle.clause_printer.proofs.PrintedRuns.{prints_blanks, prints_comma, prints_quoted}

-- ---- keys

-- a byte that may stand in a key is none of the signs that may not
key_byte : (byte one : ℕ) → is_one_of (10 ∷ 13 ∷ codes "=,{}\"!\\") one ≡ true → is_key_mark (bare byte) ≡ true → (byte == one) ≡ false
key_byte byte one sign is =
    other_byte (is_one_of (10 ∷ 13 ∷ codes "=,{}\"!\\")) byte one sign
    (or_parts (is_blank byte) (is_one_of (10 ∷ 13 ∷ codes "=,{}\"!\\") byte) (not-true (is_blank byte || is_one_of (10 ∷ 13 ∷ codes "=,{}\"!\\") byte) is)).1

key_spellable : (byte : ℕ) → is_key_mark (bare byte) ≡ true → is_spellable (bare byte) ≡ true
key_spellable byte is = not_from_false (byte == 92 || byte == 10) (or_from _ _ (key_byte byte 92 refl is) (key_byte byte 10 refl is))

read_as-bare : (text : List ℕ) → read_as (map bare text) ≡ text
read_as-bare [] = refl
read_as-bare (byte ∷ text) = ap (λ l. byte ∷ l) (read_as-bare text)

spelled-bare : (text : List ℕ) → spelled (map bare text) ≡ text
spelled-bare [] = refl
spelled-bare (byte ∷ text) = ap (λ l. byte ∷ l) (spelled-bare text)

key_is_text : (qualifier : Qualifier) → FitsQualifier qualifier → IsText qualifier.key
key_is_text qualifier fits = record {
  utf8 = fits.utf8;
  no_return = list_any_none is_return qualifier.key (All-weaker (λ byte. is_key_mark (bare byte) ≡ true) (λ byte. is_return byte ≡ false) (λ byte is. key_byte byte 13 refl is) qualifier.key fits.each);
}

prints_key : (qualifier : Qualifier) → FitsQualifier qualifier → Prints (λ marks. IsKey marks qualifier.key) qualifier.key
prints_key qualifier fits =
    prints_marks (λ marks. IsKey marks qualifier.key) (map bare qualifier.key) qualifier.key (spelled-bare qualifier.key)
    (All-map (λ mark. is_spellable mark ≡ true) bare qualifier.key (All-weaker (λ byte. is_key_mark (bare byte) ≡ true) (λ byte. is_spellable (bare byte) ≡ true) key_spellable qualifier.key fits.each))
    (subst IsText (sym (read_as-bare qualifier.key)) (key_is_text qualifier fits))
    (record {
      some = some-map bare qualifier.key fits.some;
      each = All-map (λ mark. is_key_mark mark ≡ true) bare qualifier.key fits.each;
      read = read_as-bare qualifier.key;
    })

-- ---- qualifiers

abbrev IsBehindKey : Qualifier → List MarkedByte → Type 0
IsBehindKey qualifier marks = (value : List MarkedByte) × (marks ≡ equals ∷ value) × IsQuoted value qualifier.value

prints_behind_key : (qualifier : Qualifier) → FitsQualifier qualifier → Prints (IsBehindKey qualifier) (61 ∷ quoted_text qualifier.value)
prints_behind_key qualifier fits =
    Prints-append (Are (equals ∷ [])) (λ marks. IsQuoted marks qualifier.value) (IsBehindKey qualifier) (61 ∷ []) (quoted_text qualifier.value)
    (λ ms ns one quoted. (ns, ap (λ l. l ++ ns) one, quoted))
    (Prints-sign 61 (omega arith) refl refl refl) (prints_quoted qualifier.value fits.value)

prints_qualifier : (qualifier : Qualifier) → FitsQualifier qualifier → Prints (λ marks. IsQualifier marks qualifier) (qualifier_text qualifier)
prints_qualifier qualifier fits =
    Prints-append (λ marks. IsKey marks qualifier.key) (IsBehindKey qualifier) (λ marks. IsQualifier marks qualifier) qualifier.key (61 ∷ quoted_text qualifier.value)
    (λ ms ns keyed behind. record {
      key = ms;
      before = [];
      behind = [];
      value = behind.0;
      whole = ap (λ l. ms ++ l) behind.1 ∙ ap (λ l. l ++ equals ∷ behind.0) (sym (append-nil ms));
      keyed = keyed;
      blank_before = All-nil (λ mark. is_space mark ≡ true);
      blank_behind = All-nil (λ mark. is_space mark ≡ true);
      valued = inl behind.2;
    })
    (prints_key qualifier fits) (prints_behind_key qualifier fits)

abbrev other_qualifiers : List Qualifier → List ℕ
other_qualifiers qualifiers = flat_map (λ qualifier. codes ", " ++ qualifier_text qualifier) qualifiers

-- a comma, blanks and qualifiers
record AreBehindComma (qualifiers : List Qualifier) (marks : List MarkedByte) : Type 0 where
  blanks : List MarkedByte
  rest : List MarkedByte
  whole : marks ≡ comma ∷ (blanks ++ rest)
  blank : AreBlanks blanks
  are : AreQualifiers rest qualifiers

more_qualifiers : (qualifier : Qualifier) (others : List Qualifier) (marks more : List MarkedByte) → IsQualifier marks qualifier → AreBehindComma others more → AreQualifiers (marks ++ more) (qualifier ∷ others)
more_qualifiers qualifier others marks more one are =
    subst (λ (l : List MarkedByte). AreQualifiers l (qualifier ∷ others)) (ap (λ l. l ++ comma ∷ (are.blanks ++ are.rest)) (append-nil marks) ∙ ap (λ l. marks ++ l) (sym are.whole))
    (grammar.AreQualifiers.more marks [] are.blanks are.rest qualifier others one (All-nil (λ mark. is_space mark ≡ true)) are.blank are.are)

prints_qualifiers : (qualifier : Qualifier) (others : List Qualifier) → FitsQualifier qualifier → All FitsQualifier others → Prints (λ marks. AreQualifiers marks (qualifier ∷ others)) (qualifier_text qualifier ++ other_qualifiers others)
prints_qualifiers qualifier [] fits all =
    subst (Prints (λ marks. AreQualifiers marks (qualifier ∷ []))) (sym (append-nil (qualifier_text qualifier)))
    (Prints-weaker (λ marks. IsQualifier marks qualifier) (λ marks. AreQualifiers marks (qualifier ∷ [])) (qualifier_text qualifier)
    (λ marks one. grammar.AreQualifiers.last marks qualifier one) (prints_qualifier qualifier fits))
prints_qualifiers qualifier (next ∷ others) fits all =
    let later = prints_qualifiers next others (All-head FitsQualifier next others all) (All-tail FitsQualifier next others all) in
    Prints-append (λ marks. IsQualifier marks qualifier) (AreBehindComma (next ∷ others)) (λ marks. AreQualifiers marks (qualifier ∷ next ∷ others))
    (qualifier_text qualifier) (other_qualifiers (next ∷ others)) (more_qualifiers qualifier (next ∷ others)) (prints_qualifier qualifier fits)
    (Prints-append (Are (comma ∷ [])) (λ marks. (blanks : List MarkedByte) × (rest : List MarkedByte) × (marks ≡ blanks ++ rest) × AreBlanks blanks × AreQualifiers rest (next ∷ others)) (AreBehindComma (next ∷ others)) (44 ∷ []) _
    (λ ms ns one behind. record { blanks = behind.0; rest = behind.1; whole = ap (λ l. l ++ ns) one ∙ ap (λ l. comma ∷ l) behind.2; blank = behind.3; are = behind.4 })
    prints_comma
    (Prints-append AreBlanks (λ marks. AreQualifiers marks (next ∷ others)) (λ marks. (blanks : List MarkedByte) × (rest : List MarkedByte) × (marks ≡ blanks ++ rest) × AreBlanks blanks × AreQualifiers rest (next ∷ others)) (codes " ") _
    (λ ms ns blank are. (ms, ns, refl, blank, are)) prints_blanks later))

-- ---- blocks

abbrev IsBehindOpen : List Qualifier → List MarkedByte → Type 0
IsBehindOpen qualifiers marks = (inside : List MarkedByte) × (marks ≡ inside ++ block_close ∷ []) × AreQualifiers inside qualifiers

block_of : (qualifiers : List Qualifier) (ms ns : List MarkedByte) → ms ≡ block_open ∷ [] → IsBehindOpen qualifiers ns → IsEnding (ms ++ ns) qualifiers
block_of qualifiers ms ns begun ended =
    let block = ms ++ ns in
    subst (λ (l : List MarkedByte). IsEnding l qualifiers) (append-nil (block ++ []) ∙ append-nil block)
    (grammar.IsEnding.qualified block [] [] qualifiers (record {
      before = [];
      inside = ended.0;
      behind = [];
      whole = ap (λ l. l ++ ns) begun ∙ ap (λ l. block_open ∷ l) (ended.1 ∙ ap (λ l. l ++ block_close ∷ []) (sym (append-nil ended.0)));
      blank_before = All-nil (λ mark. is_space mark ≡ true);
      blank_behind = All-nil (λ mark. is_space mark ≡ true);
      within = ended.2;
    }) (All-nil (λ mark. is_space mark ≡ true)) grammar.IsComment.nothing)

pub prints_ending : (qualifiers : List Qualifier) → All FitsQualifier qualifiers → Prints (λ marks. IsEnding marks qualifiers) (block_text qualifiers)
prints_ending [] all = Prints-nil (λ marks. IsEnding marks []) (grammar.IsEnding.bare [] grammar.IsComment.nothing)
prints_ending (qualifier ∷ others) all =
    Prints-append (Are (block_open ∷ [])) (IsBehindOpen (qualifier ∷ others)) (λ marks. IsEnding marks (qualifier ∷ others)) (123 ∷ []) _
    (block_of (qualifier ∷ others)) (Prints-sign 123 (omega arith) refl refl refl)
    (Prints-append (λ marks. AreQualifiers marks (qualifier ∷ others)) (Are (block_close ∷ [])) (IsBehindOpen (qualifier ∷ others)) _ (125 ∷ [])
    (λ ms ns are closed. (ms, ap (λ l. ms ++ l) closed, are))
    (prints_qualifiers qualifier others (All-head FitsQualifier qualifier others all) (All-tail FitsQualifier qualifier others all)) (Prints-sign 125 (omega arith) refl refl refl))
