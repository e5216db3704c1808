-- Signs and classes of marks: what a sign is, and which marks two classes share.
use Rattle.std.proofs.Common.{◌≡◌, ℕ, ◌==◌, Bool, true, false, not, ◌&&◌, ◌||◌, cond, List, [], ◌∷◌, Some, None, refl, sym, ap, ◌∙◌, ◌⊎◌, inl, inr, ⊎_elim}
use Rattle.std.proofs.lemmas.Bool.{and_parts, eqb-true, false≢true, not-true, or_cases}
use Rattle.obo_lexer.specs.Tokens.{is_blank}
use Rattle.obo_clause.specs.Faults.{Stops, is_list_open, is_quote}
use Rattle.obo_clause.specs.Marks.{MarkedByte, bare}
use Rattle.obo_clause.specs.Reading.{behind_sign, is_sign}
use Rattle.obo_clause.specs.Vocabulary.{is_entry_mark, is_key_mark, is_quoted_mark, is_space, is_unquoted_mark, is_word_mark}

-- ---- signs

sign-is : (sign byte : ℕ) (escaped : Bool) → (not escaped && byte == sign) ≡ true → ◌≡◌ {A = MarkedByte} (record { byte = byte; is_escaped = escaped }) (bare sign)
sign-is sign byte escaped h =
    let parts = and_parts (not escaped) (byte == sign) h in
    let one : byte ≡ sign = eqb-true byte sign parts.1 in
    let two : escaped ≡ false = not-true escaped parts.0 in
    λ i. record { byte = one i; is_escaped = two i }

pub is_sign-bare : (sign : ℕ) (mark : MarkedByte) → is_sign sign mark ≡ true → mark ≡ bare sign
is_sign-bare sign mark h = sign-is sign mark.byte mark.is_escaped h

sign-step : (sign : ℕ) (mark : MarkedByte) (marks rest : List MarkedByte) (b : Bool) → is_sign sign mark ≡ b → cond b (Some marks) None ≡ Some rest → mark ∷ marks ≡ bare sign ∷ rest
sign-step sign mark marks rest true e h =
    let same : marks ≡ rest = cc in λ i. is_sign-bare sign mark e i ∷ same i
sign-step sign mark marks rest false e h = cc

pub behind_sign-found : (sign : ℕ) (marks rest : List MarkedByte) → behind_sign sign marks ≡ Some rest → marks ≡ bare sign ∷ rest
behind_sign-found sign [] rest h = cc
behind_sign-found sign (mark ∷ marks) rest h = sign-step sign mark marks rest (is_sign sign mark) refl h

sign-none : (sign : ℕ) (mark : MarkedByte) (marks : List MarkedByte) (b : Bool) → is_sign sign mark ≡ b → cond b (Some marks) None ≡ None → is_sign sign mark ≡ false
sign-none sign mark marks true e h = cc
sign-none sign mark marks false e h = e

pub behind_sign-none : (sign : ℕ) (marks : List MarkedByte) → behind_sign sign marks ≡ None → Stops (is_sign sign) marks
behind_sign-none sign [] h = tt
behind_sign-none sign (mark ∷ marks) h = sign-none sign mark marks (is_sign sign mark) refl h

pub behind_sign-stops : (sign : ℕ) (marks : List MarkedByte) → Stops (is_sign sign) marks → behind_sign sign marks ≡ None
behind_sign-stops sign [] stops = refl
behind_sign-stops sign (mark ∷ marks) stops = ap (λ b. cond b (Some marks) None) stops

-- stops by one test are stops by another
pub stops-by : (p q : MarkedByte → Bool) → ((mark : MarkedByte) → p mark ≡ false → q mark ≡ false) → (marks : List MarkedByte) → Stops p marks → Stops q marks
stops-by p q weaker [] stops = tt
stops-by p q weaker (mark ∷ marks) stops = weaker mark stops

-- a class of one byte is a sign
or-false : (b : Bool) → (b || false) ≡ b
or-false true = refl
or-false false = refl

and-or : (a b : Bool) → (a && (b || false)) ≡ (a && b)
and-or a b = ap (λ c. a && c) (or-false b)

pub is_quote-sign : (mark : MarkedByte) → is_quote mark ≡ is_sign 34 mark
is_quote-sign mark = and-or (not mark.is_escaped) (mark.byte == 34)

pub is_list_open-sign : (mark : MarkedByte) → is_list_open mark ≡ is_sign 91 mark
is_list_open-sign mark = and-or (not mark.is_escaped) (mark.byte == 91)

module _ (p q : MarkedByte → Bool) (same : (mark : MarkedByte) → p mark ≡ q mark) where
  pub stops-same : (marks : List MarkedByte) → Stops p marks → Stops q marks
  stops-same [] stops = tt
  stops-same (mark ∷ marks) stops = sym (same mark) ∙ stops

  pub stops-back : (marks : List MarkedByte) → Stops q marks → Stops p marks
  stops-back [] stops = tt
  stops-back (mark ∷ marks) stops = same mark ∙ stops

pub no_quote : (marks : List MarkedByte) → Stops is_quote marks → behind_sign 34 marks ≡ None
no_quote marks stops = behind_sign-stops 34 marks (stops-same is_quote (is_sign 34) is_quote-sign marks stops)

pub quote_stops : (marks : List MarkedByte) → behind_sign 34 marks ≡ None → Stops is_quote marks
quote_stops marks none = stops-back is_quote (is_sign 34) is_quote-sign marks (behind_sign-none 34 marks none)

pub no_list : (marks : List MarkedByte) → Stops is_list_open marks → behind_sign 91 marks ≡ None
no_list marks stops = behind_sign-stops 91 marks (stops-same is_list_open (is_sign 91) is_list_open-sign marks stops)

pub list_stops : (marks : List MarkedByte) → behind_sign 91 marks ≡ None → Stops is_list_open marks
list_stops marks none = stops-back is_list_open (is_sign 91) is_list_open-sign marks (behind_sign-none 91 marks none)

-- ---- classes

-- a test of bytes that holds of a space and a tab holds of each blank
blank-byte : (test : ℕ → Bool) (b : Bool) (byte : ℕ) → test 32 ≡ b → test 9 ≡ b → is_blank byte ≡ true → test byte ≡ b
blank-byte test b byte space tab h =
    ⊎_elim (λ e. ap test (eqb-true byte 32 e) ∙ space) (λ e. ap test (eqb-true byte 9 e) ∙ tab) (or_cases (byte == 32) (byte == 9) h)

blank-mark : (test : MarkedByte → Bool) (b : Bool) (byte : ℕ) (escaped : Bool) → test (bare 32) ≡ b → test (bare 9) ≡ b → (not escaped && is_blank byte) ≡ true → test (record { byte = byte; is_escaped = escaped }) ≡ b
blank-mark test b byte escaped space tab h =
    let parts = and_parts (not escaped) (is_blank byte) h in
    let two : escaped ≡ false = not-true escaped parts.0 in
    ap (λ e. test (record { byte = byte; is_escaped = e })) two ∙ blank-byte (λ byte. test (bare byte)) b byte space tab parts.1

-- what a test says of a space and a tab it says of each blank mark
pub space-is : (test : MarkedByte → Bool) (b : Bool) (mark : MarkedByte) → test (bare 32) ≡ b → test (bare 9) ≡ b → is_space mark ≡ true → test mark ≡ b
space-is test b mark space tab h = blank-mark test b mark.byte mark.is_escaped space tab h

-- and what it says of no space holds of no other mark of that answer
pub not-space : (test : MarkedByte → Bool) (mark : MarkedByte) → test (bare 32) ≡ false → test (bare 9) ≡ false → test mark ≡ true → is_space mark ≡ false
not-space test mark space tab is = go (is_space mark) refl
  where
    go : (b : Bool) → is_space mark ≡ b → is_space mark ≡ false
    go true e = absurd (false≢true (sym (space-is test false mark space tab e) ∙ is))
    go false e = e

-- a mark of a class is none of the signs that the class excludes
pub not-sign : (test : MarkedByte → Bool) (sign : ℕ) (mark : MarkedByte) → test (bare sign) ≡ false → test mark ≡ true → is_sign sign mark ≡ false
not-sign test sign mark excluded is = go (is_sign sign mark) refl
  where
    go : (b : Bool) → is_sign sign mark ≡ b → is_sign sign mark ≡ false
    go true e = absurd (false≢true (sym (ap test (is_sign-bare sign mark e) ∙ excluded) ∙ is))
    go false e = e

pub word-not_space : (mark : MarkedByte) → is_word_mark mark ≡ true → is_space mark ≡ false
word-not_space mark is = not-space is_word_mark mark refl refl is

pub key-not_space : (mark : MarkedByte) → is_key_mark mark ≡ true → is_space mark ≡ false
key-not_space mark is = not-space is_key_mark mark refl refl is

pub space-not_word : (mark : MarkedByte) → is_space mark ≡ true → is_word_mark mark ≡ false
space-not_word mark is = space-is is_word_mark false mark refl refl is

pub space-not_key : (mark : MarkedByte) → is_space mark ≡ true → is_key_mark mark ≡ false
space-not_key mark is = space-is is_key_mark false mark refl refl is

pub space-entry : (mark : MarkedByte) → is_space mark ≡ true → is_entry_mark mark ≡ true
space-entry mark is = space-is is_entry_mark true mark refl refl is

pub space-quoted : (mark : MarkedByte) → is_space mark ≡ true → is_quoted_mark mark ≡ true
space-quoted mark is = space-is is_quoted_mark true mark refl refl is

pub space-unquoted : (mark : MarkedByte) → is_space mark ≡ true → is_unquoted_mark mark ≡ true
space-unquoted mark is = space-is is_unquoted_mark true mark refl refl is

-- what stops a run between quotes is a quote
not-false : (b : Bool) → not b ≡ false → b ≡ true
not-false true h = refl
not-false false h = cc

quoted-end : (mark : MarkedByte) → is_quoted_mark mark ≡ false → is_sign 34 mark ≡ true
quoted-end mark h = sym (is_quote-sign mark) ∙ not-false (is_quote mark) h

pub quoted-stop : (marks : List MarkedByte) → Stops is_quoted_mark marks → (marks ≡ []) ⊎ ((rest : List MarkedByte) × (marks ≡ bare 34 ∷ rest))
quoted-stop [] stops = inl refl
quoted-stop (mark ∷ marks) stops = inr (marks, λ i. is_sign-bare 34 mark (quoted-end mark stops) i ∷ marks)
