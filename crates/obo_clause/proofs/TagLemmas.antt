-- The bytes before a colon: blanks, colons and tags.
use Rattle.std.proofs.Common.{◌≡◌, ℕ, zero, suc, ◌<◌, ◌==◌, Bool, true, false, not, ◌&&◌, ◌||◌, List, [], ◌∷◌, ◌++◌, Some, None, length, refl, sym, ap, subst, ◌∙◌, arith}
use Rattle.std.specs.List.{AllPass, list_all, list_any}
use Rattle.std.proofs.lemmas.Bool.{and_parts, eqb-true, false≢true, ne_eqb, or_parts}
use Rattle.std.proofs.lemmas.List.{append_assoc, append-nil}
use Rattle.std.proofs.lemmas.List.Sums.{AllPass-from_list_all, list_all-from_AllPass}
use Rattle.obo_lexer.specs.Tokens.{is_blank}
use Rattle.obo_clause.specs.Faults.{Stops, is_colon}
use Rattle.obo_clause.specs.Reading.{behind, front, trim_end}
use Rattle.obo_clause.specs.ReadingLines.{around_colon, at_colon, is_before_colon, is_tag}
use Rattle.obo_clause.specs.Spelling.{IsTagged}
use Rattle.obo_clause.specs.Vocabulary.{is_tag_byte}
use Rattle.obo_clause.proofs.RunLemmas.{behind-run, front-run, pass-append, pass-cons, pass-head, pass-nil, pass-tail, run-passes, run-stops, run-whole, stops-run, trim_end-run, trims}
use Rattle.obo_clause.proofs.WordLemmas.{same-some}

-- a test that is false of a byte is false of each byte that is it
pub byte-not : (test : ℕ → Bool) (byte other : ℕ) → test other ≡ false → test byte ≡ true → (byte == other) ≡ false
byte-not test byte other excluded is = go (byte == other) refl
  where
    go : (b : Bool) → (byte == other) ≡ b → (byte == other) ≡ false
    go true e = absurd (false≢true (sym (ap test (eqb-true byte other e) ∙ excluded) ∙ is))
    go false e = e

pub tag-not_blank : (byte : ℕ) → is_tag_byte byte ≡ true → is_blank byte ≡ false
tag-not_blank byte is = λ i. byte-not is_tag_byte byte 32 refl is i || byte-not is_tag_byte byte 9 refl is i

pub tag-not_colon : (byte : ℕ) → is_tag_byte byte ≡ true → is_before_colon byte ≡ true
tag-not_colon byte is = ap not (byte-not is_tag_byte byte 58 refl is)

pub blank-not_colon : (byte : ℕ) → is_blank byte ≡ true → is_before_colon byte ≡ true
blank-not_colon byte is = ap not (byte-not is_blank byte 58 refl is)

all-tag : (bytes : List ℕ) → AllPass is_tag_byte bytes → AllPass is_before_colon bytes
all-tag [] each = pass-nil is_before_colon
all-tag (byte ∷ bytes) each = pass-cons is_before_colon byte bytes (tag-not_colon byte (pass-head is_tag_byte byte bytes each)) (all-tag bytes (pass-tail is_tag_byte byte bytes each))

all-blank : (bytes : List ℕ) → AllPass is_blank bytes → AllPass is_before_colon bytes
all-blank [] each = pass-nil is_before_colon
all-blank (byte ∷ bytes) each = pass-cons is_before_colon byte bytes (blank-not_colon byte (pass-head is_blank byte bytes each)) (all-blank bytes (pass-tail is_blank byte bytes each))

-- ---- colons

colon-step : (byte : ℕ) (b : Bool) → (byte == 58) ≡ b → not b ≡ true → b ≡ false
colon-step byte true e h = cc
colon-step byte false e h = refl

pub no-colon-any : (bytes : List ℕ) → AllPass is_before_colon bytes → list_any is_colon bytes ≡ false
no-colon-any [] each = refl
no-colon-any (byte ∷ bytes) each =
    λ i. colon-step byte (byte == 58) refl (pass-head is_before_colon byte bytes each) i || no-colon-any bytes (pass-tail is_before_colon byte bytes each) i

pub no-colon-all : (bytes : List ℕ) → list_any is_colon bytes ≡ false → AllPass is_before_colon bytes
no-colon-all [] h = pass-nil is_before_colon
no-colon-all (byte ∷ bytes) h =
    let parts = or_parts (byte == 58) (list_any is_colon bytes) h in
    pass-cons is_before_colon byte bytes (ap not parts.0) (no-colon-all bytes parts.1)

pub at_colon-finds : (before rest : List ℕ) → AllPass is_before_colon before → at_colon (before ++ 58 ∷ rest) ≡ Some (before, rest)
unfolding at_colon
at_colon-finds before rest each =
    λ i. around_colon (front-run is_before_colon before (58 ∷ rest) each refl i) (behind-run is_before_colon before (58 ∷ rest) each refl i)

pub at_colon-none : (bytes : List ℕ) → AllPass is_before_colon bytes → at_colon bytes ≡ None
unfolding at_colon
at_colon-none bytes each =
    let nil : behind is_before_colon bytes ≡ [] = ap (behind is_before_colon) (sym (append-nil bytes)) ∙ behind-run is_before_colon bytes [] each tt in
    ap (around_colon (front is_before_colon bytes)) nil

-- the parts around a colon that is found
pub record HasColon (bytes before rest : List ℕ) : Type 0 where
  pub whole : bytes ≡ before ++ 58 ∷ rest
  pub each : AllPass is_before_colon before

colon-is : (byte : ℕ) → is_before_colon byte ≡ false → byte ≡ 58
colon-is byte h = go (byte == 58) refl h
  where
    go : (b : Bool) → (byte == 58) ≡ b → not b ≡ false → byte ≡ 58
    go true e h = eqb-true byte 58 e
    go false e h = cc

around-step : (bytes before more : List ℕ) (parts : List ℕ × List ℕ) → bytes ≡ before ++ more → AllPass is_before_colon before → Stops is_before_colon more → around_colon before more ≡ Some parts → HasColon bytes parts.0 parts.1
around-step bytes before [] parts whole each stops h = cc
around-step bytes before (colon ∷ rest) parts whole each stops h =
    subst (λ (p : List ℕ × List ℕ). HasColon bytes p.0 p.1) (same-some (before, rest) parts h) (record {
      whole = whole ∙ ap (λ b. before ++ b ∷ rest) (colon-is colon stops);
      each = each;
    })

pub at_colon-found : (bytes : List ℕ) (parts : List ℕ × List ℕ) → at_colon bytes ≡ Some parts → HasColon bytes parts.0 parts.1
unfolding at_colon
at_colon-found bytes parts h =
    around-step bytes (front is_before_colon bytes) (behind is_before_colon bytes) parts (sym (run-whole is_before_colon bytes)) (run-passes is_before_colon bytes) (run-stops is_before_colon bytes) h

around-nothing : (before more : List ℕ) → around_colon before more ≡ None → more ≡ []
around-nothing before [] h = refl
around-nothing before (colon ∷ rest) h = cc

pub at_colon-missing : (bytes : List ℕ) → at_colon bytes ≡ None → AllPass is_before_colon bytes
unfolding at_colon
at_colon-missing bytes h =
    let nil = around-nothing (front is_before_colon bytes) (behind is_before_colon bytes) h in
    let same : front is_before_colon bytes ≡ bytes = sym (append-nil (front is_before_colon bytes)) ∙ (ap (λ l. front is_before_colon bytes ++ l) (sym nil) ∙ run-whole is_before_colon bytes) in
    subst (AllPass is_before_colon) same (run-passes is_before_colon bytes)

-- the first colon stands behind the blanks at the beginning
pub colon-behind : (blanks body before rest : List ℕ) → AllPass is_blank blanks → blanks ++ body ≡ before ++ 58 ∷ rest → AllPass is_before_colon before → (inner : List ℕ) × (body ≡ inner ++ 58 ∷ rest) × AllPass is_before_colon inner
colon-behind [] body before rest blank e each = (before, e, each)
colon-behind (b ∷ blanks) body [] rest blank e each =
    let same : b ≡ 58 = cc in
    absurd (let both : true ≡ false = sym (pass-head is_blank b blanks blank) ∙ ap is_blank same in cc)
colon-behind (b ∷ blanks) body (x ∷ before) rest blank e each =
    let later : blanks ++ body ≡ before ++ 58 ∷ rest = cc in
    colon-behind blanks body before rest (pass-tail is_blank b blanks blank) later (pass-tail is_before_colon x before each)

-- ---- tags

-- the bytes of a tag, blanks and a colon, with what is read of them
pub record TagParts (line tag rest : List ℕ) : Type 0 where
  pub body : List ℕ
  pub between : List ℕ
  pub at : behind is_blank line ≡ body
  pub colon : at_colon body ≡ Some (tag ++ between, rest)
  pub trimmed : trim_end is_blank (tag ++ between) ≡ tag
  pub is : is_tag tag ≡ true
  pub begins : (byte : ℕ) (bytes : List ℕ) → body ≡ byte ∷ bytes → is_tag_byte byte ≡ true
  pub some : (body ≡ []) → ⊥

tag-ends : (tag : List ℕ) → AllPass is_tag_byte tag → (item : ℕ) (rest : List ℕ) → tag ≡ rest ++ item ∷ [] → is_blank item ≡ false
tag-ends [] each item [] e = cc
tag-ends [] each item (x ∷ rest) e = cc
tag-ends (x ∷ tag) each item [] e = let same : x ≡ item = cc in ap is_blank (sym same) ∙ tag-not_blank x (pass-head is_tag_byte x tag each)
tag-ends (x ∷ tag) each item (y ∷ rest) e = let later : tag ≡ rest ++ item ∷ [] = cc in tag-ends tag (pass-tail is_tag_byte x tag each) item rest later

pub is-tag : (tag : List ℕ) → 0 < length tag → AllPass is_tag_byte tag → is_tag tag ≡ true
is-tag tag some each =
    λ i. list_all-from_AllPass is_tag_byte tag each i && not (ne_eqb (length tag) 0 (λ e. omega (arith, e)) i)

pub tag-is : (tag : List ℕ) → is_tag tag ≡ true → (0 < length tag) × AllPass is_tag_byte tag
tag-is tag h =
    let parts = and_parts (list_all is_tag_byte tag) (not (length tag == 0)) h in
    (longer (length tag) parts.1, AllPass-from_list_all is_tag_byte tag parts.0)
  where
    longer : (n : ℕ) → not (n == 0) ≡ true → 0 < n
    longer zero e = cc
    longer (suc n) e = omega arith

first-tag : (tag more : List ℕ) → 0 < length tag → AllPass is_tag_byte tag → (byte : ℕ) (bytes : List ℕ) → tag ++ more ≡ byte ∷ bytes → is_tag_byte byte ≡ true
first-tag [] more some each byte bytes e = absurd (omega arith)
first-tag (x ∷ tag) more some each byte bytes e = let same : x ≡ byte = cc in ap is_tag_byte (sym same) ∙ pass-head is_tag_byte x tag each

not-nothing : (tag more : List ℕ) → 0 < length tag → tag ++ more ≡ [] → ⊥
not-nothing [] more some e = omega arith
not-nothing (x ∷ tag) more some e = cc

pub tag-parts : (line tag rest : List ℕ) → IsTagged line tag rest → TagParts line tag rest
tag-parts line tag rest t =
    let body = tag ++ (t.between ++ 58 ∷ rest) in
    let whole : line ≡ t.before ++ body = t.whole ∙ simp append_assoc in
    record {
      body = body;
      between = t.between;
      at = ap (behind is_blank) whole ∙ behind-run is_blank t.before body t.blank_before (stops-run is_tag_byte is_blank tag-not_blank tag (t.between ++ 58 ∷ rest) t.some t.each);
      colon = ap at_colon (sym (append_assoc tag t.between (58 ∷ rest))) ∙ at_colon-finds (tag ++ t.between) rest (pass-append is_before_colon tag t.between (all-tag tag t.each) (all-blank t.between t.blank_between));
      trimmed = trim_end-run is_blank tag t.between (tag-ends tag t.each) t.blank_between;
      is = is-tag tag t.some t.each;
      begins = first-tag tag (t.between ++ 58 ∷ rest) t.some t.each;
      some = not-nothing tag (t.between ++ 58 ∷ rest) t.some;
    }

-- what is a tag when it is trimmed stands before its colon as it should
pub tagged-of : (blanks before rest : List ℕ) → AllPass is_blank blanks → is_tag (trim_end is_blank before) ≡ true → IsTagged (blanks ++ (before ++ 58 ∷ rest)) (trim_end is_blank before) rest
tagged-of blanks before rest blank is =
    let tag = trim_end is_blank before in
    let t = trims is_blank before in
    let parts = tag-is tag is in
    record {
      before = blanks;
      between = t.blanks;
      whole = ap (λ l. blanks ++ (l ++ 58 ∷ rest)) t.whole ∙ simp append_assoc;
      blank_before = blank;
      some = parts.0;
      each = parts.1;
      blank_between = t.blank;
    }
