-- The answer to a line is what it says, or what is wrong with it; and from this the laws of lines.
use Rattle.std.proofs.Common.{◌≡◌, ℕ, ◌==◌, Bool, true, false, ◌||◌, cond, List, [], ◌∷◌, ◌++◌, codes, Option, Some, None, Ok, Err, refl, sym, ap, subst, ◌∙◌, inl, inr}
use Rattle.std.specs.List.{AllPass}
use Rattle.std.proofs.lemmas.Bool.{eqb-true, false≢true, or_parts}
use Rattle.std.proofs.lemmas.List.{append_assoc}
use Rattle.std.proofs.lemmas.List.Elements.{All-weaker}
use Rattle.obo_lexer.specs.Tokens.{is_blank}
use Rattle.obo_tags.specs.declared.kind.FrameKind.{FrameKind}
use Rattle.obo_clause.specs.declared.line.Line.{Line}
use Rattle.obo_clause.specs.declared.line.Line.TheVariants as says
use Rattle.obo_clause.specs.declared.line.SyntaxKind.{SyntaxKind}
use Rattle.obo_clause.specs.declared.line.SyntaxKind.TheVariants as syntax
use Rattle.obo_clause.specs.Faults.{Fails, IsClauseLine, Stops}
use Rattle.obo_clause.specs.Laws.{FailsOneWay, HasAnswer, NeverSaysAndFails, SaysOneThing, SpellsOneClause}
use Rattle.obo_clause.specs.Reading.{Answer, behind, front, next, trim_end, wanted}
use Rattle.obo_clause.specs.ReadingLines.{answer_to, at_colon, is_before_colon, is_tag, read_clause, read_frame, read_tagged, read_trimmed}
use Rattle.obo_clause.specs.Spelling.{IsFrameLine, IsLineComment, IsTagged, Says}
use Rattle.obo_clause.specs.Vocabulary.{is_one_of}
use Rattle.obo_clause.proofs.LineLemmas.{answer-behind, clause-at, clause-no_colon, clause-parts, clause_on, comment-stops, frame-err, frame-finds, frame-read, tagged-answer, tagged-fails, tagged-finds, tagged-refuses, tagged-says, tagged-unique}
use Rattle.obo_clause.proofs.RunLemmas.{pass-append, pass-right, run-passes, run-stops, run-whole}
use Rattle.obo_clause.proofs.TagLemmas.{at_colon-finds, at_colon-found, at_colon-missing, at_colon-none, blank-not_colon, colon-behind, no-colon-all, no-colon-any, tagged-of}
use Rattle.obo_clause.proofs.WordLemmas.{same-ok}

module _ (kind : FrameKind) (first : Bool) where
  -- ---- what a line says is the answer

  -- a clause line, and the answer to it
  record ClauseBody (line : List ℕ) : Type 0 where
    body : List ℕ
    blanks : List ℕ
    whole : line ≡ blanks ++ body
    blank : AllPass is_blank blanks
    stops : Stops is_blank body
    answer : answer_to kind first line ≡ read_clause kind first body

  clause-body : (line : List ℕ) → IsClauseLine line → ClauseBody line
  clause-body line is =
      let parts = or_parts (is_blank is.byte) (is_one_of (codes "![") is.byte) is.begins in
      let signs = or_parts (is.byte == 33) (is.byte == 91 || false) parts.1 in
      let close = or_parts (is.byte == 91) false signs.1 in
      record {
        body = is.byte ∷ is.rest;
        blanks = is.blanks;
        whole = is.whole;
        blank = is.blank;
        stops = parts.0;
        answer = ap (answer_to kind first) is.whole ∙ (answer-behind kind first is.blanks (is.byte ∷ is.rest) is.blank parts.0 ∙ clause-at kind first is.byte is.rest signs.0 close.0);
      }

  blank-answer : (comment : List ℕ) → IsLineComment comment → read_trimmed kind first comment ≡ Ok says.Blank
  blank-answer _ IsLineComment.nothing = refl
  blank-answer _ (IsLineComment.comment rest) = refl

  pub said-is-answer : (line : List ℕ) (said : Line) → Says kind first line said → answer_to kind first line ≡ Ok said
  said-is-answer line _ (Says.blank is) =
      ap (answer_to kind first) is.whole ∙ (answer-behind kind first is.blanks is.comment is.blank (comment-stops is.comment is.commented) ∙ blank-answer is.comment is.commented)
  said-is-answer line _ (Says.frame begun is) =
      ap (answer_to kind first) is.whole ∙ (answer-behind kind first is.before (91 ∷ (is.name ++ 93 ∷ (is.behind ++ is.comment))) is.blank_before refl ∙ frame-finds begun is.name is.behind is.comment is.named is.blank_behind is.commented)
  said-is-answer line _ (Says.content clause is) =
      tagged-answer kind first line clause.tag is.rest is.tagged ∙ tagged-finds kind first clause is.rest is.valued

  -- ---- what is wrong with a line is the answer

  frame-refused : (line blanks rest : List ℕ) → line ≡ blanks ++ 91 ∷ rest → AllPass is_blank blanks → ((begun : FrameKind) → ¬ IsFrameLine begun line) → (answer : Answer Line) → read_frame rest ≡ answer → answer ≡ Err syntax.BadFrame
  frame-refused line blanks rest whole blank never (Ok said) e =
      let f = frame-read blanks rest said blank e in
      absurd (never f.begun (subst (IsFrameLine f.begun) (sym whole) f.is))
  frame-refused line blanks rest whole blank never (Err one) e = ap Err (sym (frame-err rest one e))

  tag-refused : (line : List ℕ) (c : ClauseBody line) (rest inner : List ℕ) → c.body ≡ inner ++ 58 ∷ rest → ((tag : List ℕ) → ¬ IsTagged line tag rest) → (b : Bool) → is_tag (trim_end is_blank inner) ≡ b → clause_on kind first (inner, rest) ≡ Err syntax.BadTag
  tag-refused line c rest inner whole never false e = ap (λ b. cond {A = Answer Line} b (read_tagged kind first (trim_end is_blank inner) rest) (Err syntax.BadTag)) e
  tag-refused line c rest inner whole never true e =
      absurd (never (trim_end is_blank inner) (subst (λ l. IsTagged l (trim_end is_blank inner) rest) (sym (c.whole ∙ ap (λ l. c.blanks ++ l) whole)) (tagged-of c.blanks inner rest c.blank e)))

  pub fault-is-answer : (line : List ℕ) (one : SyntaxKind) → Fails kind first line one → answer_to kind first line ≡ Err one
  fault-is-answer line _ (Fails.bad_frame blanks rest whole blank never) =
      ap (answer_to kind first) whole ∙ (answer-behind kind first blanks (91 ∷ rest) blank refl ∙ frame-refused line blanks rest whole blank never (read_frame rest) refl)
  fault-is-answer line _ (Fails.no_colon is none) =
      let c = clause-body line is in
      let each = no-colon-all line none in
      c.answer ∙ clause-no_colon kind first c.body (at_colon-none c.body (pass-right is_before_colon c.blanks c.body (subst (AllPass is_before_colon) c.whole each)))
  fault-is-answer line _ (Fails.bad_tag before rest is whole none never) =
      let c = clause-body line is in
      let split = colon-behind c.blanks c.body before rest c.blank (sym c.whole ∙ whole) (no-colon-all before none) in
      c.answer ∙ (clause-parts kind first c.body (split.0, rest) (ap at_colon split.1 ∙ at_colon-finds split.0 rest split.2) ∙ tag-refused line c rest split.0 split.1 never (is_tag (trim_end is_blank split.0)) refl)
  fault-is-answer line _ (Fails.bad_value tag rest one is fails) = tagged-answer kind first line tag rest is ∙ tagged-refuses kind first tag rest one fails

  -- ---- the answer is what the line says

  clause-step-says : (blanks body : List ℕ) (said : Line) (parts : List ℕ × List ℕ) (b : Bool) → AllPass is_blank blanks → is_tag (trim_end is_blank parts.0) ≡ b → body ≡ parts.0 ++ 58 ∷ parts.1 → cond {A = Answer Line} b (read_tagged kind first (trim_end is_blank parts.0) parts.1) (Err syntax.BadTag) ≡ Ok said → Says kind first (blanks ++ body) said
  clause-step-says blanks body said parts false blank e whole h = cc
  clause-step-says blanks body said parts true blank e whole h =
      let tag = trim_end is_blank parts.0 in
      let is = subst (λ l. IsTagged (blanks ++ l) tag parts.1) (sym whole) (tagged-of blanks parts.0 parts.1 blank e) in
      tagged-says kind first (blanks ++ body) tag parts.1 said is h

  clause-says : (blanks body : List ℕ) (said : Line) (o : Option (List ℕ × List ℕ)) → AllPass is_blank blanks → at_colon body ≡ o → next (wanted syntax.NoColon o) (clause_on kind first) ≡ Ok said → Says kind first (blanks ++ body) said
  clause-says blanks body said None blank e h = cc
  clause-says blanks body said (Some parts) blank e h =
      clause-step-says blanks body said parts (is_tag (trim_end is_blank parts.0)) blank refl (at_colon-found body parts e).whole h

  read_clause-says : (blanks body : List ℕ) (said : Line) → AllPass is_blank blanks → read_clause kind first body ≡ Ok said → Says kind first (blanks ++ body) said
  unfolding read_clause
  read_clause-says blanks body said blank h = clause-says blanks body said (at_colon body) blank refl h

  blank-says : (blanks comment : List ℕ) (said : Line) → AllPass is_blank blanks → IsLineComment comment → says.Blank ≡ said → Says kind first (blanks ++ comment) said
  blank-says blanks comment said blank is same =
      subst (Says kind first (blanks ++ comment)) same (Says.blank (record { blanks = blanks; comment = comment; whole = refl; blank = blank; commented = is }))

  byte-says : (blanks bytes : List ℕ) (byte : ℕ) (said : Line) (b c : Bool) → AllPass is_blank blanks → (byte == 33) ≡ b → (byte == 91) ≡ c → cond {A = Answer Line} b (Ok says.Blank) (cond {A = Answer Line} c (read_frame bytes) (read_clause kind first (byte ∷ bytes))) ≡ Ok said → Says kind first (blanks ++ byte ∷ bytes) said
  byte-says blanks bytes byte said true c blank e f h =
      subst (λ b. Says kind first (blanks ++ b ∷ bytes) said) (sym (eqb-true byte 33 e)) (blank-says blanks (33 ∷ bytes) said blank (IsLineComment.comment bytes) (same-ok says.Blank said h))
  byte-says blanks bytes byte said false true blank e f h =
      let r = frame-read blanks bytes said blank h in
      subst (λ b. Says kind first (blanks ++ b ∷ bytes) said) (sym (eqb-true byte 91 f)) (subst (Says kind first (blanks ++ 91 ∷ bytes)) r.same (Says.frame r.begun r.is))
  byte-says blanks bytes byte said false false blank e f h = read_clause-says blanks (byte ∷ bytes) said blank h

  trimmed-says : (blanks body : List ℕ) (said : Line) → AllPass is_blank blanks → read_trimmed kind first body ≡ Ok said → Says kind first (blanks ++ body) said
  trimmed-says blanks [] said blank h = blank-says blanks [] said blank IsLineComment.nothing (same-ok says.Blank said h)
  trimmed-says blanks (byte ∷ bytes) said blank h = byte-says blanks bytes byte said (byte == 33) (byte == 91) blank refl refl h

  pub answer-is-said : (line : List ℕ) (said : Line) → answer_to kind first line ≡ Ok said → Says kind first line said
  unfolding answer_to
  answer-is-said line said h =
      subst (λ l. Says kind first l said) (run-whole is_blank line) (trimmed-says (front is_blank line) (behind is_blank line) said (run-passes is_blank line) h)

  -- ---- or what is wrong with it

  tag-step-fails : (blanks body : List ℕ) (one : SyntaxKind) (parts : List ℕ × List ℕ) (b : Bool) → AllPass is_blank blanks → Stops is_blank body → IsClauseLine (blanks ++ body) → at_colon body ≡ Some parts → is_tag (trim_end is_blank parts.0) ≡ b
      → cond {A = Answer Line} b (read_tagged kind first (trim_end is_blank parts.0) parts.1) (Err syntax.BadTag) ≡ Err one → Fails kind first (blanks ++ body) one
  tag-step-fails blanks body one parts true blank stops line at e h =
      let tag = trim_end is_blank parts.0 in
      let is = subst (λ l. IsTagged (blanks ++ l) tag parts.1) (sym (at_colon-found body parts at).whole) (tagged-of blanks parts.0 parts.1 blank e) in
      tagged-fails kind first (blanks ++ body) tag parts.1 one is h
  tag-step-fails blanks body one parts false blank stops line at e h =
      let same : syntax.BadTag ≡ one = cc in
      let has = at_colon-found body parts at in
      let whole : blanks ++ body ≡ (blanks ++ parts.0) ++ 58 ∷ parts.1 = ap (λ l. blanks ++ l) has.whole ∙ sym (append_assoc blanks parts.0 (58 ∷ parts.1)) in
      let none = no-colon-any (blanks ++ parts.0) (pass-append is_before_colon blanks parts.0 (blanks-pass blanks blank) has.each) in
      subst (Fails kind first (blanks ++ body)) same (Fails.bad_tag (blanks ++ parts.0) parts.1 line whole none (λ tag is. false≢true (sym e ∙ tagged-unique blanks body parts.0 parts.1 blank stops at tag is)))
    where
      blanks-pass : (blanks : List ℕ) → AllPass is_blank blanks → AllPass is_before_colon blanks
      blanks-pass blanks blank = All-weaker (λ b. is_blank b ≡ true) (λ b. is_before_colon b ≡ true) blank-not_colon blanks blank

  colon-step-fails : (blanks body : List ℕ) (one : SyntaxKind) (o : Option (List ℕ × List ℕ)) → AllPass is_blank blanks → Stops is_blank body → IsClauseLine (blanks ++ body) → at_colon body ≡ o → next (wanted syntax.NoColon o) (clause_on kind first) ≡ Err one → Fails kind first (blanks ++ body) one
  colon-step-fails blanks body one None blank stops line e h =
      let same : syntax.NoColon ≡ one = cc in
      let each = pass-append is_before_colon blanks body (All-weaker (λ b. is_blank b ≡ true) (λ b. is_before_colon b ≡ true) blank-not_colon blanks blank) (at_colon-missing body e) in
      subst (Fails kind first (blanks ++ body)) same (Fails.no_colon line (no-colon-any (blanks ++ body) each))
  colon-step-fails blanks body one (Some parts) blank stops line e h =
      tag-step-fails blanks body one parts (is_tag (trim_end is_blank parts.0)) blank stops line e refl h

  read_clause-fails : (blanks body : List ℕ) (one : SyntaxKind) → AllPass is_blank blanks → Stops is_blank body → IsClauseLine (blanks ++ body) → read_clause kind first body ≡ Err one → Fails kind first (blanks ++ body) one
  unfolding read_clause
  read_clause-fails blanks body one blank stops line h = colon-step-fails blanks body one (at_colon body) blank stops line refl h

  byte-fails : (blanks bytes : List ℕ) (byte : ℕ) (one : SyntaxKind) (b c : Bool) → AllPass is_blank blanks → is_blank byte ≡ false → (byte == 33) ≡ b → (byte == 91) ≡ c → answer_to kind first (blanks ++ byte ∷ bytes) ≡ Err one
      → cond {A = Answer Line} b (Ok says.Blank) (cond {A = Answer Line} c (read_frame bytes) (read_clause kind first (byte ∷ bytes))) ≡ Err one → Fails kind first (blanks ++ byte ∷ bytes) one
  byte-fails blanks bytes byte one true c blank stops e f answer h = cc
  byte-fails blanks bytes byte one false true blank stops e f answer h =
      let same = frame-err bytes one h in
      let never : (begun : FrameKind) → ¬ IsFrameLine begun (blanks ++ byte ∷ bytes) = λ begun is. let both : Ok (says.Frame begun) ≡ Err one = sym (said-is-answer (blanks ++ byte ∷ bytes) (says.Frame begun) (Says.frame begun is)) ∙ answer in cc in
      subst (Fails kind first (blanks ++ byte ∷ bytes)) same (Fails.bad_frame blanks bytes (ap (λ b. blanks ++ b ∷ bytes) (eqb-true byte 91 f)) blank never)
  byte-fails blanks bytes byte one false false blank stops e f answer h =
      read_clause-fails blanks (byte ∷ bytes) one blank stops (record { blanks = blanks; byte = byte; rest = bytes; whole = refl; blank = blank; begins = λ i. stops i || (e i || (f i || false)) }) h

  trimmed-fails : (blanks body : List ℕ) (one : SyntaxKind) → AllPass is_blank blanks → Stops is_blank body → answer_to kind first (blanks ++ body) ≡ Err one → read_trimmed kind first body ≡ Err one → Fails kind first (blanks ++ body) one
  trimmed-fails blanks [] one blank stops answer h = cc
  trimmed-fails blanks (byte ∷ bytes) one blank stops answer h = byte-fails blanks bytes byte one (byte == 33) (byte == 91) blank stops refl refl answer h

  pub answer-is-fault : (line : List ℕ) (one : SyntaxKind) → answer_to kind first line ≡ Err one → Fails kind first line one
  unfolding answer_to
  answer-is-fault line one h =
      let whole = run-whole is_blank line in
      subst (λ l. Fails kind first l one) whole (trimmed-fails (front is_blank line) (behind is_blank line) one (run-passes is_blank line) (run-stops is_blank line) (ap (answer_to kind first) whole ∙ h) h)

  -- ---- the laws

  module _ (line : List ℕ) where
    pub says-one-thing : SaysOneThing kind first line
    says-one-thing one other a b = same-ok one other (sym (said-is-answer line one a) ∙ said-is-answer line other b)

    pub spells-one-clause : SpellsOneClause kind first line
    spells-one-clause one other a b =
        let same = says-one-thing (says.Content one) (says.Content other) (Says.content one a) (Says.content other b) in cc

    pub fails-one-way : FailsOneWay kind first line
    fails-one-way one other a b =
        let same : ◌≡◌ {A = Answer Line} (Err one) (Err other) = sym (fault-is-answer line one a) ∙ fault-is-answer line other b in cc

    pub never-both : NeverSaysAndFails kind first line
    never-both said one a b = let both : Ok said ≡ Err one = sym (said-is-answer line said a) ∙ fault-is-answer line one b in cc

    answer-step : (answer : Answer Line) → answer_to kind first line ≡ answer → HasAnswer kind first line
    answer-step (Ok said) e = inl (said, answer-is-said line said e)
    answer-step (Err one) e = inr (one, answer-is-fault line one e)

    pub has-answer : HasAnswer kind first line
    has-answer = answer-step (answer_to kind first line) refl
