-- Whole lines: the answer to a line is what it says or what is wrong with it, and both ways.
use Rattle.std.proofs.Common.{◌≡◌, ℕ, ◌==◌, Bool, true, false, cond, List, [], ◌∷◌, ◌++◌, codes, Option, Some, None, Ok, Err, drop, length, refl, sym, ap, subst, ◌∙◌}
use Rattle.std.specs.Prelude.{nat_eq}
use Rattle.std.specs.List.{AllPass, starts_with}
use Rattle.std.proofs.lemmas.Bool.{eqb-true}
use Rattle.std.proofs.lemmas.Bool.Decides.{Decides-eqb}
use Rattle.std.proofs.lemmas.Slice.Eq.{starts_is}
use Rattle.obo_lexer.specs.Tokens.{is_blank}
use Rattle.obo_tags.specs.declared.kind.FrameKind.{FrameKind}
use Rattle.obo_tags.specs.declared.kind.FrameKind.TheVariants as kind
use Rattle.obo_clause.specs.declared.clause.Clause.{Clause}
use Rattle.obo_clause.specs.declared.line.Line.{Line}
use Rattle.obo_clause.specs.declared.line.Line.TheVariants as says
use Rattle.obo_clause.specs.declared.line.SyntaxKind.{SyntaxKind}
use Rattle.obo_clause.specs.declared.line.SyntaxKind.TheVariants as syntax
use Rattle.obo_clause.specs.declared.clause.QualifiedValue.{QualifiedValue}
use Rattle.obo_clause.specs.Faults.{Fails, Stops, ValueFails}
use Rattle.obo_clause.specs.Marks.{marks_of}
use Rattle.obo_clause.specs.Reading.{Answer, behind, found, front, trim_end, wanted}
use Rattle.obo_clause.specs.ReadingLines.{Named, answer_to, at_colon, behind_start, qualified_value, frame_name, instance_name, is_line_comment, is_tag, later_name, read_clause, read_frame, read_shape, read_tagged, read_trimmed}
use Rattle.obo_clause.specs.Spelling.{IsQualifiedValue, IsFrameLine, IsKindName, IsLineComment, IsTagged, Says, shape_at}
use Rattle.obo_clause.specs.Vocabulary.{is_tag_byte}
use Rattle.obo_clause.proofs.QualifiedLemmas.{qualified_value-found, qualified_value-is, qualified_value-refuses, qualified_value-wrong}
use Rattle.obo_clause.proofs.RunLemmas.{behind-run, run-passes, run-whole}
use Rattle.obo_clause.proofs.TagLemmas.{TagParts, byte-not, tag-parts}
use Rattle.obo_clause.proofs.TailLemmas.{WentWrong, not-on, on-with, went-on, went-wrong}
use Rattle.obo_clause.proofs.WordLemmas.{same-ok, same-some, wanted-found, wanted-missing}

-- ---- comments

pub comment-is : (bytes : List ℕ) → is_line_comment bytes ≡ true → IsLineComment bytes
comment-is [] h = IsLineComment.nothing
comment-is (byte ∷ bytes) h = subst IsLineComment (ap (λ b. b ∷ bytes) (sym (eqb-true byte 33 h))) (IsLineComment.comment bytes)

pub comment-has : (bytes : List ℕ) → IsLineComment bytes → is_line_comment bytes ≡ true
comment-has _ IsLineComment.nothing = refl
comment-has _ (IsLineComment.comment rest) = refl

pub comment-stops : (bytes : List ℕ) → IsLineComment bytes → Stops is_blank bytes
comment-stops _ IsLineComment.nothing = tt
comment-stops _ (IsLineComment.comment rest) = refl

-- ---- frame lines

start-step : (start bytes rest : List ℕ) (b : Bool) → starts_with nat_eq bytes start ≡ b → cond {A = Option (List ℕ)} b (Some (drop (length start) bytes)) None ≡ Some rest → bytes ≡ start ++ rest
start-step start bytes rest true e h =
    (starts_is Decides-eqb bytes start (starts_with nat_eq bytes start) refl).0 e ∙ ap (λ l. start ++ l) (same-some (drop (length start) bytes) rest h)
start-step start bytes rest false e h = cc

start-found : (start bytes rest : List ℕ) → behind_start start bytes ≡ Some rest → bytes ≡ start ++ rest
start-found start bytes rest h = start-step start bytes rest (starts_with nat_eq bytes start) refl h

-- the name of a frame kind, the `]` and the rest
record HasName (bytes : List ℕ) (named : Named) : Type 0 where
  name : List ℕ
  whole : bytes ≡ name ++ 93 ∷ named.1
  is : IsKindName named.0 name

instance-step : (bytes : List ℕ) (named : Named) (o : Option (List ℕ)) → behind_start (codes "Instance]") bytes ≡ o → found {B = Option Named} o None (λ (rest : List ℕ). Some (kind.Instance, rest)) ≡ Some named → HasName bytes named
instance-step bytes named None e h = cc
instance-step bytes named (Some rest) e h =
    let is : HasName bytes (kind.Instance, rest) = record { name = codes "Instance"; whole = start-found (codes "Instance]") bytes rest e; is = IsKindName.instance } in
    subst (HasName bytes) (same-some (kind.Instance, rest) named h) is

later-step : (bytes : List ℕ) (named : Named) (o : Option (List ℕ)) → behind_start (codes "Typedef]") bytes ≡ o → found {B = Option Named} o (instance_name bytes) (λ (rest : List ℕ). Some (kind.Typedef, rest)) ≡ Some named → HasName bytes named
later-step bytes named None e h = instance-step bytes named (behind_start (codes "Instance]") bytes) refl h
later-step bytes named (Some rest) e h =
    let is : HasName bytes (kind.Typedef, rest) = record { name = codes "Typedef"; whole = start-found (codes "Typedef]") bytes rest e; is = IsKindName.typedef } in
    subst (HasName bytes) (same-some (kind.Typedef, rest) named h) is

name-step : (bytes : List ℕ) (named : Named) (o : Option (List ℕ)) → behind_start (codes "Term]") bytes ≡ o → found {B = Option Named} o (later_name bytes) (λ (rest : List ℕ). Some (kind.Term, rest)) ≡ Some named → HasName bytes named
name-step bytes named None e h = later-step bytes named (behind_start (codes "Typedef]") bytes) refl h
name-step bytes named (Some rest) e h =
    let is : HasName bytes (kind.Term, rest) = record { name = codes "Term"; whole = start-found (codes "Term]") bytes rest e; is = IsKindName.term } in
    subst (HasName bytes) (same-some (kind.Term, rest) named h) is

name-found : (bytes : List ℕ) (named : Named) → frame_name bytes ≡ Some named → HasName bytes named
unfolding frame_name
name-found bytes named h = name-step bytes named (behind_start (codes "Term]") bytes) refl h

name-finds : (begun : FrameKind) (name rest : List ℕ) → IsKindName begun name → frame_name (name ++ 93 ∷ rest) ≡ Some (begun, rest)
unfolding frame_name
name-finds _ _ rest IsKindName.term = refl
name-finds _ _ rest IsKindName.typedef = refl
name-finds _ _ rest IsKindName.instance = refl

-- what stands behind the name of a frame line
abbrev frame_on : Named → Answer Line
frame_on name = cond {A = Answer Line} (is_line_comment (behind is_blank name.1)) (Ok (says.Frame name.0)) (Err syntax.BadFrame)

-- a frame line that was read
pub record FrameRead (line : List ℕ) (said : Line) : Type 0 where
  pub begun : FrameKind
  pub is : IsFrameLine begun line
  pub same : says.Frame begun ≡ said

frame-step : (blanks bytes : List ℕ) (named : Named) (said : Line) (b : Bool) → is_line_comment (behind is_blank named.1) ≡ b → AllPass is_blank blanks → HasName bytes named → cond {A = Answer Line} b (Ok (says.Frame named.0)) (Err syntax.BadFrame) ≡ Ok said → FrameRead (blanks ++ 91 ∷ bytes) said
frame-step blanks bytes named said false e blank has h = cc
frame-step blanks bytes named said true e blank has h =
    let rest = named.1 in
    record {
      begun = named.0;
      is = record {
        before = blanks;
        name = has.name;
        behind = front is_blank rest;
        comment = behind is_blank rest;
        whole = ap (λ l. blanks ++ 91 ∷ l) (has.whole ∙ ap (λ l. has.name ++ 93 ∷ l) (sym (run-whole is_blank rest)));
        blank_before = blank;
        named = has.is;
        blank_behind = run-passes is_blank rest;
        commented = comment-is (behind is_blank rest) e;
      };
      same = same-ok (says.Frame named.0) said h;
    }

pub frame-read : (blanks bytes : List ℕ) (said : Line) → AllPass is_blank blanks → read_frame bytes ≡ Ok said → FrameRead (blanks ++ 91 ∷ bytes) said
unfolding read_frame
frame-read blanks bytes said blank h =
    let n = went-on (wanted syntax.BadFrame (frame_name bytes)) frame_on said h in
    let has = name-found bytes n.got (wanted-found syntax.BadFrame (frame_name bytes) n.got n.found) in
    frame-step blanks bytes n.got said (is_line_comment (behind is_blank n.got.1)) refl blank has n.on

pub frame-err : (bytes : List ℕ) (one : SyntaxKind) → read_frame bytes ≡ Err one → syntax.BadFrame ≡ one
unfolding read_frame
frame-err bytes one h = go (went-wrong (wanted syntax.BadFrame (frame_name bytes)) frame_on one h)
  where
    step : (named : Named) (b : Bool) → cond {A = Answer Line} b (Ok (says.Frame named.0)) (Err syntax.BadFrame) ≡ Err one → syntax.BadFrame ≡ one
    step named true h = cc
    step named false h = cc

    go : WentWrong (wanted syntax.BadFrame (frame_name bytes)) frame_on one → syntax.BadFrame ≡ one
    go (WentWrong.at_once e) = (wanted-missing syntax.BadFrame one (frame_name bytes) e).1
    go (WentWrong.later named e is) = step named (is_line_comment (behind is_blank named.1)) is

pub frame-finds : (begun : FrameKind) (name rest comment : List ℕ) → IsKindName begun name → AllPass is_blank rest → IsLineComment comment → read_frame (name ++ 93 ∷ (rest ++ comment)) ≡ Ok (says.Frame begun)
unfolding read_frame
frame-finds begun name rest comment is blank last =
    on-with (wanted syntax.BadFrame (frame_name (name ++ 93 ∷ (rest ++ comment)))) frame_on (begun, rest ++ comment) (ap (wanted syntax.BadFrame) (name-finds begun name (rest ++ comment) is))
    ∙ ap (λ b. cond {A = Answer Line} b (Ok (says.Frame begun)) (Err syntax.BadFrame)) (ap is_line_comment (behind-run is_blank rest comment blank (comment-stops comment last)) ∙ comment-has comment last)

-- ---- the line without the blanks at its beginning

pub answer-at : (kind : FrameKind) (first : Bool) (line body : List ℕ) → behind is_blank line ≡ body → answer_to kind first line ≡ read_trimmed kind first body
unfolding answer_to
answer-at kind first line body e = ap (read_trimmed kind first) e

pub answer-behind : (kind : FrameKind) (first : Bool) (blanks body : List ℕ) → AllPass is_blank blanks → Stops is_blank body → answer_to kind first (blanks ++ body) ≡ read_trimmed kind first body
answer-behind kind first blanks body blank stops = answer-at kind first (blanks ++ body) body (behind-run is_blank blanks body blank stops)

-- a line that begins with neither `!` nor `[` is a clause line
pub clause-at : (kind : FrameKind) (first : Bool) (byte : ℕ) (bytes : List ℕ) → (byte == 33) ≡ false → (byte == 91) ≡ false → read_trimmed kind first (byte ∷ bytes) ≡ read_clause kind first (byte ∷ bytes)
clause-at kind first byte bytes one two =
    ap (λ b. cond {A = Answer Line} b (Ok says.Blank) (cond {A = Answer Line} (byte == 91) (read_frame bytes) (read_clause kind first (byte ∷ bytes)))) one
    ∙ ap (λ b. cond {A = Answer Line} b (read_frame bytes) (read_clause kind first (byte ∷ bytes))) two

-- ---- clause lines

abbrev pub clause_on : FrameKind → Bool → List ℕ × List ℕ → Answer Line
clause_on kind first parts = cond {A = Answer Line} (is_tag (trim_end is_blank parts.0)) (read_tagged kind first (trim_end is_blank parts.0) parts.1) (Err syntax.BadTag)

pub clause-parts : (kind : FrameKind) (first : Bool) (body : List ℕ) (parts : List ℕ × List ℕ) → at_colon body ≡ Some parts → read_clause kind first body ≡ clause_on kind first parts
unfolding read_clause
clause-parts kind first body parts e = on-with (wanted syntax.NoColon (at_colon body)) (clause_on kind first) parts (ap (wanted syntax.NoColon) e)

pub clause-no_colon : (kind : FrameKind) (first : Bool) (body : List ℕ) → at_colon body ≡ None → read_clause kind first body ≡ Err syntax.NoColon
unfolding read_clause
clause-no_colon kind first body e = not-on (wanted syntax.NoColon (at_colon body)) (clause_on kind first) syntax.NoColon (ap (wanted syntax.NoColon) e)

abbrev said_of : List ℕ → QualifiedValue → Answer Line
said_of tag read = Ok (says.Content (record { tag = tag; value = read.value; qualifiers = read.qualifiers }))

pub tagged-says : (kind : FrameKind) (first : Bool) (line tag rest : List ℕ) (said : Line) → IsTagged line tag rest → read_tagged kind first tag rest ≡ Ok said → Says kind first line said
unfolding read_tagged
tagged-says kind first line tag rest said is h =
    let n = went-on (read_shape (shape_at kind first tag) rest) (said_of tag) said h in
    let clause : Clause = record { tag = tag; value = n.got.value; qualifiers = n.got.qualifiers } in
    subst (Says kind first line) (same-ok (says.Content clause) said n.on) (Says.content clause (record { rest = rest; tagged = is; valued = qualified_value-found (shape_at kind first tag) rest n.got n.found }))

pub tagged-fails : (kind : FrameKind) (first : Bool) (line tag rest : List ℕ) (one : SyntaxKind) → IsTagged line tag rest → read_tagged kind first tag rest ≡ Err one → Fails kind first line one
unfolding read_tagged
tagged-fails kind first line tag rest one is h = go (went-wrong (read_shape (shape_at kind first tag) rest) (said_of tag) one h)
  where
    go : WentWrong (read_shape (shape_at kind first tag) rest) (said_of tag) one → Fails kind first line one
    go (WentWrong.at_once e) = Fails.bad_value tag rest one is (qualified_value-wrong (shape_at kind first tag) rest one e)
    go (WentWrong.later read e h) = cc

pub tagged-finds : (kind : FrameKind) (first : Bool) (clause : Clause) (rest : List ℕ) → IsQualifiedValue (shape_at kind first clause.tag) rest clause.value clause.qualifiers → read_tagged kind first clause.tag rest ≡ Ok (says.Content clause)
unfolding read_tagged
tagged-finds kind first clause rest is =
    on-with (read_shape (shape_at kind first clause.tag) rest) (said_of clause.tag) (qualified_value clause.value clause.qualifiers) (qualified_value-is (shape_at kind first clause.tag) rest clause.value clause.qualifiers is)

pub tagged-refuses : (kind : FrameKind) (first : Bool) (tag rest : List ℕ) (one : SyntaxKind) → ValueFails (shape_at kind first tag) (marks_of rest) one → read_tagged kind first tag rest ≡ Err one
unfolding read_tagged
tagged-refuses kind first tag rest one fails =
    not-on (read_shape (shape_at kind first tag) rest) (said_of tag) one (qualified_value-refuses (shape_at kind first tag) rest one fails)

-- the answer to a line with a tag goes by what stands behind the colon
pub tagged-answer : (kind : FrameKind) (first : Bool) (line tag rest : List ℕ) → IsTagged line tag rest → answer_to kind first line ≡ read_tagged kind first tag rest
tagged-answer kind first line tag rest is = go p.body p.at p.colon p.begins p.some
  where
    p : TagParts line tag rest
    p = tag-parts line tag rest is

    go : (body : List ℕ) → behind is_blank line ≡ body → at_colon body ≡ Some (tag ++ p.between, rest) → ((byte : ℕ) (bytes : List ℕ) → body ≡ byte ∷ bytes → is_tag_byte byte ≡ true) → (body ≡ [] → ⊥) → answer_to kind first line ≡ read_tagged kind first tag rest
    go [] at colon begins some = absurd (some refl)
    go (byte ∷ bytes) at colon begins some =
        let first_byte = begins byte bytes refl in
        answer-at kind first line (byte ∷ bytes) at
        ∙ (clause-at kind first byte bytes (byte-not is_tag_byte byte 33 refl first_byte) (byte-not is_tag_byte byte 91 refl first_byte)
        ∙ (clause-parts kind first (byte ∷ bytes) (tag ++ p.between, rest) colon
        ∙ ((λ i. cond {A = Answer Line} (is_tag (p.trimmed i)) (read_tagged kind first (p.trimmed i) rest) (Err syntax.BadTag))
        ∙ ap (λ b. cond {A = Answer Line} b (read_tagged kind first tag rest) (Err syntax.BadTag)) p.is)))

-- a line with a tag has this tag in front of its first colon
pub tagged-unique : (blanks byte_bytes before rest : List ℕ) → AllPass is_blank blanks → Stops is_blank byte_bytes → at_colon byte_bytes ≡ Some (before, rest) → (tag : List ℕ) → IsTagged (blanks ++ byte_bytes) tag rest → is_tag (trim_end is_blank before) ≡ true
tagged-unique blanks body before rest blank stops colon tag is =
    let p = tag-parts (blanks ++ body) tag rest is in
    let same : body ≡ p.body = sym (behind-run is_blank blanks body blank stops) ∙ p.at in
    let parts = same-some (before, rest) (tag ++ p.between, rest) (sym colon ∙ (ap at_colon same ∙ p.colon)) in
    ap (λ (q : List ℕ × List ℕ). is_tag (trim_end is_blank q.0)) parts ∙ (ap is_tag p.trimmed ∙ p.is)
