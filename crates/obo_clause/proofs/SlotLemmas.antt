-- Lists of dbxrefs: what is read of a list is what it says, each list is read, and each broken one is refused as it should be.
use Rattle.std.proofs.Common.{◌≡◌, ℕ, zero, suc, ◌<◌, ◌==◌, Bool, true, false, not, ◌||◌, cond, List, [], ◌∷◌, ◌++◌, Option, Some, None, Ok, Err, length, refl, sym, ap, subst, ◌∙◌, arith, length-append}
use Rattle.std.specs.List.{AllPass}
use Rattle.std.proofs.lemmas.Bool.{eqb-true, ne_eqb}
use Rattle.std.proofs.lemmas.List.{append_assoc, append-nil, nil_from_length}
use Rattle.std.proofs.lemmas.List.Elements.{All-weaker}
use Rattle.obo_clause.specs.declared.clause.Xref.{Xref}
use Rattle.obo_clause.specs.declared.line.SyntaxKind.{SyntaxKind}
use Rattle.obo_clause.specs.declared.line.SyntaxKind.TheVariants as syntax
use Rattle.obo_clause.specs.Faults.{ListFails, Stops, is_slot_end}
use Rattle.obo_clause.specs.Grammar.{AreBlanks, AreSlots, AreTrimmed, IsEntry, IsSlot}
use Rattle.obo_clause.specs.Marks.{MarkedByte, read_as}
use Rattle.obo_clause.specs.Reading.{Answer, Slot, behind, behind_blanks, behind_sign, end_of_quotes, found, front, inside_quotes, is_sign, label_at, list_end, next, slot_at, slots_from, text_read, trim, trim_end, wanted, xrefs_of}
use Rattle.obo_clause.specs.Vocabulary.{comma, is_entry_mark, is_quoted_mark, is_space, list_close, quote}
use Rattle.obo_clause.proofs.RunLemmas.{pass-append, pass-left, pass-nil, pass-right, run-passes, run-stops, run-whole, trim_end-blank, trimmed-run, trims}
use Rattle.obo_clause.proofs.SignLemmas.{behind_sign-found, behind_sign-none, behind_sign-stops, space-entry, stops-by}
use Rattle.obo_clause.proofs.WordLemmas.{blanks-at, blanks-behind, inside-found, inside-missing, quoted-is, quoted_marks, same-ok}

pub blanks-entry : (blanks : List MarkedByte) → AreBlanks blanks → AllPass is_entry_mark blanks
blanks-entry blanks blank = All-weaker (λ mark. is_space mark ≡ true) (λ mark. is_entry_mark mark ≡ true) space-entry blanks blank

-- ---- trimmed runs

-- a run with its trimmed middle
pub record Middle (run : List MarkedByte) : Type 0 where
  pub before : List MarkedByte
  pub after : List MarkedByte
  pub whole : run ≡ before ++ (trim is_space run ++ after)
  pub blank_before : AreBlanks before
  pub blank_after : AreBlanks after
  pub trimmed : AreTrimmed (trim is_space run)

pub middle : (run : List MarkedByte) → Middle run
middle run =
    let at = blanks-at run in
    let t = trims is_space (behind_blanks run) in
    record {
      before = at.blanks;
      after = t.blanks;
      whole = at.whole ∙ ap (λ l. at.blanks ++ l) t.whole;
      blank_before = at.blank;
      blank_after = t.blank;
      trimmed = trimmed-run is_space (behind_blanks run) at.stops;
    }

trim-empty : (run : List MarkedByte) → trim is_space run ≡ [] → AreBlanks run
trim-empty run e =
    let m = middle run in
    subst AreBlanks (sym (m.whole ∙ ap (λ l. m.before ++ (l ++ m.after)) e)) (pass-append is_space m.before m.after m.blank_before m.blank_after)

pub trim-blank : (run : List MarkedByte) → AreBlanks run → trim is_space run ≡ []
trim-blank run blank =
    let nil : behind_blanks run ≡ [] = ap behind_blanks (sym (append-nil run)) ∙ blanks-behind run [] blank tt in
    ap (trim_end is_space) nil ∙ trim_end-blank is_space [] (pass-nil is_space)

longer : (n : ℕ) → (n == 0) ≡ false → 0 < n
longer zero e = cc
longer (suc n) e = omega arith

pub some-trim : (run : List MarkedByte) → ¬ AreBlanks run → 0 < length (trim is_space run)
some-trim run filled = go (length (trim is_space run) == 0) refl
  where
    go : (b : Bool) → (length (trim is_space run) == 0) ≡ b → 0 < length (trim is_space run)
    go true e = absurd (filled (trim-empty run (nil_from_length (trim is_space run) (eqb-true (length (trim is_space run)) 0 e))))
    go false e = longer (length (trim is_space run)) e

not-blanks : (run : List MarkedByte) → 0 < length (trim is_space run) → ¬ AreBlanks run
not-blanks run some blank = omega (arith, ap length (trim-blank run blank))

pub some-xref : (id : List MarkedByte) (label : Option (List MarkedByte)) → 0 < length id → xrefs_of id label ≡ (record { id = read_as id; label = text_read label }) ∷ []
some-xref id label some =
    ap (λ b. cond {A = List Xref} b [] ((record { id = read_as id; label = text_read label }) ∷ [])) (ne_eqb (length id) 0 (λ e. omega (arith, e)))

no-xref : (id : List MarkedByte) (label : Option (List MarkedByte)) → id ≡ [] → xrefs_of id label ≡ []
no-xref id label e = ap (λ l. xrefs_of l label) e

-- ---- the forms of a slot

pub data SlotForm (marks : List MarkedByte) : Slot → Type 0 where
  plain : (run rest : List MarkedByte) → marks ≡ run ++ rest → AllPass is_entry_mark run → Stops is_entry_mark rest → behind_sign 34 rest ≡ None → SlotForm marks (trim is_space run, None, rest)
  labelled : (run label more : List MarkedByte) → marks ≡ run ++ (quote ∷ (label ++ quote ∷ more)) → AllPass is_entry_mark run → 0 < length (trim is_space run) → AllPass is_quoted_mark label → SlotForm marks (trim is_space run, Some label, behind_blanks more)

label-step : (marks run inside : List MarkedByte) (slot : Slot) (o : Option (List MarkedByte × List MarkedByte)) → inside_quotes inside ≡ o → marks ≡ run ++ quote ∷ inside → AllPass is_entry_mark run → 0 < length (trim is_space run)
    → next {A = List MarkedByte × List MarkedByte} {B = Slot} (wanted syntax.OpenQuote o) (λ (read : List MarkedByte × List MarkedByte). Ok (trim is_space run, Some read.0, behind_blanks read.1)) ≡ Ok slot → SlotForm marks slot
label-step marks run inside slot None e whole each some h = cc
label-step marks run inside slot (Some read) e whole each some h =
    let has = inside-found inside read.0 read.1 e in
    let is : SlotForm marks (trim is_space run, Some read.0, behind_blanks read.1) = SlotForm.labelled run read.0 read.1 (whole ∙ ap (λ l. run ++ quote ∷ l) has.whole) each some has.each in
    subst (SlotForm marks) (same-ok (trim is_space run, Some read.0, behind_blanks read.1) slot h) is

empty-step : (marks run inside : List MarkedByte) (slot : Slot) (b : Bool) → (length (trim is_space run) == 0) ≡ b → marks ≡ run ++ quote ∷ inside → AllPass is_entry_mark run
    → cond {A = Answer Slot} b (Err syntax.XrefList) (next {A = List MarkedByte × List MarkedByte} {B = Slot} (end_of_quotes inside) (λ (read : List MarkedByte × List MarkedByte). Ok (trim is_space run, Some read.0, behind_blanks read.1))) ≡ Ok slot → SlotForm marks slot
empty-step marks run inside slot true e whole each h = cc
empty-step marks run inside slot false e whole each h =
    label-step marks run inside slot (inside_quotes inside) refl whole each (longer (length (trim is_space run)) e) h

slot-step : (marks run rest : List MarkedByte) (slot : Slot) (o : Option (List MarkedByte)) → behind_sign 34 rest ≡ o → marks ≡ run ++ rest → AllPass is_entry_mark run → Stops is_entry_mark rest
    → found {B = Answer Slot} o (Ok (trim is_space run, None, rest)) (λ (inside : List MarkedByte). label_at (trim is_space run) inside) ≡ Ok slot → SlotForm marks slot
slot-step marks run rest slot None e whole each stops h =
    subst (SlotForm marks) (same-ok (trim is_space run, None, rest) slot h) (SlotForm.plain run rest whole each stops e)
slot-step marks run rest slot (Some inside) e whole each stops h =
    empty-step marks run inside slot (length (trim is_space run) == 0) refl (whole ∙ ap (λ l. run ++ l) (behind_sign-found 34 rest inside e)) each h

pub slot-found : (marks : List MarkedByte) (slot : Slot) → slot_at marks ≡ Ok slot → SlotForm marks slot
unfolding slot_at
slot-found marks slot h =
    slot-step marks (front is_entry_mark marks) (behind is_entry_mark marks) slot (behind_sign 34 (behind is_entry_mark marks)) refl (sym (run-whole is_entry_mark marks)) (run-passes is_entry_mark marks) (run-stops is_entry_mark marks) h

-- ---- what is wrong in a slot

label-wrong : (marks run inside : List MarkedByte) (one : SyntaxKind) (o : Option (List MarkedByte × List MarkedByte)) → inside_quotes inside ≡ o → marks ≡ run ++ quote ∷ inside → AllPass is_entry_mark run → 0 < length (trim is_space run)
    → next {A = List MarkedByte × List MarkedByte} {B = Slot} (wanted syntax.OpenQuote o) (λ (read : List MarkedByte × List MarkedByte). Ok (trim is_space run, Some read.0, behind_blanks read.1)) ≡ Err one → ListFails marks one
label-wrong marks run inside one (Some read) e whole each some h = cc
label-wrong marks run inside one None e whole each some h =
    let same : syntax.OpenQuote ≡ one = cc in
    subst (ListFails marks) same (subst (λ l. ListFails l syntax.OpenQuote) (sym whole) (ListFails.endless_label run inside each (not-blanks run some) (inside-missing inside e)))

empty-wrong : (marks run inside : List MarkedByte) (one : SyntaxKind) (b : Bool) → (length (trim is_space run) == 0) ≡ b → marks ≡ run ++ quote ∷ inside → AllPass is_entry_mark run
    → cond {A = Answer Slot} b (Err syntax.XrefList) (next {A = List MarkedByte × List MarkedByte} {B = Slot} (end_of_quotes inside) (λ (read : List MarkedByte × List MarkedByte). Ok (trim is_space run, Some read.0, behind_blanks read.1))) ≡ Err one → ListFails marks one
empty-wrong marks run inside one false e whole each h =
    label-wrong marks run inside one (inside_quotes inside) refl whole each (longer (length (trim is_space run)) e) h
empty-wrong marks run inside one true e whole each h =
    let same : syntax.XrefList ≡ one = cc in
    let blank = trim-empty run (nil_from_length (trim is_space run) (eqb-true (length (trim is_space run)) 0 e)) in
    subst (ListFails marks) same (subst (λ l. ListFails l syntax.XrefList) (sym whole) (ListFails.lone_label run inside blank))

slot-wrong-step : (marks run rest : List MarkedByte) (one : SyntaxKind) (o : Option (List MarkedByte)) → behind_sign 34 rest ≡ o → marks ≡ run ++ rest → AllPass is_entry_mark run
    → found {B = Answer Slot} o (Ok (trim is_space run, None, rest)) (λ (inside : List MarkedByte). label_at (trim is_space run) inside) ≡ Err one → ListFails marks one
slot-wrong-step marks run rest one None e whole each h = cc
slot-wrong-step marks run rest one (Some inside) e whole each h =
    empty-wrong marks run inside one (length (trim is_space run) == 0) refl (whole ∙ ap (λ l. run ++ l) (behind_sign-found 34 rest inside e)) each h

pub slot-wrong : (marks : List MarkedByte) (one : SyntaxKind) → slot_at marks ≡ Err one → ListFails marks one
unfolding slot_at
slot-wrong marks one h =
    slot-wrong-step marks (front is_entry_mark marks) (behind is_entry_mark marks) one (behind_sign 34 (behind is_entry_mark marks)) refl (sym (run-whole is_entry_mark marks)) (run-passes is_entry_mark marks) h

-- ---- what a slot says

-- a slot and the rest
pub record HasSlot (marks : List MarkedByte) (xrefs : List Xref) (rest : List MarkedByte) : Type 0 where
  pub part : List MarkedByte
  pub whole : marks ≡ part ++ rest
  pub is : IsSlot part xrefs

plain-slot : (run : List MarkedByte) (b : Bool) → (length (trim is_space run) == 0) ≡ b → AllPass is_entry_mark run → IsSlot run (xrefs_of (trim is_space run) None)
plain-slot run true e each =
    let nil = nil_from_length (trim is_space run) (eqb-true (length (trim is_space run)) 0 e) in
    subst (IsSlot run) (sym (no-xref (trim is_space run) None nil)) (IsSlot.skipped (trim-empty run nil))
plain-slot run false e each =
    let id = trim is_space run in
    let m = middle run in
    let some = longer (length id) e in
    let all = subst (AllPass is_entry_mark) m.whole each in
    let entry : IsEntry run (record { id = read_as id; label = None }) = record {
      before = m.before;
      id = id;
      between = m.after;
      label = [];
      behind = [];
      whole = m.whole ∙ simp (append_assoc, append-nil);
      blank_before = m.blank_before;
      blank_between = m.blank_after;
      blank_behind = pass-nil is_space;
      some = some;
      each = pass-left is_entry_mark id m.after (pass-right is_entry_mark m.before (id ++ m.after) all);
      trimmed = m.trimmed;
      read = refl;
      labelled = refl;
    } in
    subst (IsSlot run) (sym (some-xref id None some)) (IsSlot.filled (record { id = read_as id; label = None }) entry)

labelled-slot : (run label blanks : List MarkedByte) → AllPass is_entry_mark run → 0 < length (trim is_space run) → AllPass is_quoted_mark label → AreBlanks blanks → IsSlot (run ++ (quoted_marks label ++ blanks)) (xrefs_of (trim is_space run) (Some label))
labelled-slot run label blanks each some quoted blank =
    let id = trim is_space run in
    let m = middle run in
    let all = subst (AllPass is_entry_mark) m.whole each in
    let entry : IsEntry (run ++ (quoted_marks label ++ blanks)) (record { id = read_as id; label = Some (read_as label) }) = record {
      before = m.before;
      id = id;
      between = m.after;
      label = quoted_marks label;
      behind = blanks;
      whole = ap (λ l. l ++ (quoted_marks label ++ blanks)) m.whole ∙ simp append_assoc;
      blank_before = m.blank_before;
      blank_between = m.blank_after;
      blank_behind = blank;
      some = some;
      each = pass-left is_entry_mark id m.after (pass-right is_entry_mark m.before (id ++ m.after) all);
      trimmed = m.trimmed;
      read = refl;
      labelled = quoted-is label quoted;
    } in
    subst (IsSlot (run ++ (quoted_marks label ++ blanks))) (sym (some-xref id (Some label) some)) (IsSlot.filled (record { id = read_as id; label = Some (read_as label) }) entry)

slot-says : (marks : List MarkedByte) (slot : Slot) → SlotForm marks slot → HasSlot marks (xrefs_of slot.0 slot.1) slot.2
slot-says marks _ (SlotForm.plain run rest whole each stops none) =
    record { part = run; whole = whole; is = plain-slot run (length (trim is_space run) == 0) refl each }
slot-says marks _ (SlotForm.labelled run label more whole each some quoted) =
    let at = blanks-at more in
    record {
      part = run ++ (quoted_marks label ++ at.blanks);
      whole = whole ∙ (ap (λ l. run ++ (quote ∷ (label ++ quote ∷ l))) at.whole ∙ simp append_assoc);
      is = labelled-slot run label at.blanks each some quoted at.blank;
    }

-- ---- what is read of a list is what it says

-- a list from behind its `[` on, and the rest
pub record HasSlots (marks : List MarkedByte) (xrefs : List Xref) (rest : List MarkedByte) : Type 0 where
  pub inside : List MarkedByte
  pub whole : marks ≡ inside ++ list_close ∷ rest
  pub are : AreSlots inside xrefs

abbrev pub Listed : Type 0
Listed = List Xref × List MarkedByte

close-step : (marks : List MarkedByte) (xrefs : List Xref) (rest : List MarkedByte) (listed : Listed) (o : Option (List MarkedByte)) → behind_sign 93 rest ≡ o → HasSlot marks xrefs rest → next {A = List MarkedByte} {B = Listed} (wanted syntax.XrefList o) (λ (rest : List MarkedByte). Ok (xrefs, rest)) ≡ Ok listed → HasSlots marks listed.0 listed.1
close-step marks xrefs rest listed None e has h = cc
close-step marks xrefs rest listed (Some behind) e has h =
    let is : HasSlots marks xrefs behind = record { inside = has.part; whole = has.whole ∙ ap (λ l. has.part ++ l) (behind_sign-found 93 rest behind e); are = AreSlots.last has.part xrefs has.is } in
    subst (λ (l : Listed). HasSlots marks l.0 l.1) (same-ok (xrefs, behind) listed h) is

later-step : (marks : List MarkedByte) (xrefs : List Xref) (more : List MarkedByte) (listed : Listed) (o : Answer Listed) → HasSlot marks xrefs (comma ∷ more) → ((read : Listed) → o ≡ Ok read → HasSlots more read.0 read.1) → next {A = Listed} {B = Listed} o (λ (read : Listed). Ok (xrefs ++ read.0, read.1)) ≡ Ok listed → HasSlots marks listed.0 listed.1
later-step marks xrefs more listed (Err one) has later h = cc
later-step marks xrefs more listed (Ok read) has later h =
    let others = later read refl in
    let is : HasSlots marks (xrefs ++ read.0) read.1 = record {
      inside = has.part ++ comma ∷ others.inside;
      whole = has.whole ∙ (ap (λ l. has.part ++ comma ∷ l) others.whole ∙ simp append_assoc);
      are = AreSlots.more has.part others.inside xrefs read.0 has.is others.are;
    } in
    subst (λ (l : Listed). HasSlots marks l.0 l.1) (same-ok (xrefs ++ read.0, read.1) listed h) is

comma-step : (count : ℕ) (marks : List MarkedByte) (xrefs : List Xref) (rest : List MarkedByte) (listed : Listed) (o : Option (List MarkedByte)) → behind_sign 44 rest ≡ o → HasSlot marks xrefs rest → ((marks : List MarkedByte) (read : Listed) → slots_from count marks ≡ Ok read → HasSlots marks read.0 read.1)
    → found {B = Answer Listed} o (list_end xrefs rest) (λ (more : List MarkedByte). next {A = Listed} {B = Listed} (slots_from count more) (λ (read : Listed). Ok (xrefs ++ read.0, read.1))) ≡ Ok listed → HasSlots marks listed.0 listed.1
comma-step count marks xrefs rest listed None e has later h = close-step marks xrefs rest listed (behind_sign 93 rest) refl has h
comma-step count marks xrefs rest listed (Some more) e has later h =
    later-step marks xrefs more listed (slots_from count more) (subst (HasSlot marks xrefs) (behind_sign-found 44 rest more e) has) (λ read is. later more read is) h

first-step : (count : ℕ) (marks : List MarkedByte) (listed : Listed) (o : Answer Slot) → slot_at marks ≡ o → ((marks : List MarkedByte) (read : Listed) → slots_from count marks ≡ Ok read → HasSlots marks read.0 read.1)
    → next {A = Slot} {B = Listed} o (λ (slot : Slot). found {B = Answer Listed} (behind_sign 44 slot.2) (list_end (xrefs_of slot.0 slot.1) slot.2) (λ (more : List MarkedByte). next {A = Listed} {B = Listed} (slots_from count more) (λ (read : Listed). Ok (xrefs_of slot.0 slot.1 ++ read.0, read.1)))) ≡ Ok listed → HasSlots marks listed.0 listed.1
first-step count marks listed (Err one) e later h = cc
first-step count marks listed (Ok slot) e later h =
    comma-step count marks (xrefs_of slot.0 slot.1) slot.2 listed (behind_sign 44 slot.2) refl (slot-says marks slot (slot-found marks slot e)) later h

pub slots-found : (count : ℕ) (marks : List MarkedByte) (listed : Listed) → slots_from count marks ≡ Ok listed → HasSlots marks listed.0 listed.1
unfolding slots_from
slots-found zero marks listed h = cc
slots-found (suc count) marks listed h =
    first-step count marks listed (slot_at marks) refl (λ marks read is. slots-found count marks read is) h

-- ---- what is wrong in a list

-- what stops an entry is the end of the line, a comma, the list's end or a quote
entry-stop : (rest : List MarkedByte) → Stops is_entry_mark rest → behind_sign 34 rest ≡ None → behind_sign 44 rest ≡ None → behind_sign 93 rest ≡ None → rest ≡ []
entry-stop [] stops quote comma close = refl
entry-stop (mark ∷ rest) stops quote comma close =
    absurd (go mark.is_escaped mark.byte stops (behind_sign-none 34 (mark ∷ rest) quote) (behind_sign-none 44 (mark ∷ rest) comma) (behind_sign-none 93 (mark ∷ rest) close))
  where
    excluded : (a b c : Bool) → not (b || (c || (a || false))) ≡ false → a ≡ false → b ≡ false → c ≡ false → ⊥
    excluded true b c h x y z = cc
    excluded false true c h x y z = cc
    excluded false false true h x y z = cc
    excluded false false false h x y z = cc

    go : (escaped : Bool) (byte : ℕ) → is_entry_mark (record { byte = byte; is_escaped = escaped }) ≡ false → is_sign 34 (record { byte = byte; is_escaped = escaped }) ≡ false → is_sign 44 (record { byte = byte; is_escaped = escaped }) ≡ false → is_sign 93 (record { byte = byte; is_escaped = escaped }) ≡ false → ⊥
    go true byte h x y z = cc
    go false byte h x y z = excluded (byte == 34) (byte == 44) (byte == 93) h x y z

slot_end-stops : (rest : List MarkedByte) → behind_sign 44 rest ≡ None → behind_sign 93 rest ≡ None → Stops is_slot_end rest
slot_end-stops [] comma close = tt
slot_end-stops (mark ∷ rest) comma close =
    go mark.is_escaped mark.byte (behind_sign-none 44 (mark ∷ rest) comma) (behind_sign-none 93 (mark ∷ rest) close)
  where
    both : (a b : Bool) → a ≡ false → b ≡ false → (a || (b || false)) ≡ false
    both true b x y = cc
    both false true x y = cc
    both false false x y = refl

    go : (escaped : Bool) (byte : ℕ) → is_sign 44 (record { byte = byte; is_escaped = escaped }) ≡ false → is_sign 93 (record { byte = byte; is_escaped = escaped }) ≡ false → is_slot_end (record { byte = byte; is_escaped = escaped }) ≡ false
    go true byte x y = refl
    go false byte x y = both (byte == 44) (byte == 93) x y

pub slot_end-none : (sign : ℕ) (rest : List MarkedByte) → ((mark : MarkedByte) → is_slot_end mark ≡ false → is_sign sign mark ≡ false) → Stops is_slot_end rest → behind_sign sign rest ≡ None
slot_end-none sign rest weaker stops = behind_sign-stops sign rest (stops-by is_slot_end (is_sign sign) weaker rest stops)

pub slot_end-comma : (mark : MarkedByte) → is_slot_end mark ≡ false → is_sign 44 mark ≡ false
slot_end-comma mark h = go mark.is_escaped mark.byte h
  where
    first : (a b : Bool) → (a || (b || false)) ≡ false → a ≡ false
    first true b h = cc
    first false b h = refl

    go : (escaped : Bool) (byte : ℕ) → is_slot_end (record { byte = byte; is_escaped = escaped }) ≡ false → is_sign 44 (record { byte = byte; is_escaped = escaped }) ≡ false
    go true byte h = refl
    go false byte h = first (byte == 44) (byte == 93) h

pub slot_end-close : (mark : MarkedByte) → is_slot_end mark ≡ false → is_sign 93 mark ≡ false
slot_end-close mark h = go mark.is_escaped mark.byte h
  where
    second : (a b : Bool) → (a || (b || false)) ≡ false → b ≡ false
    second true b h = cc
    second false true h = cc
    second false false h = refl

    go : (escaped : Bool) (byte : ℕ) → is_slot_end (record { byte = byte; is_escaped = escaped }) ≡ false → is_sign 93 (record { byte = byte; is_escaped = escaped }) ≡ false
    go true byte h = refl
    go false byte h = second (byte == 44) (byte == 93) h

neither-wrong : (marks : List MarkedByte) (slot : Slot) → SlotForm marks slot → behind_sign 44 slot.2 ≡ None → behind_sign 93 slot.2 ≡ None → ListFails marks syntax.XrefList
neither-wrong marks _ (SlotForm.plain run rest whole each stops none) comma close =
    let nil = entry-stop rest stops none comma close in
    let same : marks ≡ run = whole ∙ (ap (λ l. run ++ l) nil ∙ append-nil run) in
    ListFails.endless marks (subst (AllPass is_entry_mark) (sym same) each)
neither-wrong marks _ (SlotForm.labelled run label more whole each some quoted) comma close =
    let all : marks ≡ run ++ quoted_marks label ++ more = whole ∙ simp append_assoc in
    subst (λ l. ListFails l syntax.XrefList) (sym all) (ListFails.behind_label run (quoted_marks label) more (behind_blanks more) (read_as label) each (not-blanks run some) (quoted-is label quoted) (blanks-at more) (slot_end-stops (behind_blanks more) comma close))

close-wrong : (marks : List MarkedByte) (slot : Slot) (xrefs : List Xref) (one : SyntaxKind) (o : Option (List MarkedByte)) → behind_sign 93 slot.2 ≡ o → behind_sign 44 slot.2 ≡ None → SlotForm marks slot → next {A = List MarkedByte} {B = Listed} (wanted syntax.XrefList o) (λ (rest : List MarkedByte). Ok (xrefs, rest)) ≡ Err one → ListFails marks one
close-wrong marks slot xrefs one (Some rest) e none form h = cc
close-wrong marks slot xrefs one None e none form h =
    let same : syntax.XrefList ≡ one = cc in subst (ListFails marks) same (neither-wrong marks slot form none e)

later-wrong : (marks : List MarkedByte) (xrefs : List Xref) (more : List MarkedByte) (one : SyntaxKind) (o : Answer Listed) → HasSlot marks xrefs (comma ∷ more) → (o ≡ Err one → ListFails more one) → next {A = Listed} {B = Listed} o (λ (read : Listed). Ok (xrefs ++ read.0, read.1)) ≡ Err one → ListFails marks one
later-wrong marks xrefs more one (Ok read) has later h = cc
later-wrong marks xrefs more one (Err two) has later h =
    let same : two ≡ one = cc in
    subst (λ l. ListFails l one) (sym has.whole) (ListFails.later has.part more xrefs one has.is (later (ap Err same)))

comma-wrong : (count : ℕ) (marks : List MarkedByte) (slot : Slot) (one : SyntaxKind) (o : Option (List MarkedByte)) → behind_sign 44 slot.2 ≡ o → SlotForm marks slot → length marks < suc count → ((marks : List MarkedByte) → length marks < count → slots_from count marks ≡ Err one → ListFails marks one)
    → found {B = Answer Listed} o (list_end (xrefs_of slot.0 slot.1) slot.2) (λ (more : List MarkedByte). next {A = Listed} {B = Listed} (slots_from count more) (λ (read : Listed). Ok (xrefs_of slot.0 slot.1 ++ read.0, read.1))) ≡ Err one → ListFails marks one
comma-wrong count marks slot one None e form fits later h = close-wrong marks slot (xrefs_of slot.0 slot.1) one (behind_sign 93 slot.2) refl e form h
comma-wrong count marks slot one (Some more) e form fits later h =
    let has = subst (HasSlot marks (xrefs_of slot.0 slot.1)) (behind_sign-found 44 slot.2 more e) (slot-says marks slot form) in
    let fewer : length more < count = omega (arith, ap length has.whole, length-append has.part (comma ∷ more)) in
    later-wrong marks (xrefs_of slot.0 slot.1) more one (slots_from count more) has (λ is. later more fewer is) h

first-wrong : (count : ℕ) (marks : List MarkedByte) (one : SyntaxKind) (o : Answer Slot) → slot_at marks ≡ o → length marks < suc count → ((marks : List MarkedByte) → length marks < count → slots_from count marks ≡ Err one → ListFails marks one)
    → next {A = Slot} {B = Listed} o (λ (slot : Slot). found {B = Answer Listed} (behind_sign 44 slot.2) (list_end (xrefs_of slot.0 slot.1) slot.2) (λ (more : List MarkedByte). next {A = Listed} {B = Listed} (slots_from count more) (λ (read : Listed). Ok (xrefs_of slot.0 slot.1 ++ read.0, read.1)))) ≡ Err one → ListFails marks one
first-wrong count marks one (Err two) e fits later h =
    let same : two ≡ one = cc in slot-wrong marks one (e ∙ ap Err same)
first-wrong count marks one (Ok slot) e fits later h =
    comma-wrong count marks slot one (behind_sign 44 slot.2) refl (slot-found marks slot e) fits later h

pub slots-wrong : (count : ℕ) (marks : List MarkedByte) (one : SyntaxKind) → length marks < count → slots_from count marks ≡ Err one → ListFails marks one
unfolding slots_from
slots-wrong zero marks one fits h = absurd (omega arith)
slots-wrong (suc count) marks one fits h =
    first-wrong count marks one (slot_at marks) refl fits (λ marks fewer is. slots-wrong count marks one fewer is) h
