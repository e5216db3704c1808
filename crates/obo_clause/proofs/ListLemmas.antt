-- Lists of dbxrefs: each list is read as what it says, and each broken one is refused with its fault.
use Rattle.std.proofs.Common.{◌≡◌, ℕ, zero, suc, ◌<◌, false, cond, List, [], ◌∷◌, ◌++◌, Option, Some, None, Ok, Err, length, refl, sym, ap, subst, ◌∙◌, arith, length-append}
use Rattle.std.specs.List.{AllPass}
use Rattle.std.proofs.lemmas.Bool.{ne_eqb}
use Rattle.std.proofs.lemmas.List.{append_assoc, append-nil}
use Rattle.obo_clause.specs.declared.clause.Xref.{Xref}
use Rattle.obo_clause.specs.declared.line.SyntaxKind.{SyntaxKind}
use Rattle.obo_clause.specs.declared.line.SyntaxKind.TheVariants as syntax
use Rattle.obo_clause.specs.Faults.{IsBehindBlanks, ListFails, MayHaveList, Stops, Wrong, is_list_open}
use Rattle.obo_clause.specs.Grammar.{AreBlanks, AreSlots, IsEntry, IsLabel, IsQuoted, IsSlot}
use Rattle.obo_clause.specs.Marks.{MarkedByte, read_as}
use Rattle.obo_clause.specs.Reading.{Answer, Slot, behind_blanks, behind_sign, end_of_quotes, found, is_sign, label_at, list_at, list_end, next, slot_at, slots_from, text_read, trim, wanted, xrefs_of}
use Rattle.obo_clause.specs.Vocabulary.{comma, is_entry_mark, is_quoted_mark, is_space, list_close, list_open, quote}
use Rattle.obo_clause.proofs.RunLemmas.{behind-run, front-run, pass-append, trim-run}
use Rattle.obo_clause.proofs.SignLemmas.{behind_sign-found, list_stops, no_list}
use Rattle.obo_clause.proofs.SlotLemmas.{Listed, blanks-entry, slot_end-close, slot_end-comma, slot_end-none, slots-found, slots-wrong, some-trim, some-xref, trim-blank}
use Rattle.obo_clause.proofs.WordLemmas.{blanks-at, blanks-behind, blanks-of, inside-finds, inside-none, same-ok}

-- ---- one slot, by its run and what stands behind it

-- a run of an entry with nothing but a comma or the end behind it
slot-plain : (run rest : List MarkedByte) → AllPass is_entry_mark run → Stops is_entry_mark rest → behind_sign 34 rest ≡ None → slot_at (run ++ rest) ≡ Ok (trim is_space run, None, rest)
unfolding slot_at
slot-plain run rest each stops none =
    (λ i. let id = trim is_space (front-run is_entry_mark run rest each stops i) in let more = behind-run is_entry_mark run rest each stops i in found {B = Answer Slot} (behind_sign 34 more) (Ok (id, None, more)) (λ (inside : List MarkedByte). label_at id inside))
    ∙ ap (λ o. found {B = Answer Slot} o (Ok (trim is_space run, None, rest)) (λ (inside : List MarkedByte). label_at (trim is_space run) inside)) none

-- a run of an entry with a quote behind it
slot-quote : (run inside : List MarkedByte) → AllPass is_entry_mark run → slot_at (run ++ quote ∷ inside) ≡ label_at (trim is_space run) inside
unfolding slot_at
slot-quote run inside each =
    λ i. let id = trim is_space (front-run is_entry_mark run (quote ∷ inside) each refl i) in let more = behind-run is_entry_mark run (quote ∷ inside) each refl i in found {B = Answer Slot} (behind_sign 34 more) (Ok (id, None, more)) (λ (inside : List MarkedByte). label_at id inside)

label-some : (id inside : List MarkedByte) → 0 < length id → label_at id inside ≡ next {A = List MarkedByte × List MarkedByte} {B = Slot} (end_of_quotes inside) (λ (read : List MarkedByte × List MarkedByte). Ok (id, Some read.0, behind_blanks read.1))
label-some id inside some =
    ap (λ b. cond {A = Answer Slot} b (Err syntax.XrefList) (next {A = List MarkedByte × List MarkedByte} {B = Slot} (end_of_quotes inside) (λ (read : List MarkedByte × List MarkedByte). Ok (id, Some read.0, behind_blanks read.1)))) (ne_eqb (length id) 0 (λ e. omega (arith, e)))

slot-labelled : (run label more : List MarkedByte) → AllPass is_entry_mark run → 0 < length (trim is_space run) → AllPass is_quoted_mark label → slot_at (run ++ (quote ∷ (label ++ quote ∷ more))) ≡ Ok (trim is_space run, Some label, behind_blanks more)
slot-labelled run label more each some quoted =
    slot-quote run (label ++ quote ∷ more) each
    ∙ (label-some (trim is_space run) (label ++ quote ∷ more) some
    ∙ ap (λ o. next {A = List MarkedByte × List MarkedByte} {B = Slot} (wanted syntax.OpenQuote o) (λ (read : List MarkedByte × List MarkedByte). Ok (trim is_space run, Some read.0, behind_blanks read.1))) (inside-finds label more quoted))

-- what is found of a slot, by what it says
record SlotFound (marks : List MarkedByte) (xrefs : List Xref) (rest : List MarkedByte) : Type 0 where
  id : List MarkedByte
  label : Option (List MarkedByte)
  found : slot_at marks ≡ Ok (id, label, rest)
  are : xrefs_of id label ≡ xrefs

-- the label's text, told of an entry
xref-is : (xref : Xref) (id : List MarkedByte) (label : Option (List MarkedByte)) → read_as id ≡ xref.id → text_read label ≡ xref.label → ◌≡◌ {A = List Xref} ((record { id = read_as id; label = text_read label }) ∷ []) (xref ∷ [])
xref-is xref id label one two = λ i. (record { id = one i; label = two i }) ∷ []

module _ (follow : MarkedByte) (tail : List MarkedByte) (not_entry : is_entry_mark follow ≡ false) (not_quote : is_sign 34 follow ≡ false) (not_space : is_space follow ≡ false) where
  no-quote : behind_sign 34 (follow ∷ tail) ≡ None
  no-quote = ap (λ b. cond {A = Option (List MarkedByte)} b (Some tail) None) not_quote

  skipped-finds : (part : List MarkedByte) → AreBlanks part → SlotFound (part ++ follow ∷ tail) [] (follow ∷ tail)
  skipped-finds part blank = record {
    id = trim is_space part;
    label = None;
    found = slot-plain part (follow ∷ tail) (blanks-entry part blank) not_entry no-quote;
    are = ap (λ l. xrefs_of l None) (trim-blank part blank);
  }

  unlabelled-finds : (part : List MarkedByte) (xref : Xref) (e : IsEntry part xref) → e.label ≡ [] → None ≡ xref.label → SlotFound (part ++ follow ∷ tail) (xref ∷ []) (follow ∷ tail)
  unlabelled-finds part xref e nil none =
      let after = e.between ++ e.behind in
      let whole : part ≡ e.before ++ (e.id ++ after) = e.whole ∙ (ap (λ l. e.before ++ e.id ++ e.between ++ l ++ e.behind) nil ∙ simp (append_assoc, append-nil)) in
      let blank = pass-append is_space e.between e.behind e.blank_between e.blank_behind in
      let each : AllPass is_entry_mark part = subst (AllPass is_entry_mark) (sym whole) (pass-append is_entry_mark e.before (e.id ++ after) (blanks-entry e.before e.blank_before) (pass-append is_entry_mark e.id after e.each (blanks-entry after blank))) in
      let id : trim is_space part ≡ e.id = ap (trim is_space) whole ∙ trim-run is_space e.before e.id after e.blank_before e.trimmed blank in
      record {
        id = trim is_space part;
        label = None;
        found = slot-plain part (follow ∷ tail) each not_entry no-quote;
        are = ap (λ l. xrefs_of l None) id ∙ (some-xref e.id None e.some ∙ xref-is xref e.id None e.read none);
      }

  labelled-finds : (part : List MarkedByte) (xref : Xref) (e : IsEntry part xref) (text : List ℕ) → IsQuoted e.label text → Some text ≡ xref.label → SlotFound (part ++ follow ∷ tail) (xref ∷ []) (follow ∷ tail)
  labelled-finds part xref e text q same =
      let run = e.before ++ (e.id ++ e.between) in
      let more = e.behind ++ follow ∷ tail in
      let each : AllPass is_entry_mark run = pass-append is_entry_mark e.before (e.id ++ e.between) (blanks-entry e.before e.blank_before) (pass-append is_entry_mark e.id e.between e.each (blanks-entry e.between e.blank_between)) in
      let id : trim is_space run ≡ e.id = trim-run is_space e.before e.id e.between e.blank_before e.trimmed e.blank_between in
      let some : 0 < length (trim is_space run) = subst (λ (l : List MarkedByte). 0 < length l) (sym id) e.some in
      let whole : part ++ follow ∷ tail ≡ run ++ (quote ∷ (q.inside ++ quote ∷ more)) = ap (λ l. l ++ follow ∷ tail) (e.whole ∙ ap (λ l. e.before ++ e.id ++ e.between ++ l ++ e.behind) q.whole) ∙ simp append_assoc in
      let at : behind_blanks more ≡ follow ∷ tail = blanks-behind e.behind (follow ∷ tail) e.blank_behind not_space in
      record {
        id = trim is_space run;
        label = Some q.inside;
        found = ap slot_at whole ∙ (slot-labelled run q.inside more each some q.each ∙ ap (λ (l : List MarkedByte). done run q.inside l) at);
        are = ap (λ l. xrefs_of l (Some q.inside)) id ∙ (some-xref e.id (Some q.inside) e.some ∙ xref-is xref e.id (Some q.inside) e.read (ap Some q.read ∙ same));
      }
    where
      done : List MarkedByte → List MarkedByte → List MarkedByte → Answer Slot
      done run inside l = Ok (trim is_space run, Some inside, l)

  entry-finds : (part : List MarkedByte) (xref : Xref) (e : IsEntry part xref) (o : Option (List ℕ)) → o ≡ xref.label → IsLabel e.label o → SlotFound (part ++ follow ∷ tail) (xref ∷ []) (follow ∷ tail)
  entry-finds part xref e None same nil = unlabelled-finds part xref e nil same
  entry-finds part xref e (Some text) same q = labelled-finds part xref e text q same

  slot-finds : (part : List MarkedByte) (xrefs : List Xref) → IsSlot part xrefs → SlotFound (part ++ follow ∷ tail) xrefs (follow ∷ tail)
  slot-finds part _ (IsSlot.skipped blank) = skipped-finds part blank
  slot-finds part _ (IsSlot.filled xref e) = entry-finds part xref e xref.label refl e.labelled

-- ---- lists

slots-step : (count : ℕ) (marks : List MarkedByte) (xrefs : List Xref) (rest : List MarkedByte) → SlotFound marks xrefs rest
    → slots_from (suc count) marks ≡ found {B = Answer Listed} (behind_sign 44 rest) (list_end xrefs rest) (λ (more : List MarkedByte). next {A = Listed} {B = Listed} (slots_from count more) (λ (read : Listed). Ok (xrefs ++ read.0, read.1)))
unfolding slots_from
slots-step count marks xrefs rest f =
    ap (λ o. next {A = Slot} {B = Listed} o (λ (slot : Slot). found {B = Answer Listed} (behind_sign 44 slot.2) (list_end (xrefs_of slot.0 slot.1) slot.2) (λ (more : List MarkedByte). next {A = Listed} {B = Listed} (slots_from count more) (λ (read : Listed). Ok (xrefs_of slot.0 slot.1 ++ read.0, read.1))))) f.found
    ∙ ap (λ (l : List Xref). found {B = Answer Listed} (behind_sign 44 rest) (list_end l rest) (λ (more : List MarkedByte). next {A = Listed} {B = Listed} (slots_from count more) (λ (read : Listed). Ok (l ++ read.0, read.1)))) f.are

pub slots-finds : (inside : List MarkedByte) (xrefs : List Xref) → AreSlots inside xrefs → (count : ℕ) (rest : List MarkedByte) → length inside < count → slots_from count (inside ++ list_close ∷ rest) ≡ Ok (xrefs, rest)
slots-finds _ _ (AreSlots.last marks xrefs is) zero rest fits = absurd (omega arith)
slots-finds _ _ (AreSlots.last marks xrefs is) (suc count) rest fits =
    slots-step count (marks ++ list_close ∷ rest) xrefs (list_close ∷ rest) (slot-finds list_close rest refl refl refl marks xrefs is)
slots-finds _ _ (AreSlots.more marks more xrefs others is are) zero rest fits = absurd (omega arith)
slots-finds _ _ (AreSlots.more marks more xrefs others is are) (suc count) rest fits =
    let tail = more ++ list_close ∷ rest in
    let fewer : length more < count = omega (arith, length-append marks (comma ∷ more)) in
    ap (slots_from (suc count)) (append_assoc marks (comma ∷ more) (list_close ∷ rest))
    ∙ (slots-step count (marks ++ comma ∷ tail) xrefs (comma ∷ tail) (slot-finds comma tail refl refl refl marks xrefs is)
    ∙ ap (λ o. next {A = Listed} {B = Listed} o (λ (read : Listed). Ok (xrefs ++ read.0, read.1))) (slots-finds more others are count rest fewer))

-- an error at the first slot
slots-fail : (count : ℕ) (marks : List MarkedByte) (one : SyntaxKind) → slot_at marks ≡ Err one → slots_from (suc count) marks ≡ Err one
unfolding slots_from
slots-fail count marks one e =
    ap (λ o. next {A = Slot} {B = Listed} o (λ (slot : Slot). found {B = Answer Listed} (behind_sign 44 slot.2) (list_end (xrefs_of slot.0 slot.1) slot.2) (λ (more : List MarkedByte). next {A = Listed} {B = Listed} (slots_from count more) (λ (read : Listed). Ok (xrefs_of slot.0 slot.1 ++ read.0, read.1))))) e

-- a slot with neither a comma nor the list's end behind it
slots-neither : (count : ℕ) (marks id : List MarkedByte) (label : Option (List MarkedByte)) (rest : List MarkedByte) → slot_at marks ≡ Ok (id, label, rest) → behind_sign 44 rest ≡ None → behind_sign 93 rest ≡ None → slots_from (suc count) marks ≡ Err syntax.XrefList
slots-neither count marks id label rest e comma close =
    slots-step count marks (xrefs_of id label) rest (record { id = id; label = label; found = e; are = refl })
    ∙ (ap (λ o. found {B = Answer Listed} o (list_end (xrefs_of id label) rest) (λ (more : List MarkedByte). next {A = Listed} {B = Listed} (slots_from count more) (λ (read : Listed). Ok (xrefs_of id label ++ read.0, read.1)))) comma
    ∙ ap (λ o. next {A = List MarkedByte} {B = Listed} (wanted syntax.XrefList o) (λ (rest : List MarkedByte). Ok (xrefs_of id label, rest))) close)

slot-lone : (blanks rest : List MarkedByte) → AreBlanks blanks → slot_at (blanks ++ quote ∷ rest) ≡ Err syntax.XrefList
slot-lone blanks rest blank =
    slot-quote blanks rest (blanks-entry blanks blank) ∙ ap (λ l. label_at l rest) (trim-blank blanks blank)

slot-endless : (run rest : List MarkedByte) → AllPass is_entry_mark run → ¬ AreBlanks run → AllPass is_quoted_mark rest → slot_at (run ++ quote ∷ rest) ≡ Err syntax.OpenQuote
slot-endless run rest each filled quoted =
    slot-quote run rest each
    ∙ (label-some (trim is_space run) rest (some-trim run filled)
    ∙ ap (λ o. next {A = List MarkedByte × List MarkedByte} {B = Slot} (wanted syntax.OpenQuote o) (λ (read : List MarkedByte × List MarkedByte). Ok (trim is_space run, Some read.0, behind_blanks read.1))) (inside-none rest quoted))

pub slots-refuse : (marks : List MarkedByte) (one : SyntaxKind) → ListFails marks one → (count : ℕ) → length marks < count → slots_from count marks ≡ Err one
slots-refuse _ _ (ListFails.later marks rest xrefs one is fails) zero fits = absurd (omega arith)
slots-refuse _ _ (ListFails.later marks rest xrefs one is fails) (suc count) fits =
    let fewer : length rest < count = omega (arith, length-append marks (comma ∷ rest)) in
    slots-step count (marks ++ comma ∷ rest) xrefs (comma ∷ rest) (slot-finds comma rest refl refl refl marks xrefs is)
    ∙ ap (λ o. next {A = Listed} {B = Listed} o (λ (read : Listed). Ok (xrefs ++ read.0, read.1))) (slots-refuse rest one fails count fewer)
slots-refuse _ _ (ListFails.endless marks each) zero fits = absurd (omega arith)
slots-refuse _ _ (ListFails.endless marks each) (suc count) fits =
    slots-neither count marks (trim is_space marks) None [] (ap slot_at (sym (append-nil marks)) ∙ slot-plain marks [] each tt refl) refl refl
slots-refuse _ _ (ListFails.lone_label blanks rest blank) zero fits = absurd (omega arith)
slots-refuse _ _ (ListFails.lone_label blanks rest blank) (suc count) fits =
    slots-fail count (blanks ++ quote ∷ rest) syntax.XrefList (slot-lone blanks rest blank)
slots-refuse _ _ (ListFails.endless_label run rest each filled quoted) zero fits = absurd (omega arith)
slots-refuse _ _ (ListFails.endless_label run rest each filled quoted) (suc count) fits =
    slots-fail count (run ++ quote ∷ rest) syntax.OpenQuote (slot-endless run rest each filled quoted)
slots-refuse _ _ (ListFails.behind_label run label more rest text each filled q at stops) zero fits = absurd (omega arith)
slots-refuse _ _ (ListFails.behind_label run label more rest text each filled q at stops) (suc count) fits =
    let whole : run ++ label ++ more ≡ run ++ (quote ∷ (q.inside ++ quote ∷ more)) = ap (λ l. run ++ l ++ more) q.whole ∙ simp append_assoc in
    let left : behind_blanks more ≡ rest = blanks-of more rest at in
    let found : slot_at (run ++ label ++ more) ≡ Ok (trim is_space run, Some q.inside, rest) = ap slot_at whole ∙ (slot-labelled run q.inside more each (some-trim run filled) q.each ∙ ap (λ (l : List MarkedByte). done run q.inside l) left) in
    slots-neither count (run ++ label ++ more) (trim is_space run) (Some q.inside) rest found (slot_end-none 44 rest slot_end-comma stops) (slot_end-none 93 rest slot_end-close stops)
  where
    done : List MarkedByte → List MarkedByte → List MarkedByte → Answer Slot
    done run inside l = Ok (trim is_space run, Some inside, l)

-- ---- the list behind blanks

-- an xref list, or nothing, and the rest
pub data ListForm (marks : List MarkedByte) : Listed → Type 0 where
  without : Stops is_list_open (behind_blanks marks) → ListForm marks ([], marks)
  list : (blanks inside rest : List MarkedByte) (xrefs : List Xref) → marks ≡ blanks ++ (list_open ∷ (inside ++ list_close ∷ rest)) → AreBlanks blanks → AreSlots inside xrefs → ListForm marks (xrefs, rest)

list-step : (marks : List MarkedByte) (listed : Listed) (o : Option (List MarkedByte)) → behind_sign 91 (behind_blanks marks) ≡ o → found {B = Answer Listed} o (Ok ([], marks)) (λ (inside : List MarkedByte). slots_from (suc (length inside)) inside) ≡ Ok listed → ListForm marks listed
list-step marks listed None e h =
    subst (ListForm marks) (same-ok ([], marks) listed h) (ListForm.without (list_stops (behind_blanks marks) e))
list-step marks listed (Some inside) e h =
    let has = slots-found (suc (length inside)) inside listed h in
    let at = blanks-at marks in
    ListForm.list at.blanks has.inside listed.1 listed.0 (at.whole ∙ ap (λ l. at.blanks ++ l) (behind_sign-found 91 (behind_blanks marks) inside e ∙ ap (λ l. list_open ∷ l) has.whole)) at.blank has.are

pub list-found : (marks : List MarkedByte) (listed : Listed) → list_at marks ≡ Ok listed → ListForm marks listed
unfolding list_at
list-found marks listed h = list-step marks listed (behind_sign 91 (behind_blanks marks)) refl h

list-err : (after : Wrong) (marks : List MarkedByte) (one : SyntaxKind) (o : Option (List MarkedByte)) → behind_sign 91 (behind_blanks marks) ≡ o → found {B = Answer Listed} o (Ok ([], marks)) (λ (inside : List MarkedByte). slots_from (suc (length inside)) inside) ≡ Err one → MayHaveList after marks one
list-err after marks one None e h = cc
list-err after marks one (Some inside) e h =
    MayHaveList.broken inside one (subst (IsBehindBlanks marks) (behind_sign-found 91 (behind_blanks marks) inside e) (blanks-at marks)) (slots-wrong (suc (length inside)) inside one (omega arith) h)

pub list-fails : (after : Wrong) (marks : List MarkedByte) (one : SyntaxKind) → list_at marks ≡ Err one → MayHaveList after marks one
unfolding list_at
list-fails after marks one h = list-err after marks one (behind_sign 91 (behind_blanks marks)) refl h

-- a list that is there is read
pub list-finds : (blanks inside rest : List MarkedByte) (xrefs : List Xref) → AreBlanks blanks → AreSlots inside xrefs → list_at (blanks ++ (list_open ∷ (inside ++ list_close ∷ rest))) ≡ Ok (xrefs, rest)
unfolding list_at
list-finds blanks inside rest xrefs blank are =
    let all = inside ++ list_close ∷ rest in
    let fits : length inside < suc (length all) = omega (arith, length-append inside (list_close ∷ rest)) in
    ap (λ l. found {B = Answer Listed} (behind_sign 91 l) (Ok ([], blanks ++ list_open ∷ all)) (λ (inside : List MarkedByte). slots_from (suc (length inside)) inside)) (blanks-behind blanks (list_open ∷ all) blank refl)
    ∙ slots-finds inside xrefs are (suc (length all)) rest fits

-- where none is, none is read
pub list-none : (marks : List MarkedByte) → behind_sign 91 (behind_blanks marks) ≡ None → list_at marks ≡ Ok ([], marks)
unfolding list_at
list-none marks none =
    ap (λ o. found {B = Answer Listed} o (Ok ([], marks)) (λ (inside : List MarkedByte). slots_from (suc (length inside)) inside)) none

pub list-without : (marks rest : List MarkedByte) → IsBehindBlanks marks rest → Stops is_list_open rest → list_at marks ≡ Ok ([], marks)
list-without marks rest at stops = list-none marks (ap (behind_sign 91) (blanks-of marks rest at) ∙ no_list rest stops)

pub list-broken : (marks inside : List MarkedByte) (one : SyntaxKind) → IsBehindBlanks marks (list_open ∷ inside) → ListFails inside one → list_at marks ≡ Err one
unfolding list_at
list-broken marks inside one at fails =
    ap (λ l. found {B = Answer Listed} (behind_sign 91 l) (Ok ([], marks)) (λ (inside : List MarkedByte). slots_from (suc (length inside)) inside)) (blanks-of marks (list_open ∷ inside) at)
    ∙ slots-refuse inside one fails (suc (length inside)) (omega arith)
