-- The function that tells what a file comes to agrees with what the lines of the file say.
use Rattle.std.proofs.Common.{◌≡◌, inl, inr, ℕ, List, [], ◌∷◌, Option, None, Some, Result, Ok, Err, ap, refl, subst, sym}
use Rattle.std.specs.Result.{IfErr, IfOk}
use Rattle.obo_lexer.specs.Items.{lines_of}
use Rattle.obo_lexer.specs.declared.line.LineBody.{LineBody}
use Rattle.obo_lexer.specs.declared.line.LineBody.TheVariants as body
use Rattle.obo_lexer.specs.declared.line.LineItem.{LineItem}
use Rattle.obo_clause.specs.ReadingLines.{answer_to}
use Rattle.obo_clause.specs.declared.line.Line.{Line}
use Rattle.obo_clause.specs.declared.line.SyntaxKind.{SyntaxKind}
use Rattle.obo_frames.specs.Answer.{AnswersIt, IsExact, and_then, and_told, body_answer, document_of, frames_answer, lines_answer, numbered_answer, unless_faulty}
use Rattle.obo_frames.specs.Documents.{IsDocument, IsFaultOfFile, IsFirstFault, first_fault, of_frame, of_line}
use Rattle.obo_frames.specs.Frames.{placed_of}
use Rattle.obo_frames.specs.Telling.{BodyFails, BodySays, FailsFirst, IsTold, Tells, not_utf8, place_after, start, syntax, too_long}
use Rattle.obo_frames.specs.declared.fault.DocFault.{DocFault}
use Rattle.obo_frames.specs.declared.placed.Placed.{Placed}
use Rattle.obo_frames.specs.declared.told.Place.{Place}
use Rattle.obo_frames.specs.declared.told.Told.{Told}
use Rattle.obo_clause.proofs.AnswerLemmas.{answer-is-fault, answer-is-said}
use Rattle.obo_frames.specs.Feeding.{IsAnswer}
use Rattle.obo_frames.specs.inner.Reading.{IsItemFault}
use Rattle.obo_frames.proofs.OneLemmas.{body_fault, has_one_fault, is_never_both, is_one_document, never_says, same_fault, told_one}

-- ---- one line

abbrev IsBodyAnswer : Place → ℕ → LineBody → Result Told DocFault → Type 0
IsBodyAnswer at number text (Ok told) = (told.line ≡ number) × BodySays at text told.said
IsBodyAnswer at number text (Err one) = BodyFails at number text one

text_is_answered : (at : Place) (number : ℕ) (text : List ℕ) (answer : Result Line SyntaxKind) → answer_to at.kind at.is_first text ≡ answer → IsBodyAnswer at number (body.Text text) (numbered_answer number answer)
text_is_answered at number text (Ok said) e = (refl, answer-is-said at.kind at.is_first text said e)
text_is_answered at number text (Err one) e = syntax text one (answer-is-fault at.kind at.is_first text one e)

body_is_answered : (at : Place) (number : ℕ) (text : LineBody) → IsBodyAnswer at number text (body_answer at number text)
body_is_answered at number (body.Text text) = text_is_answered at number text (answer_to at.kind at.is_first text) refl
body_is_answered at number body.NotUtf8 = not_utf8
body_is_answered at number body.TooLong = too_long

-- what is told of a line, or its fault, is the answer to it

told_is_answer : (at : Place) (item : LineItem) (answer : Result Told DocFault) (told : Told) → IsBodyAnswer at item.number item.body answer → IsTold at item told → Ok told ≡ answer
told_is_answer at item (Ok other) told answered is =
    ap Ok (told_one at item told other is (record { line = answered.0; says = answered.1 }))
told_is_answer at item (Err one) told answered is =
    absurd (never_says at item.number item.body told.said one is.says (body_fault at item.number item.body one answered))

fault_is_answer : (at : Place) (item : LineItem) (answer : Result Told DocFault) (one : DocFault) → IsBodyAnswer at item.number item.body answer → BodyFails at item.number item.body one → Err one ≡ answer
fault_is_answer at item (Ok told) one answered fails =
    absurd (never_says at item.number item.body told.said one answered.1 (body_fault at item.number item.body one fails))
fault_is_answer at item (Err other) one answered fails =
    ap Err (same_fault at item.number item.body one other (body_fault at item.number item.body one fails) (body_fault at item.number item.body other answered))

pub item_is_answered : (at : Place) (item : LineItem) (result : Result Told DocFault) → IfOk result (IsTold at item) → IfErr result (IsItemFault at item) → IsAnswer (body_answer at item.number item.body) result
item_is_answered at item (Ok told) is fault =
    inl (told_is_answer at item (body_answer at item.number item.body) told (body_is_answered at item.number item.body) is)
item_is_answered at item (Err one) told (inl fails) =
    inl (fault_is_answer at item (body_answer at item.number item.body) one (body_is_answered at item.number item.body) fails)
item_is_answered at item (Err one) told (inr is) = inr (ap Err is)

-- ---- all lines

abbrev AreAnswered : Place → List LineItem → Result (List Told) DocFault → Type 0
AreAnswered at items (Ok tolds) = Tells at items tolds
AreAnswered at items (Err one) = FailsFirst at items one

more_are_answered : (at : Place) (item : LineItem) (items : List LineItem) (told : Told) (others : Result (List Told) DocFault) → IsTold at item told → AreAnswered (place_after at told.said) items others → AreAnswered at (item ∷ items) (and_told told others)
more_are_answered at item items told (Ok tolds) is rest = (is, rest)
more_are_answered at item items told (Err one) is rest = inr (told.said, is.says, rest)

all_are_answered : (at : Place) (item : LineItem) (items : List LineItem) (answer : Result Told DocFault) → IsBodyAnswer at item.number item.body answer → ((told : Told) → AreAnswered (place_after at told.said) items (lines_answer (place_after at told.said) items))
    → AreAnswered at (item ∷ items) (and_then answer (λ told. lines_answer (place_after at told.said) items))
all_are_answered at item items (Ok told) is rest =
    more_are_answered at item items told (lines_answer (place_after at told.said) items) (record { line = is.0; says = is.1 }) (rest told)
all_are_answered at item items (Err one) is rest = inl is

lines_are_answered : (at : Place) (items : List LineItem) → AreAnswered at items (lines_answer at items)
lines_are_answered at [] = tt
lines_are_answered at (item ∷ items) =
    all_are_answered at item items (body_answer at item.number item.body) (body_is_answered at item.number item.body) (λ told. lines_are_answered (place_after at told.said) items)

-- ---- files

abbrev IsFileAnswer : ℕ → List ℕ → Result (List Placed) DocFault → Type 0
IsFileAnswer limit bytes (Ok placed) = IsDocument limit bytes placed
IsFileAnswer limit bytes (Err one) = IsFirstFault limit bytes one

frames_are_answered : (limit : ℕ) (bytes : List ℕ) (tolds : List Told) (found : Option DocFault) → Tells start (lines_of limit bytes) tolds → first_fault tolds ≡ found → IsFileAnswer limit bytes (unless_faulty (placed_of tolds) found)
frames_are_answered limit bytes tolds None tells e = record {
  tolds = tolds;
  tells = tells;
  faultless = e;
  in_places = refl;
}
frames_are_answered limit bytes tolds (Some one) tells e = of_frame tolds tells e

told_are_answered : (limit : ℕ) (bytes : List ℕ) (answer : Result (List Told) DocFault) → AreAnswered start (lines_of limit bytes) answer → IsFileAnswer limit bytes (frames_answer answer)
told_are_answered limit bytes (Ok tolds) tells = frames_are_answered limit bytes tolds (first_fault tolds) tells refl
told_are_answered limit bytes (Err one) fails = of_line fails

file_is_answered : (limit : ℕ) (bytes : List ℕ) → IsFileAnswer limit bytes (document_of limit bytes)
unfolding document_of
file_is_answered limit bytes =
    told_are_answered limit bytes (lines_answer start (lines_of limit bytes)) (lines_are_answered start (lines_of limit bytes))

-- ---- and back

document_is_answered : (limit : ℕ) (bytes : List ℕ) (answer : Result (List Placed) DocFault) → IsFileAnswer limit bytes answer → (placed : List Placed) → IsDocument limit bytes placed → answer ≡ Ok placed
document_is_answered limit bytes (Ok other) is placed wanted = ap Ok (is_one_document limit bytes other placed is wanted)
document_is_answered limit bytes (Err one) is placed wanted = absurd (is_never_both limit bytes placed one wanted is)

fault_is_answered : (limit : ℕ) (bytes : List ℕ) (answer : Result (List Placed) DocFault) → IsFileAnswer limit bytes answer → (one : DocFault) → IsFirstFault limit bytes one → answer ≡ Err one
fault_is_answered limit bytes (Ok placed) is one wanted = absurd (is_never_both limit bytes placed one is wanted)
fault_is_answered limit bytes (Err other) is one wanted = ap Err (has_one_fault limit bytes other one is wanted)

pub is_exact : (limit : ℕ) (bytes : List ℕ) → IsExact limit bytes
is_exact limit bytes =
    let answered = file_is_answered limit bytes in
    record {
      document = λ placed. (λ e. subst (IsFileAnswer limit bytes) e answered, document_is_answered limit bytes (document_of limit bytes) answered placed);
      fault = λ one. (λ e. subst (IsFileAnswer limit bytes) e answered, fault_is_answered limit bytes (document_of limit bytes) answered one);
    }

-- what is answered, where it is what the function tells or want of memory

pub document_answered : (limit : ℕ) (bytes : List ℕ) (result : Result (List Placed) DocFault) → AnswersIt limit bytes result → IfOk result (IsDocument limit bytes)
document_answered limit bytes (Ok placed) (inl is) = ((is_exact limit bytes).document placed).0 (sym is)
document_answered limit bytes (Ok placed) (inr none) = absurd (cc)
document_answered limit bytes (Err one) answer = tt

pub fault_answered : (limit : ℕ) (bytes : List ℕ) (result : Result (List Placed) DocFault) → AnswersIt limit bytes result → IfErr result (IsFaultOfFile limit bytes)
fault_answered limit bytes (Ok placed) answer = tt
fault_answered limit bytes (Err one) (inl is) = inl (((is_exact limit bytes).fault one).0 (sym is))
fault_answered limit bytes (Err one) (inr none) = inr (cc)
