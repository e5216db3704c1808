-- What a file comes to, as a function: its document, or its first fault. It goes from line to line; a law tells that it is
-- what `Documents` says without going anywhere. (Own.)
use Rattle.std.specs.Prelude.{◌≡◌, ◌⊎◌, ◌↔◌, ℕ, List, [], ◌∷◌, Option, None, Some, Result, Ok, Err}
use Rattle.obo_lexer.specs.Items.{lines_of}
use Rattle.obo_lexer.specs.declared.line.LineBody.{LineBody}
use Rattle.obo_lexer.specs.declared.line.LineBody.TheVariants as body
use Rattle.obo_lexer.specs.declared.line.LineItem.{LineItem}
use Rattle.obo_clause.specs.ReadingLines.{answer_to}
use Rattle.obo_clause.specs.declared.line.Line.{Line}
use Rattle.obo_clause.specs.declared.line.SyntaxKind.{SyntaxKind}
use Rattle.obo_frames.specs.Documents.{IsDocument, IsFirstFault, first_fault}
use Rattle.obo_frames.specs.Frames.{placed_of}
use Rattle.obo_frames.specs.Telling.{place_after, start}
use Rattle.obo_frames.specs.declared.fault.DocFault.{DocFault}
use Rattle.obo_frames.specs.declared.fault.DocFault.TheVariants as fault
use Rattle.obo_frames.specs.declared.placed.Placed.{Placed}
use Rattle.obo_frames.specs.declared.told.Place.{Place}
use Rattle.obo_frames.specs.declared.told.Told.{Told}

-- the answer to a line's text, as one to the line of this number
abbrev pub numbered_answer : ℕ → Result Line SyntaxKind → Result Told DocFault
numbered_answer number (Ok said) = Ok (record { line = number; said = said })
numbered_answer number (Err kind) = Err (fault.Syntax number kind)

-- what a line of this number and body says where it stands, or what is wrong with it
abbrev pub body_answer : Place → ℕ → LineBody → Result Told DocFault
body_answer place number (body.Text text) = numbered_answer number (answer_to place.kind place.is_first text)
body_answer place number body.NotUtf8 = Err (fault.NotUtf8 number)
body_answer place number body.TooLong = Err (fault.LineTooLong number)

-- what was told of a line, before what is told of the others
abbrev pub and_told : Told → Result (List Told) DocFault → Result (List Told) DocFault
and_told told (Ok tolds) = Ok (told ∷ tolds)
and_told told (Err one) = Err one

-- the lines behind one, where it says something
abbrev pub and_then : Result Told DocFault → (Told → Result (List Told) DocFault) → Result (List Told) DocFault
and_then (Ok told) others = and_told told (others told)
and_then (Err one) others = Err one

-- what the lines say, or what is wrong with the first faulty one
abbrev pub lines_answer : Place → List LineItem → Result (List Told) DocFault
lines_answer place [] = Ok []
lines_answer place (item ∷ items) =
    and_then (body_answer place item.number item.body) (λ told. lines_answer (place_after place told.said) items)

-- the document, where no frame is faulty
abbrev pub unless_faulty : List Placed → Option DocFault → Result (List Placed) DocFault
unless_faulty placed None = Ok placed
unless_faulty placed (Some one) = Err one

-- the document of these lines
abbrev pub frames_answer : Result (List Told) DocFault → Result (List Placed) DocFault
frames_answer (Ok tolds) = unless_faulty (placed_of tolds) (first_fault tolds)
frames_answer (Err one) = Err one

-- the document of a file with lines of at most so many bytes, or its first fault
unfoldable pub document_of : ℕ → List ℕ → Result (List Placed) DocFault
document_of limit bytes = frames_answer (lines_answer start (lines_of limit bytes))

-- the function tells the document exactly where the file has one, and the first fault exactly where it has one. So it never
-- has both, it always has one of them, and no other of its kind
pub record IsExact (limit : ℕ) (bytes : List ℕ) : Type 0 where
  pub document : (placed : List Placed) → (document_of limit bytes ≡ Ok placed) ↔ IsDocument limit bytes placed
  pub fault : (one : DocFault) → (document_of limit bytes ≡ Err one) ↔ IsFirstFault limit bytes one

-- that is answered, but for want of memory
abbrev pub AnswersIt : ℕ → List ℕ → Result (List Placed) DocFault → Type 0
AnswersIt limit bytes result = (result ≡ document_of limit bytes) ⊎ (result ≡ Err fault.NoMemory)
