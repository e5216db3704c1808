-- How a document is read from a file in pieces: how far it has come after each piece, and what it comes to at the end.
-- (Own.)
use Rattle.std.specs.Prelude.{◌≡◌, ◌⊎◌, ℕ, ◌+◌, List, [], ◌∷◌, ◌++◌, Option, None, Result, Ok, Err, length}
use Rattle.obo_lexer.specs.Feeding as lines
use Rattle.obo_lexer.specs.declared.line.LineItem.{LineItem}
use Rattle.obo_frames.specs.Answer.{body_answer, unless_faulty}
use Rattle.obo_frames.specs.Documents.{frame_fault, least_line}
use Rattle.obo_frames.specs.Groups.{short_lines}
use Rattle.obo_frames.specs.Telling.{place_after, start}
use Rattle.obo_frames.specs.inner.Standing.{behind_line, lost_at_end, lost_at_line, placed_by_line}
use Rattle.obo_frames.specs.declared.fault.DocFault.{DocFault}
use Rattle.obo_frames.specs.declared.fault.DocFault.TheVariants as fault
use Rattle.obo_frames.specs.declared.lines.SoFar.{SoFar}
use Rattle.obo_frames.specs.declared.placed.Placed.{Placed}
use Rattle.obo_frames.specs.declared.standing.Draft.{Draft}
use Rattle.obo_frames.specs.declared.standing.Standing.TheVariants.{Header}
use Rattle.obo_frames.specs.declared.told.Told.{Told}

-- what is read, and then what is read behind it: a fault ends both
abbrev pub then_read : {A B : Type 0} → Result A DocFault → (A → Result B DocFault) → Result B DocFault
then_read (Ok value) next = next value
then_read (Err one) next = Err one

-- this is answered, but for want of memory
abbrev pub IsAnswer : {A : Type 0} → Result A DocFault → Result A DocFault → Type 0
IsAnswer wanted result = (result ≡ wanted) ⊎ (result ≡ Err fault.NoMemory)

-- ---- lines

-- the clauses of the lines so far, with those of one line more
abbrev pub with_line : Draft → Told → Draft
with_line draft told = record {
  standing = behind_line draft.standing told.line told.said;
  placed = draft.placed ++ placed_by_line draft.standing told.line told.said;
  lost = least_line draft.lost (lost_at_line draft.standing told.said);
}

abbrev pub with_told : SoFar → Told → SoFar
with_told so_far told = record { place = place_after so_far.place told.said; draft = with_line so_far.draft told }

-- no line was read
abbrev pub nothing_read : SoFar
nothing_read = record { place = start; draft = record { standing = Header; placed = []; lost = None } }

-- one line more, read where it stands, or what is wrong with it
abbrev pub read_item : SoFar → LineItem → Result SoFar DocFault
read_item so_far item =
    then_read (body_answer so_far.place item.number item.body) (λ told. Ok (with_told so_far told))

-- lines one after the other, or what is wrong with the first faulty one
abbrev pub read_items : SoFar → List LineItem → Result SoFar DocFault
read_items so_far [] = Ok so_far
read_items so_far (item ∷ items) = then_read (read_item so_far item) (λ next. read_items next items)

-- the document of the lines so far, or the first fault of their frames
abbrev pub draft_fault : Draft → Option DocFault
draft_fault draft =
    frame_fault (least_line draft.lost (lost_at_end draft.standing)) (least_line None (short_lines draft.placed))

abbrev pub draft_answer : Draft → Result (List Placed) DocFault
draft_answer draft = unless_faulty draft.placed (draft_fault draft)

-- ---- pieces

-- a file that is read up to some byte, and has no faulty line so far
pub record Midway : Type 0 where
  -- its lines, as their feeder has them
  pub lines : lines.Feeder
  -- what those that ended come to
  pub so_far : SoFar

-- a file with lines of at most so many bytes, before its first byte
abbrev pub untouched : ℕ → Midway
untouched limit = record { lines = lines.fresh limit; so_far = nothing_read }

-- no line waits any more
abbrev pub emptied : lines.Feeder → lines.Feeder
emptied f = record f { lines = record f.lines { waiting = [] } }

-- the lines that wait are read
abbrev pub read_waiting : lines.Feeder → SoFar → Result Midway DocFault
read_waiting f so_far =
    then_read (read_items so_far f.lines.waiting) (λ next. Ok (record { lines = emptied f; so_far = next }))

-- a piece more
abbrev pub read_piece : Midway → List ℕ → Result Midway DocFault
read_piece midway piece = read_waiting (lines.after_piece midway.lines piece) midway.so_far

-- the end of the file
abbrev pub read_end : Midway → Result (List Placed) DocFault
read_end midway =
    then_read (read_items midway.so_far (lines.after_end midway.lines).lines.waiting) (λ (so_far : SoFar). draft_answer so_far.draft)

-- ---- feeders

-- a feeder, as contracts see it
pub record Feeder : Type 0 where
  -- how many bytes were fed
  pub fed : ℕ
  -- how far the file is read, or what is wrong with its first faulty line; want of memory where memory was wanting once
  pub read : Result Midway DocFault

-- a feeder to which nothing was fed
abbrev pub fresh : ℕ → Feeder
fresh limit = record { fed = 0; read = Ok (untouched limit) }

-- a feeder after a piece
abbrev pub after_piece : Feeder → List ℕ → Feeder
after_piece f piece = record {
  fed = f.fed + length piece;
  read = then_read f.read (λ midway. read_piece midway piece);
}

-- a feeder to which these bytes were fed
abbrev pub IsFed : ℕ → List ℕ → Feeder → Type 0
IsFed limit bytes f = f ≡ after_piece (fresh limit) bytes

-- what a feeder comes to at the end of the file
abbrev pub finished : Feeder → Result (List Placed) DocFault
finished f = then_read f.read read_end

-- a feeder that met want of memory: it keeps nothing of the file
abbrev pub IsSpent : Feeder → Type 0
IsSpent f = f.read ≡ Err fault.NoMemory

abbrev pub spent : Feeder → Feeder
spent f = record f { read = Err fault.NoMemory }
