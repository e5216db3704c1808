-- The document of a file, or its fault, and the order of faults. (Own.)
use Rattle.std.specs.Prelude.{◌≡◌, ◌⊎◌, ℕ, List, [], ◌∷◌, Option, None, Some, Result, Ok, Err, if◌then◌else◌, min, nat_lt}
use Rattle.obo_lexer.specs.Items.{lines_of}
use Rattle.obo_frames.specs.Frames.{lines_without_id, placed_of}
use Rattle.obo_frames.specs.Groups.{short_lines}
use Rattle.obo_frames.specs.Telling.{FailsFirst, Tells, start}
use Rattle.obo_frames.specs.declared.fault.DocFault.{DocFault}
use Rattle.obo_frames.specs.declared.fault.DocFault.TheVariants as fault
use Rattle.obo_frames.specs.declared.placed.Placed.{Placed}
use Rattle.obo_frames.specs.declared.told.Told.{Told}

-- the lesser of two lines
abbrev pub lesser_line : Option ℕ → ℕ → ℕ
lesser_line None line = line
lesser_line (Some best) line = min best line

-- the least of the lines and of one before them, if there is any
abbrev pub least_line : Option ℕ → List ℕ → Option ℕ
least_line best [] = best
least_line best (line ∷ lines) = least_line (Some (lesser_line best line)) lines

-- of a frame without an id and a short group, at these lines, the one whose line is least
abbrev pub frame_fault : Option ℕ → Option ℕ → Option DocFault
frame_fault None None = None
frame_fault None (Some group) = Some (fault.ShortGroup group)
frame_fault (Some frame) None = Some (fault.NoId frame)
frame_fault (Some frame) (Some group) = Some (if nat_lt group frame then fault.ShortGroup group else fault.NoId frame)

-- the first fault of the frames of these lines: of all frames without an id, each at its frame line, and of all short
-- groups, each at the line of its first clause, the one whose line is least
abbrev pub first_fault : List Told → Option DocFault
first_fault tolds =
    frame_fault (least_line None (lines_without_id tolds)) (least_line None (short_lines (placed_of tolds)))

-- the file is this document: each line says something, no frame is faulty, and the clauses stand in their places
pub record IsDocument (limit : ℕ) (bytes : List ℕ) (placed : List Placed) : Type 0 where
  pub tolds : List Told
  pub tells : Tells start (lines_of limit bytes) tolds
  pub faultless : first_fault tolds ≡ None
  pub in_places : placed ≡ placed_of tolds

-- the first fault of the file: that of its first faulty line, or without one that of its frames
pub data IsFirstFault (limit : ℕ) (bytes : List ℕ) (one : DocFault) : Type 0 where
  of_line : FailsFirst start (lines_of limit bytes) one → IsFirstFault limit bytes one
  of_frame : (tolds : List Told) → Tells start (lines_of limit bytes) tolds → first_fault tolds ≡ Some one → IsFirstFault limit bytes one

-- a fault that is answered is the first of the file, or want of memory
abbrev pub IsFaultOfFile : ℕ → List ℕ → DocFault → Type 0
IsFaultOfFile limit bytes one = IsFirstFault limit bytes one ⊎ (one ≡ fault.NoMemory)

-- the document of the file is answered, but for want of memory
abbrev pub AnswersDocument : ℕ → List ℕ → Result (List Placed) DocFault → Type 0
AnswersDocument limit bytes result =
    (placed : List Placed) → IsDocument limit bytes placed → (result ≡ Ok placed) ⊎ (result ≡ Err fault.NoMemory)

-- the first fault of the file is answered, but for want of memory
abbrev pub AnswersFault : ℕ → List ℕ → Result (List Placed) DocFault → Type 0
AnswersFault limit bytes result =
    (one : DocFault) → IsFirstFault limit bytes one → (result ≡ Err one) ⊎ (result ≡ Err fault.NoMemory)
