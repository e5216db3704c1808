-- The frames of a file, and the clauses that they place. A frame is its frame line and the clauses up to the next frame
-- line; its id is the value of its first clause, if that is an `id` clause. (OBO Flat File Format 1.4, frames; that the
-- `id` clause comes first is the profile's.)
use Rattle.std.specs.Prelude.{ℕ, Bool, List, [], ◌∷◌, ◌++◌, Option, None, Some, codes, filter, if◌then◌else◌, is_none, map}
use Rattle.std.specs.List.{flat_map}
use Rattle.std.specs.Option.{option_map_or}
use Rattle.std.specs.Str.{bytes_eq}
use Rattle.obo_tags.specs.declared.kind.FrameKind.{FrameKind}
use Rattle.obo_tags.specs.declared.kind.FrameKind.TheVariants as kinds
use Rattle.obo_clause.specs.declared.clause.Clause.{Clause}
use Rattle.obo_clause.specs.declared.clause.Value.{Value}
use Rattle.obo_clause.specs.declared.clause.Value.TheVariants as value
use Rattle.obo_clause.specs.declared.line.Line.{Line}
use Rattle.obo_clause.specs.declared.line.Line.TheVariants as says
use Rattle.obo_frames.specs.declared.placed.Placed.{Placed}
use Rattle.obo_frames.specs.declared.told.Told.{Told}

-- a clause, and the number of its line
pub record Entry : Type 0 where
  pub line : ℕ
  pub clause : Clause

-- a frame: its kind, the number of its frame line, and its clauses
pub record Frame : Type 0 where
  pub kind : FrameKind
  pub line : ℕ
  pub entries : List Entry

-- what a line adds to the clauses behind it in its frame
abbrev pub with_entry : ℕ → Line → List Entry → List Entry
with_entry line says.Blank entries = entries
with_entry line (says.Frame begun) entries = []
with_entry line (says.Content clause) entries = record { line = line; clause = clause } ∷ entries

-- the clauses before the next frame line
abbrev pub entries_before : List Told → List Entry
entries_before [] = []
entries_before (told ∷ tolds) = with_entry told.line told.said (entries_before tolds)

-- what a line adds to the frames behind it, where it stands before these clauses
abbrev pub with_frame : ℕ → Line → List Entry → List Frame → List Frame
with_frame line says.Blank entries frames = frames
with_frame line (says.Frame begun) entries frames = record { kind = begun; line = line; entries = entries } ∷ frames
with_frame line (says.Content clause) entries frames = frames

-- the frames that begin in these lines
abbrev pub frames_of : List Told → List Frame
frames_of [] = []
frames_of (told ∷ tolds) = with_frame told.line told.said (entries_before tolds) (frames_of tolds)

-- the word that a value is
abbrev pub word_in : Value → Option (List ℕ)
word_in (value.Id word) = Some word
word_in _ = None

-- the id that a clause gives its frame, where it is the first one there
abbrev pub id_in : Clause → Option (List ℕ)
id_in clause = if bytes_eq clause.tag (codes "id") then word_in clause.value else None

-- the id of a frame with these clauses
abbrev pub first_id : List Entry → Option (List ℕ)
first_id [] = None
first_id (entry ∷ entries) = id_in entry.clause

-- a clause in its place
abbrev pub place_entry : FrameKind → List ℕ → Entry → Placed
place_entry kind id entry = record { frame = kind; id = id; line = entry.line; clause = entry.clause }

-- an `id` clause in its place, without its qualifiers
abbrev pub place_id : FrameKind → List ℕ → Entry → Placed
place_id kind id entry = record { frame = kind; id = id; line = entry.line; clause = record entry.clause { qualifiers = [] } }

-- the clauses of a frame with this id, in their places
abbrev pub place_all : FrameKind → List ℕ → List Entry → List Placed
place_all kind id [] = []
place_all kind id (entry ∷ entries) = place_id kind id entry ∷ map (place_entry kind id) entries

-- what a frame places: nothing, where it has no id
abbrev pub placed_in : Frame → List Placed
placed_in frame = option_map_or (λ id. place_all frame.kind id frame.entries) (first_id frame.entries) []

-- the clauses of the header in their places
abbrev pub header_of : List Told → List Placed
header_of tolds = map (place_entry kinds.Header []) (entries_before tolds)

-- all clauses of the header and of the frames with an id, in the order of their lines
abbrev pub placed_of : List Told → List Placed
placed_of tolds = header_of tolds ++ flat_map placed_in (frames_of tolds)

-- the frame has no id
abbrev pub lacks_id : Frame → Bool
lacks_id frame = is_none (first_id frame.entries)

-- the lines at which frames without an id begin
abbrev pub lines_without_id : List Told → List ℕ
lines_without_id tolds = map (λ frame. frame.line) (filter lacks_id (frames_of tolds))
