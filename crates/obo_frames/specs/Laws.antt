-- What the definitions of documents amount to, in other words. (Own.)
use Rattle.std.specs.Prelude.{◌≡◌, ◌⊎◌, ◌↔◌, ◌≤◌, ℕ, Bool, List, [], ◌++◌, Option, None, Some, codes, Contains, map}
use Rattle.std.specs.List.Sorted.{IsStrictlyIncreasing}
use Rattle.std.specs.declared.cmp.Ordering.TheVariants.{Less}
use Rattle.text_sets.specs.Sets.{In}
use Rattle.text_sets.specs.Sorted.{text_cmp}
use Rattle.obo_lexer.specs.Items.{lines_of}
use Rattle.obo_lexer.specs.declared.line.LineBody.TheVariants as body
use Rattle.obo_clause.specs.Spelling.{Spells}
use Rattle.obo_clause.specs.declared.clause.Qualifier.{Qualifier}
use Rattle.obo_frames.specs.Answer.{document_of}
use Rattle.obo_frames.specs.Documents.{IsDocument, IsFirstFault, first_fault}
use Rattle.obo_frames.specs.Feeding.{Feeder, IsFed, after_piece, finished, fresh}
use Rattle.obo_frames.specs.Frames.{Frame, first_id, frames_of, placed_of}
use Rattle.obo_frames.specs.Framed.{Framed, SameClauses, unlined}
use Rattle.obo_frames.specs.Groups.{operands_in}
use Rattle.obo_frames.specs.Naming.{name_of, names_in, space_of}
use Rattle.obo_frames.specs.Soundness.{GivesId, HasNoShortGroup, IsSound}
use Rattle.obo_frames.specs.declared.fault.DocFault.{DocFault}
use Rattle.obo_frames.specs.declared.fault.DocFault.TheVariants as fault
use Rattle.obo_frames.specs.declared.groups.Operand.{Operand}
use Rattle.obo_frames.specs.declared.placed.Placed.{Placed}
use Rattle.obo_frames.specs.declared.told.Told.{Told}

-- ---- lines of placed clauses

-- the clauses of a document stand in the order of their lines, one a line
abbrev pub LinesRise : ℕ → List ℕ → Type 0
LinesRise limit bytes =
    (placed : List Placed) → IsDocument limit bytes placed → IsStrictlyIncreasing (map (λ one. one.line) placed)

-- the qualifiers of a placed clause are those of its line; an `id` clause that gives its frame the id has none
abbrev pub KeepsQualifiers : Placed → List Qualifier → Type 0
KeepsQualifiers one qualifiers =
    (one.clause.qualifiers ≡ qualifiers) ⊎ (GivesId one.id one × (one.clause.qualifiers ≡ []))

-- the line that a placed clause names spells it, in a frame of its kind
pub record IsSpelledByLine (limit : ℕ) (bytes : List ℕ) (one : Placed) : Type 0 where
  pub text : List ℕ
  pub stands : Contains (lines_of limit bytes) (record { number = one.line; body = body.Text text })
  pub first : Bool
  pub qualifiers : List Qualifier
  pub spells : Spells one.frame first text (record one.clause { qualifiers = qualifiers })
  pub keeps : KeepsQualifiers one qualifiers

abbrev pub LinesSpell : ℕ → List ℕ → Type 0
LinesSpell limit bytes =
    (placed : List Placed) (one : Placed) → IsDocument limit bytes placed → Contains placed one → IsSpelledByLine limit bytes one

-- ---- faults of frames

-- the two tags whose clauses make groups
pub data IsGroupTag : List ℕ → Type 0 where
  intersection : IsGroupTag (codes "intersection_of")
  union : IsGroupTag (codes "union_of")

-- all clauses of the group of this one stand for its expression
abbrev pub IsAlone : List Operand → Operand → Type 0
IsAlone operands one =
    (other : Operand) → Contains operands other → other.group ≡ one.group → other.expression ≡ one.expression

-- a fault of the frames of these lines: a frame without an id, at its frame line, or a clause of a short group, at its line
pub data FrameFails (tolds : List Told) : DocFault → Type 0 where
  no_id : (frame : Frame) → Contains (frames_of tolds) frame → first_id frame.entries ≡ None → FrameFails tolds (fault.NoId frame.line)
  short_group : (tag : List ℕ) (one : Operand) → IsGroupTag tag → Contains (operands_in tag (space_of (map unlined (placed_of tolds))) (placed_of tolds)) one → IsAlone (operands_in tag (space_of (map unlined (placed_of tolds))) (placed_of tolds)) one → FrameFails tolds (fault.ShortGroup one.line)

-- the line that a fault names
abbrev pub line_of : DocFault → ℕ
line_of (fault.NotUtf8 line) = line
line_of (fault.LineTooLong line) = line
line_of (fault.Syntax line kind) = line
line_of (fault.NoId line) = line
line_of (fault.ShortGroup line) = line
line_of fault.NoMemory = 0

-- of all faults of the frames the one whose line is least
pub record IsLeastFault (tolds : List Told) (one : DocFault) : Type 0 where
  pub fails : FrameFails tolds one
  pub least : (other : DocFault) → FrameFails tolds other → line_of one ≤ line_of other

-- the first fault is the least of all, and without one there is none
pub record FirstIsLeast (tolds : List Told) : Type 0 where
  pub some : (one : DocFault) → first_fault tolds ≡ Some one → IsLeastFault tolds one
  pub none : first_fault tolds ≡ None → (one : DocFault) → ¬ FrameFails tolds one

abbrev pub FirstFaultIsLeast : Type 0
FirstFaultIsLeast = (tolds : List Told) → FirstIsLeast tolds

-- ---- clauses as a set

-- of all names that the header gives, normalised, the ontology has the least by bytes; without one it has none
pub record IsLeastName (names : List (List ℕ)) (name : Option (List ℕ)) : Type 0 where
  pub none : (name ≡ None) ↔ (names ≡ [])
  pub among : (least : List ℕ) → name ≡ Some least → In least names
  pub least : (one other : List ℕ) → name ≡ Some one → In other names → ¬ (text_cmp other one ≡ Less)

abbrev pub NameIsLeast : Type 0
NameIsLeast = (framed : List Framed) → IsLeastName (names_in framed) (name_of framed)

-- what is asked of documents, and what their name is, goes by the clauses alone
pub record GoesByClauses (some others : List Placed) : Type 0 where
  pub name : name_of (map unlined some) ≡ name_of (map unlined others)
  pub groups : HasNoShortGroup some → HasNoShortGroup others
  pub sound : IsSound some → IsSound others

abbrev pub SameClausesSayTheSame : Type 0
SameClausesSayTheSame = (some others : List Placed) → SameClauses some others → GoesByClauses some others

-- ---- documents and faults

-- a file is a document, or has a first fault
abbrev pub IsDocumentOrFault : ℕ → List ℕ → Type 0
IsDocumentOrFault limit bytes =
    ((placed : List Placed) × IsDocument limit bytes placed) ⊎ ((one : DocFault) × IsFirstFault limit bytes one)

-- and never both
abbrev pub IsNeverBoth : ℕ → List ℕ → Type 0
IsNeverBoth limit bytes =
    (placed : List Placed) (one : DocFault) → IsDocument limit bytes placed → ¬ IsFirstFault limit bytes one

-- it is one document at most, and has one first fault at most
abbrev pub IsOneDocument : ℕ → List ℕ → Type 0
IsOneDocument limit bytes =
    (one other : List Placed) → IsDocument limit bytes one → IsDocument limit bytes other → one ≡ other

abbrev pub HasOneFault : ℕ → List ℕ → Type 0
HasOneFault limit bytes =
    (one other : DocFault) → IsFirstFault limit bytes one → IsFirstFault limit bytes other → one ≡ other

-- ---- pieces

-- feeding a piece and then another is feeding both together
abbrev pub PiecesJoin : Type 0
PiecesJoin = (f : Feeder) (x y : List ℕ) → after_piece (after_piece f x) y ≡ after_piece f (x ++ y)

-- a feeder to which these bytes were fed, in some pieces
pub data Run (limit : ℕ) : List ℕ → Feeder → Type 0 where
  starting : Run limit [] (fresh limit)
  feeding : (bytes : List ℕ) (f : Feeder) (piece : List ℕ) → Run limit bytes f → Run limit (bytes ++ piece) (after_piece f piece)

-- however the bytes were cut: the feeder is as if they had been fed at once, and at the end it comes to what the file is
pub record RunReadsFile (limit : ℕ) (bytes : List ℕ) (f : Feeder) : Type 0 where
  pub fed : IsFed limit bytes f
  pub comes : finished f ≡ document_of limit bytes

abbrev pub RunsReadFiles : Type 0
RunsReadFiles = (limit : ℕ) (bytes : List ℕ) (f : Feeder) → Run limit bytes f → RunReadsFile limit bytes f
