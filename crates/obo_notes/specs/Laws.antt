-- What the mapping of notes amounts to. (Own.)
use Rattle.std.specs.Prelude.{◌≡◌, ℕ, List, [], Some, false}
use Rattle.std.specs.List.{All}
use Rattle.std.specs.Option.{IsSome}
use Rattle.obo_tags.specs.declared.kind.FrameKind.{FrameKind}
use Rattle.obo_clause.specs.declared.clause.Clause.{Clause}
use Rattle.obo_clause.specs.declared.clause.Value.{Value}
use Rattle.obo_clause.specs.declared.clause.Value.TheVariants as value
use Rattle.obo_clause.specs.declared.clause.Xref.{Xref}
use Rattle.clause_printer.specs.Printing.{qualifier_text, xref_text}
use Rattle.owl_axioms.specs.Text.{side_text}
use Rattle.text_sets.specs.Sorted.{Rises}
use Rattle.obo_notes.specs.Context.{Reading, Writing, reading_in, writing_in}
use Rattle.obo_clause.specs.declared.clause.Qualifier.{Qualifier}
use Rattle.obo_clause.specs.Fits.{Fits}
use Rattle.obo_notes.specs.Keys.{is_reserved_key}
use Rattle.obo_notes.specs.declared.note.Note.{Note}
use Rattle.obo_notes.specs.Notes.{meaning, spelling}

-- the clause of a note says the note
abbrev pub NoteReadsBack : Reading → Writing → FrameKind → Note → Type 0
NoteReadsBack reading writing kind note =
    (clause : Clause) → Rises side_text note.sides → spelling writing kind note ≡ Some clause → meaning reading clause ≡ Some note

-- the same in an ontology of a name, or of the one in its place
abbrev pub NoteReadsBackIn : List ℕ → Type 0
NoteReadsBackIn space = (kind : FrameKind) (note : Note) → NoteReadsBack (reading_in space) (writing_in space) kind note

-- no qualifier has a key with a meaning of its own
abbrev pub HasNoReservedKey : Clause → Type 0
HasNoReservedKey clause = All (λ (qualifier : Qualifier). is_reserved_key qualifier.key ≡ false) clause.qualifiers

-- the note of a clause that some line spells has a clause
abbrev pub NoteHasClause : Reading → Writing → FrameKind → Clause → Type 0
NoteHasClause reading writing kind clause =
    (note : Note) → Fits kind false clause → HasNoReservedKey clause → meaning reading clause ≡ Some note → IsSome (spelling writing kind note)

abbrev pub NoteHasClauseIn : List ℕ → Type 0
NoteHasClauseIn space = (kind : FrameKind) (clause : Clause) → NoteHasClause (reading_in space) (writing_in space) kind clause

-- the clause of a note is one that some line spells in a frame of the kind
abbrev pub NoteFitsIn : List ℕ → Type 0
NoteFitsIn space = (kind : FrameKind) (note : Note) (clause : Clause) → spelling (writing_in space) kind note ≡ Some clause → Fits kind false clause

-- the xref list of a value
unfoldable pub xrefs_in : Value → List Xref
xrefs_in (value.Def text xrefs) = xrefs
xrefs_in (value.Synonym text scope type xrefs) = xrefs
xrefs_in _ = []

-- entries of xref lists and qualifiers stand in the order of what is printed of them, each once
pub record IsInPrintedOrder (clause : Clause) : Type 0 where
  pub xrefs : Rises xref_text (xrefs_in clause.value)
  pub qualifiers : Rises qualifier_text clause.qualifiers

-- the clause of a note has its lists in printed order
abbrev pub NoteIsInOrderIn : List ℕ → Type 0
NoteIsInOrderIn space = (kind : FrameKind) (note : Note) (clause : Clause) → spelling (writing_in space) kind note ≡ Some clause → IsInPrintedOrder clause
