-- What the rows of the program's table say. (Own.)
use Rattle.std.specs.Prelude.{◌≡◌, ℕ, Bool, List, Option, None, Some, if◌then◌else◌}
use Rattle.std.specs.Borrow.{Bor}
use Rattle.std.specs.Option.{option_and_then}
use Rattle.std.specs.Str.{bytes_eq}
use Rattle.obo_tags.specs.declared.kind.FrameKind.{FrameKind}
use Rattle.obo_tags.specs.declared.kind.FrameKind.TheVariants as kinds
use Rattle.obo_clause.specs.declared.clause.Clause.{Clause}
use Rattle.text_sets.specs.Parts.{first_some}
use Rattle.obo_notes.specs.Context.{Writing}
use Rattle.obo_notes.specs.Forms as spec
use Rattle.obo_notes.specs.Notes.{clause_with, form_of, spelling}
use Rattle.obo_notes.specs.declared.forms.Form.{Form}
use Rattle.obo_notes.specs.declared.forms.Form.TheVariants as forms
use Rattle.obo_notes.specs.declared.note.Note.{Note}

-- a row, as contracts see it: a tag, its form, and in which kinds of frame it stands
abbrev pub Row : Type 0
Row = Bor (List ℕ) × Form × Bool × Bool × Bool × Bool

-- the form that the program's stands for
abbrev pub meant : Form → spec.Form
meant (forms.Text property) = spec.Form.TextForm property.now
meant (forms.Word property) = spec.Form.WordForm property.now
meant (forms.Link property) = spec.Form.LinkForm property.now
meant (forms.Truth property) = spec.Form.TruthForm property.now
meant forms.Definition = spec.Form.DefinitionForm
meant forms.Synonym = spec.Form.SynonymForm
meant forms.Xref = spec.Form.XrefForm
meant forms.Property = spec.Form.ValueForm
meant forms.Subset = spec.Form.SubsetForm
meant forms.SynonymType = spec.Form.TypeForm

-- the tag of the row stands in frames of the kind
abbrev pub stands : FrameKind → Row → Bool
stands kinds.Header row = row.2
stands kinds.Term row = row.3
stands kinds.Typedef row = row.4
stands kinds.Instance row = row.5

-- the form of the row, if it is of the tag
abbrev pub form_in : List ℕ → Row → Option spec.Form
form_in tag row = if bytes_eq row.0.now tag then Some (meant row.1) else None

-- the clause of the row's tag that says a note, if there is one in frames of the kind
abbrev pub clause_in : Writing → FrameKind → Note → Row → Option Clause
clause_in writing kind note row =
    if stands kind row then option_and_then (clause_with row.0.now) (spec.spelled_as writing (meant row.1) note) else None

-- the rows give each tag its form
abbrev pub FormsAre : List Row → Type 0
FormsAre rows = (tag : List ℕ) → first_some (form_in tag) rows ≡ form_of tag

-- it holds of all kinds of frame
abbrev pub OfAllKinds : (FrameKind → Type 0) → Type 0
OfAllKinds P = P kinds.Header × P kinds.Term × P kinds.Typedef × P kinds.Instance

-- the first row that gives a clause gives the one that spells the note
abbrev pub ClausesAre : List Row → Type 0
ClausesAre rows =
    (writing : Writing) (note : Note) → OfAllKinds (λ kind. first_some (clause_in writing kind note) rows ≡ spelling writing kind note)
