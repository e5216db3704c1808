-- What the lines of a file say, one after the other: each in the frame in which it stands, and behind the clauses that
-- stand before it there. (Own.)
use Rattle.std.specs.Prelude.{◌≡◌, ◌⊎◌, ℕ, true, false, List, [], ◌∷◌}
use Rattle.obo_tags.specs.declared.kind.FrameKind.TheVariants as kinds
use Rattle.obo_lexer.specs.declared.line.LineBody.{LineBody}
use Rattle.obo_lexer.specs.declared.line.LineBody.TheVariants as body
use Rattle.obo_lexer.specs.declared.line.LineItem.{LineItem}
use Rattle.obo_clause.specs.Faults.{Fails}
use Rattle.obo_clause.specs.Spelling.{Says}
use Rattle.obo_clause.specs.declared.line.Line.{Line}
use Rattle.obo_clause.specs.declared.line.Line.TheVariants as says
use Rattle.obo_clause.specs.declared.line.SyntaxKind.{SyntaxKind}
use Rattle.obo_frames.specs.declared.fault.DocFault.{DocFault}
use Rattle.obo_frames.specs.declared.fault.DocFault.TheVariants as fault
use Rattle.obo_frames.specs.declared.told.Place.{Place}
use Rattle.obo_frames.specs.declared.told.Told.{Told}

-- where the first line of a file stands: in the header, before all clauses
abbrev pub start : Place
start = record { kind = kinds.Header; is_first = true }

-- where a line stands behind one that says this
abbrev pub place_after : Place → Line → Place
place_after place says.Blank = place
place_after place (says.Frame begun) = record { kind = begun; is_first = true }
place_after place (says.Content clause) = record { kind = place.kind; is_first = false }

-- a line with this body says this where it stands
abbrev pub BodySays : Place → LineBody → Line → Type 0
BodySays place (body.Text text) said = Says place.kind place.is_first text said
BodySays place body.NotUtf8 said = ⊥
BodySays place body.TooLong said = ⊥

-- the line says what is told of it
pub record IsTold (place : Place) (item : LineItem) (told : Told) : Type 0 where
  pub line : told.line ≡ item.number
  pub says : BodySays place item.body told.said

-- the lines say what is told of them, each where it stands
abbrev pub Tells : Place → List LineItem → List Told → Type 0
Tells place [] [] = Unit {0}
Tells place [] (told ∷ tolds) = ⊥
Tells place (item ∷ items) [] = ⊥
Tells place (item ∷ items) (told ∷ tolds) =
    IsTold place item told × Tells (place_after place told.said) items tolds

-- this is wrong with a line of this number and body, where it stands
pub data BodyFails (place : Place) (number : ℕ) : LineBody → DocFault → Type 0 where
  not_utf8 : BodyFails place number body.NotUtf8 (fault.NotUtf8 number)
  too_long : BodyFails place number body.TooLong (fault.LineTooLong number)
  syntax : (text : List ℕ) (kind : SyntaxKind) → Fails place.kind place.is_first text kind → BodyFails place number (body.Text text) (fault.Syntax number kind)

-- this is wrong with the first faulty line: each line before it says something
abbrev pub FailsFirst : Place → List LineItem → DocFault → Type 0
FailsFirst place [] one = ⊥
FailsFirst place (item ∷ items) one =
    BodyFails place item.number item.body one ⊎ ((said : Line) × BodySays place item.body said × FailsFirst (place_after place said) items one)
