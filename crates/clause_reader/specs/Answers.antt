-- The answers to a line. (Own.)
use Rattle.std.specs.Prelude.{◌≡◌, ◌⊎◌, ℕ, Bool, List, Result, Ok, Err}
use Rattle.obo_tags.specs.declared.kind.FrameKind.{FrameKind}
use Rattle.obo_clause.specs.Faults.{Fails}
use Rattle.obo_clause.specs.Spelling.{Says}
use Rattle.obo_clause.specs.declared.line.Line.{Line}
use Rattle.obo_clause.specs.declared.line.LineFault.{LineFault}
use Rattle.obo_clause.specs.declared.line.LineFault.TheVariants as fault
use Rattle.obo_clause.specs.declared.line.SyntaxKind.{SyntaxKind}

-- this is the answer, but for want of memory
abbrev pub IsUnlessNoMemory : Result Line LineFault → Result Line LineFault → Type 0
IsUnlessNoMemory answer result = (result ≡ answer) ⊎ (result ≡ Err fault.NoMemory)

-- what the line says is answered
abbrev pub AnswersWhatIsSaid : FrameKind → Bool → List ℕ → Result Line LineFault → Type 0
AnswersWhatIsSaid kind first line result =
    (said : Line) → Says kind first line said → IsUnlessNoMemory (Ok said) result

-- what is wrong with the line is answered
abbrev pub AnswersWhatFails : FrameKind → Bool → List ℕ → Result Line LineFault → Type 0
AnswersWhatFails kind first line result =
    (one : SyntaxKind) → Fails kind first line one → IsUnlessNoMemory (Err (fault.Syntax one)) result

-- the fault is one of the line, or want of memory
abbrev pub IsFaultOfLine : FrameKind → Bool → List ℕ → LineFault → Type 0
IsFaultOfLine kind first line (fault.Syntax one) = Fails kind first line one
IsFaultOfLine kind first line fault.NoMemory = Unit {0}
