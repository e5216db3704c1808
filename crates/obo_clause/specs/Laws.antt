-- What the definitions of lines amount to: each line says one thing, or one thing is wrong with it. (Own.)
use Rattle.std.specs.Prelude.{◌≡◌, ◌⊎◌, ◌↔◌, ℕ, Bool, IsTrue, List}
use Rattle.obo_tags.specs.declared.kind.FrameKind.{FrameKind}
use Rattle.obo_tags.specs.declared.kind.ValueShape.TheVariants.{Raw}
use Rattle.obo_clause.specs.declared.clause.Clause.{Clause}
use Rattle.obo_clause.specs.declared.line.Line.{Line}
use Rattle.obo_clause.specs.declared.line.SyntaxKind.{SyntaxKind}
use Rattle.obo_clause.specs.Faults.{Fails}
use Rattle.obo_clause.specs.Foreign.{is_foreign}
use Rattle.obo_clause.specs.Spelled.{IsSpelledAs}
use Rattle.obo_clause.specs.Spelling.{Says, Spells, shape_at}

-- a line says at most one thing
abbrev pub SaysOneThing : FrameKind → Bool → List ℕ → Type 0
SaysOneThing kind first line = (one other : Line) → Says kind first line one → Says kind first line other → one ≡ other

-- a line spells at most one clause
abbrev pub SpellsOneClause : FrameKind → Bool → List ℕ → Type 0
SpellsOneClause kind first line =
    (one other : Clause) → Spells kind first line one → Spells kind first line other → one ≡ other

-- at most one thing is wrong with a line
abbrev pub FailsOneWay : FrameKind → Bool → List ℕ → Type 0
FailsOneWay kind first line =
    (one other : SyntaxKind) → Fails kind first line one → Fails kind first line other → one ≡ other

-- nothing is wrong with a line that says something
abbrev pub NeverSaysAndFails : FrameKind → Bool → List ℕ → Type 0
NeverSaysAndFails kind first line = (said : Line) (one : SyntaxKind) → Says kind first line said → ¬ Fails kind first line one

-- a line says something, or something is wrong with it
abbrev pub HasAnswer : FrameKind → Bool → List ℕ → Type 0
HasAnswer kind first line =
    ((said : Line) × Says kind first line said) ⊎ ((one : SyntaxKind) × Fails kind first line one)

-- a clause that a line spells is foreign exactly where its tag has no shape of its own there
abbrev pub ForeignIfRaw : Clause → Type 0
ForeignIfRaw clause =
    (kind : FrameKind) (first : Bool) → IsSpelledAs kind first clause → (IsTrue (is_foreign clause) ↔ (shape_at kind first clause.tag ≡ Raw))
