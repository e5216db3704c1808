-- What printing amounts to. (Own.)
use Rattle.std.specs.Prelude.{◌≡◌, ◌↔◌, ◌++◌, ℕ, Bool, List}
use Rattle.rel_io.specs.Texts.{IsText}
use Rattle.obo_tags.specs.declared.kind.FrameKind.{FrameKind}
use Rattle.obo_tags.specs.declared.kind.ValueShape.TheVariants as shapes
use Rattle.obo_clause.specs.declared.clause.Clause.{Clause}
use Rattle.obo_clause.specs.declared.line.Line.TheVariants as says
use Rattle.obo_clause.specs.Fits.{Fits}
use Rattle.obo_clause.specs.Spelled.{IsLine, IsSpelledAs}
use Rattle.obo_clause.specs.Spelling.{Says, Spells, shape_at}
use Rattle.clause_printer.specs.Printing.{clause_text, comment_text}

-- a line, and a clause that it spells
pub record IsLineOf (kind : FrameKind) (first : Bool) (line : List ℕ) (clause : Clause) : Type 0 where
  pub is_line : IsLine line
  pub spells : Spells kind first line clause
  pub says : Says kind first line (says.Content clause)

-- what the printed line spells is the clause, wherever some line spells it
abbrev pub SpellsAgain : Clause → Type 0
SpellsAgain clause =
    (kind : FrameKind) (first : Bool) → IsSpelledAs kind first clause → IsLineOf kind first (clause_text clause) clause

-- a line is appended to a text, and what it spells is the clause, wherever some line spells it
pub record AppendsLine (clause : Clause) (before after : List ℕ) : Type 0 where
  pub line : List ℕ
  pub appended : after ≡ before ++ line
  pub spells : (kind : FrameKind) (first : Bool) → IsSpelledAs kind first clause → IsLineOf kind first line clause

-- the clauses that lines spell are those whose parts are as they have to be
abbrev pub SpelledIfFit : Clause → Type 0
SpelledIfFit clause = (kind : FrameKind) (first : Bool) → IsSpelledAs kind first clause ↔ Fits kind first clause

-- so does the printed line with a name in a comment behind it, where the tag is not foreign
abbrev pub SpellsCommented : Clause → Type 0
SpellsCommented clause =
    (kind : FrameKind) (first : Bool) (name : List ℕ) → IsSpelledAs kind first clause → ¬ (shape_at kind first clause.tag ≡ shapes.Raw) → IsText name → IsLineOf kind first (clause_text clause ++ comment_text name) clause

-- two clauses that are printed as one line, in one place, are one
abbrev pub PrintedApart : Clause → Type 0
PrintedApart clause =
    (kind : FrameKind) (first : Bool) (other : Clause) → IsSpelledAs kind first clause → IsSpelledAs kind first other → clause_text clause ≡ clause_text other → clause ≡ other
