-- The clauses that lines spell: what a document may hold, and what can be printed. (Own.)
use Rattle.std.specs.Prelude.{◌≡◌, ℕ, Bool, false, List}
use Rattle.std.specs.List.{list_any}
use Rattle.std.specs.Str.{IsUtf8}
use Rattle.rel_io.specs.Texts.{is_line_feed, is_return}
use Rattle.obo_tags.specs.declared.kind.FrameKind.{FrameKind}
use Rattle.obo_clause.specs.declared.clause.Clause.{Clause}
use Rattle.obo_clause.specs.Spelling.{Spells}

-- what the text of a line is: UTF-8, without LF and CR
pub record IsLine (line : List ℕ) : Type 0 where
  pub utf8 : IsUtf8 line
  pub no_line_feed : list_any is_line_feed line ≡ false
  pub no_return : list_any is_return line ≡ false

-- some line spells the clause, in a frame of this kind, as its first clause or a later one
pub record IsSpelledAs (kind : FrameKind) (first : Bool) (clause : Clause) : Type 0 where
  pub line : List ℕ
  pub is_line : IsLine line
  pub spells : Spells kind first line clause

-- some line spells the clause in a frame of this kind
pub record IsSpelledIn (kind : FrameKind) (clause : Clause) : Type 0 where
  pub first : Bool
  pub spelled : IsSpelledAs kind first clause

-- some line spells the clause
pub record IsSpelled (clause : Clause) : Type 0 where
  pub kind : FrameKind
  pub spelled : IsSpelledIn kind clause

-- the same as a mere fact: which line spells the clause, and how, is not remembered
abbrev pub CanBeSpelled : Clause → Type 0
CanBeSpelled clause = ∥ IsSpelled clause ∥₁
