-- What the meaning and the spelling of statements and groups amount to. (Own.)
use Rattle.std.specs.Prelude.{◌≡◌, ℕ, true, false, List, [], ◌∷◌, Some}
use Rattle.obo_tags.specs.declared.kind.FrameKind.{FrameKind}
use Rattle.obo_tags.specs.declared.kind.FrameKind.TheVariants.{Term}
use Rattle.clause_printer.specs.Printing.{block_text, value_text}
use Rattle.obo_clause.specs.Fits.{Fits}
use Rattle.obo_clause.specs.declared.clause.Clause.{Clause}
use Rattle.owl_axioms.specs.Proper.{is_proper_body}
use Rattle.owl_axioms.specs.Text.{side_text}
use Rattle.owl_axioms.specs.declared.body.Axiom.{Axiom}
use Rattle.text_sets.specs.Sets.{In, SameMembers}
use Rattle.text_sets.specs.Sorted.{Rises, RisesOn, texts_cmp}
use Rattle.obo_notes.specs.Context.{reading_in, writing_in}
use Rattle.obo_statements.specs.Extras.{extras_of}
use Rattle.obo_statements.specs.Statements.{statement_meaning, statement_spelling}
use Rattle.obo_statements.specs.Groups.{Group, group_meaning, group_spelling}

-- the clause of a statement states it, in an ontology of this name, or with this one in its place
abbrev pub StatementReadsBackIn : List ℕ → Type 0
StatementReadsBackIn space = (kind : FrameKind) (x : List ℕ) (one : Axiom) (clause : Clause) → is_proper_body one.body ≡ true → Rises side_text one.sides
    → statement_spelling (writing_in space) kind x one ≡ Some clause → statement_meaning (reading_in space) kind x clause ≡ Some one

-- it is one that some line spells in a frame of the kind
abbrev pub StatementFitsIn : List ℕ → Type 0
StatementFitsIn space = (kind : FrameKind) (x : List ℕ) (one : Axiom) (clause : Clause) → statement_spelling (writing_in space) kind x one ≡ Some clause → Fits kind false clause

-- the clauses of a group say its axiom, in any order
abbrev pub GroupReadsBackIn : List ℕ → Type 0
GroupReadsBackIn space = (x : List ℕ) (group : Group) (one : Axiom) (clauses others : List Clause) → is_proper_body one.body ≡ true → Rises side_text one.sides
    → group_spelling (writing_in space) x group one ≡ Some clauses → SameMembers others clauses → group_meaning (reading_in space) x group others ≡ Some one

-- each of them is one that some line spells in a Term
abbrev pub GroupFitsIn : List ℕ → Type 0
GroupFitsIn space = (x : List ℕ) (group : Group) (one : Axiom) (clauses : List Clause) (clause : Clause) → group_spelling (writing_in space) x group one ≡ Some clauses → In clause clauses → Fits Term false clause

-- what a clause of a group is ordered by: its printed value, and then the printed block of its qualifiers with a meaning of
-- their own alone
abbrev pub clause_key : Clause → List (List ℕ)
clause_key clause = value_text clause.value ∷ block_text (extras_of clause.qualifiers) ∷ []

-- the clauses of a group stand in this order, each once
abbrev pub GroupInOrderIn : List ℕ → Type 0
GroupInOrderIn space = (x : List ℕ) (group : Group) (one : Axiom) (clauses : List Clause) → group_spelling (writing_in space) x group one ≡ Some clauses → RisesOn texts_cmp clause_key clauses
