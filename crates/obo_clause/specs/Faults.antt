-- What is wrong with a line: the first part, from left to right, that is not there. Each word below says what is wanted at
-- a place in the line, and what is wrong from there on: the part is missing or broken, or it is there and something is wrong
-- behind it. (Own; the names of the faults are those of `SyntaxKind`.)
use Rattle.std.specs.Prelude.{◌≡◌, ◌<◌, ◌==◌, ◌||◌, ℕ, Bool, false, IsFalse, List, [], ◌∷◌, ◌++◌, Option, None, Some, codes, length}
use Rattle.std.specs.List.{AllPass, list_any}
use Rattle.obo_lexer.specs.Tokens.{is_blank}
use Rattle.obo_tags.specs.declared.kind.FrameKind.{FrameKind}
use Rattle.obo_tags.specs.declared.kind.ValueShape.{ValueShape}
use Rattle.obo_tags.specs.declared.kind.ValueShape.TheVariants as shapes
use Rattle.obo_clause.specs.declared.clause.Qualifier.{Qualifier}
use Rattle.obo_clause.specs.declared.clause.Scope.{Scope}
use Rattle.obo_clause.specs.declared.clause.Xref.{Xref}
use Rattle.obo_clause.specs.declared.line.SyntaxKind.{SyntaxKind}
use Rattle.obo_clause.specs.declared.line.SyntaxKind.TheVariants as syntax
use Rattle.obo_clause.specs.Grammar.{AreBlanks, IsEnding, IsFree, IsQuoted, IsSlot, IsWord, IsXrefList}
use Rattle.obo_clause.specs.Marks.{MarkedByte, marks_of}
use Rattle.obo_clause.specs.Spelling.{IsFrameLine, IsNoScope, IsTagged, bool_word, scope_word, shape_at}
use Rattle.obo_clause.specs.Vocabulary.{comma, is_bare, is_entry_mark, is_one_of, is_quoted_mark, is_space, is_word_mark, list_open, quote}

-- what is wrong from some place on
abbrev pub Wrong : Type 1
Wrong = List MarkedByte → SyntaxKind → Type 0

-- nothing is left, or what comes first is none of the class
abbrev pub Stops : {A : Type 0} → (A → Bool) → List A → Type 0
Stops class [] = Unit {0}
Stops class (first ∷ rest) = IsFalse (class first)

-- what is left behind all blanks with which the marks begin
pub record IsBehindBlanks (marks rest : List MarkedByte) : Type 0 where
  pub blanks : List MarkedByte
  pub whole : marks ≡ blanks ++ rest
  pub blank : AreBlanks blanks
  pub stops : Stops is_space rest

-- what is left behind the word with which the marks begin
pub record IsBehindWord (marks : List MarkedByte) (word : List ℕ) (rest : List MarkedByte) : Type 0 where
  pub run : List MarkedByte
  pub whole : marks ≡ run ++ rest
  pub is_word : IsWord run word
  pub stops : Stops is_word_mark rest

-- blanks and then no word
pub record HasNoWord (marks : List MarkedByte) : Type 0 where
  pub rest : List MarkedByte
  pub behind : IsBehindBlanks marks rest
  pub stops : Stops is_word_mark rest

-- blanks and then a word
pub record HasWord (marks : List MarkedByte) (word : List ℕ) (rest : List MarkedByte) : Type 0 where
  pub all : List MarkedByte
  pub behind : IsBehindBlanks marks all
  pub read : IsBehindWord all word rest

-- the mark is the sign `"`, and the sign `[`
abbrev pub is_quote : MarkedByte → Bool
is_quote mark = is_bare (is_one_of (codes "\"")) mark

abbrev pub is_list_open : MarkedByte → Bool
is_list_open mark = is_bare (is_one_of (codes "[")) mark

-- the mark goes on in an xref list behind an entry, or ends the list
abbrev pub is_slot_end : MarkedByte → Bool
is_slot_end mark = is_bare (is_one_of (codes ",]")) mark

-- a word is wanted, and then what goes by the word
pub data WantsWord (next : List ℕ → Wrong) (marks : List MarkedByte) : SyntaxKind → Type 0 where
  missing : HasNoWord marks → WantsWord next marks syntax.NoValue
  later : (word : List ℕ) (rest : List MarkedByte) (kind : SyntaxKind) → HasWord marks word rest → next word rest kind → WantsWord next marks kind

-- a word may stand here, and then what goes by it
pub data MayHaveWord (next : Option (List ℕ) → Wrong) (marks : List MarkedByte) : SyntaxKind → Type 0 where
  without : (kind : SyntaxKind) → HasNoWord marks → next None marks kind → MayHaveWord next marks kind
  later : (word : List ℕ) (rest : List MarkedByte) (kind : SyntaxKind) → HasWord marks word rest → next (Some word) rest kind → MayHaveWord next marks kind

-- a quoted text is wanted
pub data WantsQuoted (next : Wrong) (marks : List MarkedByte) : SyntaxKind → Type 0 where
  missing : (rest : List MarkedByte) → IsBehindBlanks marks rest → Stops is_quote rest → WantsQuoted next marks syntax.NoQuote
  endless : (rest : List MarkedByte) → IsBehindBlanks marks (quote ∷ rest) → AllPass is_quoted_mark rest → WantsQuoted next marks syntax.OpenQuote
  later : (quoted rest : List MarkedByte) (text : List ℕ) (kind : SyntaxKind) → IsBehindBlanks marks (quoted ++ rest) → IsQuoted quoted text → next rest kind → WantsQuoted next marks kind

-- what is wrong behind the `[` of an xref list
pub data ListFails : List MarkedByte → SyntaxKind → Type 0 where
  -- a slot is as it should be, and something is wrong behind its comma
  later : (marks rest : List MarkedByte) (xrefs : List Xref) (kind : SyntaxKind) → IsSlot marks xrefs → ListFails rest kind → ListFails (marks ++ comma ∷ rest) kind
  -- the line ends in an entry or before one
  endless : (marks : List MarkedByte) → AllPass is_entry_mark marks → ListFails marks syntax.XrefList
  -- a label has no entry before it
  lone_label : (blanks rest : List MarkedByte) → AreBlanks blanks → ListFails (blanks ++ quote ∷ rest) syntax.XrefList
  -- a label has no end
  endless_label : (id rest : List MarkedByte) → AllPass is_entry_mark id → ¬ AreBlanks id → AllPass is_quoted_mark rest → ListFails (id ++ quote ∷ rest) syntax.OpenQuote
  -- something other than a comma and the list's end stands behind a label
  behind_label : (id label more rest : List MarkedByte) (text : List ℕ) → AllPass is_entry_mark id → ¬ AreBlanks id → IsQuoted label text → IsBehindBlanks more rest → Stops is_slot_end rest → ListFails (id ++ label ++ more) syntax.XrefList

-- an xref list may stand here
pub data MayHaveList (next : Wrong) (marks : List MarkedByte) : SyntaxKind → Type 0 where
  without : (rest : List MarkedByte) (kind : SyntaxKind) → IsBehindBlanks marks rest → Stops is_list_open rest → next marks kind → MayHaveList next marks kind
  broken : (rest : List MarkedByte) (kind : SyntaxKind) → IsBehindBlanks marks (list_open ∷ rest) → ListFails rest kind → MayHaveList next marks kind
  later : (list rest : List MarkedByte) (xrefs : List Xref) (kind : SyntaxKind) → IsBehindBlanks marks (list ++ rest) → IsXrefList list xrefs → next rest kind → MayHaveList next marks kind

-- the line is to end here
pub data WantsEnd (marks : List MarkedByte) : SyntaxKind → Type 0 where
  trailing : (rest : List MarkedByte) → IsBehindBlanks marks rest → ((qualifiers : List Qualifier) → ¬ IsEnding rest qualifiers) → WantsEnd marks syntax.Trailing

-- a word that is to be `true` or `false`
pub data WantsTruth (word : List ℕ) (marks : List MarkedByte) : SyntaxKind → Type 0 where
  other : ((truth : Bool) → ¬ (word ≡ bool_word truth)) → WantsTruth word marks syntax.BadBool
  later : (truth : Bool) (kind : SyntaxKind) → word ≡ bool_word truth → WantsEnd marks kind → WantsTruth word marks kind

-- a word that may be a scope, and then possibly a type; a word that is no scope is the type
pub data MayHaveScope (next : Wrong) : Option (List ℕ) → List MarkedByte → SyntaxKind → Type 0 where
  without : (marks : List MarkedByte) (kind : SyntaxKind) → next marks kind → MayHaveScope next None marks kind
  scoped : (marks : List MarkedByte) (one : Scope) (kind : SyntaxKind) → MayHaveWord (λ _. next) marks kind → MayHaveScope next (Some (scope_word one)) marks kind
  typed : (word : List ℕ) (marks : List MarkedByte) (kind : SyntaxKind) → IsNoScope word → next marks kind → MayHaveScope next (Some word) marks kind

-- a word that is to be a scope, if there is one
pub data MayBeScope : Option (List ℕ) → List MarkedByte → SyntaxKind → Type 0 where
  without : (marks : List MarkedByte) (kind : SyntaxKind) → WantsEnd marks kind → MayBeScope None marks kind
  scoped : (marks : List MarkedByte) (one : Scope) (kind : SyntaxKind) → WantsEnd marks kind → MayBeScope (Some (scope_word one)) marks kind
  other : (word : List ℕ) (marks : List MarkedByte) → IsNoScope word → MayBeScope (Some word) marks syntax.Trailing

-- a quoted text with its datatype, or a word
pub data WantsObject (marks : List MarkedByte) : SyntaxKind → Type 0 where
  text : (rest : List MarkedByte) (kind : SyntaxKind) → IsBehindBlanks marks (quote ∷ rest) → WantsQuoted (MayHaveWord (λ _. WantsEnd)) marks kind → WantsObject marks kind
  word : (rest : List MarkedByte) (kind : SyntaxKind) → IsBehindBlanks marks rest → Stops is_quote rest → WantsWord (λ _. WantsEnd) marks kind → WantsObject marks kind

-- an xref is wanted
pub data WantsXref (marks : List MarkedByte) : SyntaxKind → Type 0 where
  -- the line ends
  missing : (rest : List MarkedByte) (qualifiers : List Qualifier) → IsBehindBlanks marks rest → IsEnding rest qualifiers → WantsXref marks syntax.NoValue
  -- a label comes first
  lone_label : (rest : List MarkedByte) → IsBehindBlanks marks (quote ∷ rest) → WantsXref marks syntax.NoValue
  -- the label has no end
  endless : (id rest : List MarkedByte) → IsBehindBlanks marks (id ++ quote ∷ rest) → 0 < length id → AllPass is_quoted_mark id → IsFree id (quote ∷ rest) → AllPass is_quoted_mark rest → WantsXref marks syntax.OpenQuote
  later : (id label rest : List MarkedByte) (text : List ℕ) (kind : SyntaxKind) → IsBehindBlanks marks (id ++ label ++ rest) → 0 < length id → AllPass is_quoted_mark id → IsFree id (label ++ rest) → IsQuoted label text → WantsEnd rest kind → WantsXref marks kind

-- what is wrong with the marks behind a colon, by the shape of the value there. Of a text and of what a foreign tag has
-- nothing can be wrong
abbrev pub ValueFails : ValueShape → Wrong
ValueFails shapes.Text = λ marks kind. ⊥
ValueFails shapes.Id = WantsWord (λ _. WantsEnd)
ValueFails shapes.Pair = WantsWord (λ _. WantsWord (λ _. WantsEnd))
ValueFails shapes.IdOrPair = WantsWord (λ _. MayHaveWord (λ _. WantsEnd))
ValueFails shapes.Bool = WantsWord WantsTruth
ValueFails shapes.Def = WantsQuoted (MayHaveList WantsEnd)
ValueFails shapes.Synonym = WantsQuoted (MayHaveWord (MayHaveScope (MayHaveList WantsEnd)))
ValueFails shapes.XrefShape = WantsXref
ValueFails shapes.Property = WantsWord (λ _. WantsObject)
ValueFails shapes.SubsetDef = WantsWord (λ _. WantsQuoted WantsEnd)
ValueFails shapes.SynonymDef = WantsWord (λ _. WantsQuoted (MayHaveWord MayBeScope))
ValueFails shapes.Raw = λ marks kind. ⊥

-- the byte is `:`
abbrev pub is_colon : ℕ → Bool
is_colon byte = byte == 58

-- a line with something other than blanks and a comment in it, that does not begin as a frame line does
pub record IsClauseLine (line : List ℕ) : Type 0 where
  pub blanks : List ℕ
  pub byte : ℕ
  pub rest : List ℕ
  pub whole : line ≡ blanks ++ byte ∷ rest
  pub blank : AllPass is_blank blanks
  pub begins : IsFalse (is_blank byte || is_one_of (codes "![") byte)

-- this is wrong with the line, in a frame of the kind; `first` says that the frame has no clause before it
pub data Fails (kind : FrameKind) (first : Bool) (line : List ℕ) : SyntaxKind → Type 0 where
  -- the line begins with `[`, and is no frame line
  bad_frame : (blanks rest : List ℕ) → line ≡ blanks ++ 91 ∷ rest → AllPass is_blank blanks → ((begun : FrameKind) → ¬ IsFrameLine begun line) → Fails kind first line syntax.BadFrame
  no_colon : IsClauseLine line → list_any is_colon line ≡ false → Fails kind first line syntax.NoColon
  -- what stands before the first colon is no tag and blanks
  bad_tag : (before rest : List ℕ) → IsClauseLine line → line ≡ before ++ 58 ∷ rest → list_any is_colon before ≡ false → ((tag : List ℕ) → ¬ IsTagged line tag rest) → Fails kind first line syntax.BadTag
  bad_value : (tag rest : List ℕ) (one : SyntaxKind) → IsTagged line tag rest → ValueFails (shape_at kind first tag) (marks_of rest) one → Fails kind first line one
