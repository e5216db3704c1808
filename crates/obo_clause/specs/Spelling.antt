-- What a line says. This is the grammar that users meet: each shape of value with a line that has it, and then whole
-- lines. (OBO Flat File Format 1.4, the tags of each frame; the shapes of the values are our own.)
use Rattle.std.specs.Prelude.{◌≡◌, ◌<◌, ◌&&◌, ℕ, Bool, false, true, not, if◌then◌else◌, List, [], ◌∷◌, ◌++◌, Option, None, Some, codes, length, unwrap_or}
use Rattle.std.specs.List.{AllPass}
use Rattle.std.specs.Str.{bytes_eq}
use Rattle.obo_lexer.specs.Tokens.{is_blank}
use Rattle.obo_tags.specs.Table.{shape_in}
use Rattle.obo_tags.specs.declared.kind.FrameKind.{FrameKind}
use Rattle.obo_tags.specs.declared.kind.FrameKind.TheVariants as kind
use Rattle.obo_tags.specs.declared.kind.ValueShape.{ValueShape}
use Rattle.obo_tags.specs.declared.kind.ValueShape.TheVariants as shapes
use Rattle.obo_clause.specs.declared.clause.Clause.{Clause}
use Rattle.obo_clause.specs.declared.clause.Qualifier.{Qualifier}
use Rattle.obo_clause.specs.declared.clause.Scope.{Scope}
use Rattle.obo_clause.specs.declared.clause.Scope.TheVariants as scope
use Rattle.obo_clause.specs.declared.clause.Value.{Value}
use Rattle.obo_clause.specs.declared.clause.Value.TheVariants as value
use Rattle.obo_clause.specs.declared.clause.Xref.{Xref}
use Rattle.obo_clause.specs.declared.line.Line.{Line}
use Rattle.obo_clause.specs.declared.line.Line.TheVariants as says
use Rattle.obo_clause.specs.Grammar.{AreBlanks, AreTrimmed, IsEnding, IsFree, IsLabel, IsQuoted, IsTrimmed, IsWord, IsXrefList}
use Rattle.obo_clause.specs.Marks.{MarkedByte, marks_of, read_as}
use Rattle.obo_clause.specs.Vocabulary.{is_quoted_mark, is_tag_byte}

-- the word for a scope
abbrev pub scope_word : Scope → List ℕ
scope_word scope.Exact = codes "EXACT"
scope_word scope.Broad = codes "BROAD"
scope_word scope.Narrow = codes "NARROW"
scope_word scope.Related = codes "RELATED"

-- the word for a truth value
abbrev pub bool_word : Bool → List ℕ
bool_word true = codes "true"
bool_word false = codes "false"

-- the word is that of no scope
abbrev pub IsNoScope : List ℕ → Type 0
IsNoScope word = (one : Scope) → ¬ (word ≡ scope_word one)

-- the datatype of a text that has none
abbrev pub text_datatype : List ℕ
text_datatype = codes "xsd:string"

-- a run of characters with no ending inside and no outer blank; `behind` is what stands behind it in the line
pub record IsRun (behind marks : List MarkedByte) (text : List ℕ) : Type 0 where
  pub free : IsFree marks behind
  pub trimmed : AreTrimmed marks
  pub read : read_as marks ≡ text

-- nothing, or blanks and a word
pub data IsMoreWord : List MarkedByte → Option (List ℕ) → Type 0 where
  nothing : IsMoreWord [] None
  word : (blanks marks : List MarkedByte) (word : List ℕ) → AreBlanks blanks → IsWord marks word → IsMoreWord (blanks ++ marks) (Some word)

-- nothing, or blanks and an xref list
pub data IsMoreList : List MarkedByte → List Xref → Type 0 where
  nothing : IsMoreList [] []
  list : (blanks marks : List MarkedByte) (xrefs : List Xref) → AreBlanks blanks → IsXrefList marks xrefs → IsMoreList (blanks ++ marks) xrefs

-- nothing, or blanks and a second word, as every second word has them before it
pub data IsSecondWord : List MarkedByte → Option (List ℕ) → Type 0 where
  nothing : IsSecondWord [] None
  word : (blanks marks : List MarkedByte) (word : List ℕ) → 0 < length blanks → AreBlanks blanks → IsWord marks word → IsSecondWord (blanks ++ marks) (Some word)

-- what stands between the text of a synonym and its xref list: a scope and a type. A first word that is no scope is the
-- type, and the scope is then RELATED
pub data IsScoped : List MarkedByte → Scope → Option (List ℕ) → Type 0 where
  nothing : IsScoped [] scope.Related None
  scoped : (blanks marks more : List MarkedByte) (one : Scope) (type : Option (List ℕ)) → AreBlanks blanks → IsWord marks (scope_word one) → IsSecondWord more type → IsScoped (blanks ++ marks ++ more) one type
  typed : (blanks marks : List MarkedByte) (word : List ℕ) → AreBlanks blanks → IsWord marks word → IsNoScope word → IsScoped (blanks ++ marks) scope.Related (Some word)

-- the scope of a synonym type, or nothing
pub data IsTypeScope : List MarkedByte → Option Scope → Type 0 where
  nothing : IsTypeScope [] None
  scoped : (blanks marks : List MarkedByte) (one : Scope) → AreBlanks blanks → IsWord marks (scope_word one) → IsTypeScope (blanks ++ marks) (Some one)

-- the marks are this value, in the shape of its tag; `behind` is what stands behind them in the line
pub data IsValue (behind : List MarkedByte) : ValueShape → List MarkedByte → Value → Type 0 where
  -- name: a wheel
  text : (marks : List MarkedByte) (text : List ℕ) → IsRun behind marks text → IsValue behind shapes.Text marks (value.Text text)
  -- is_a: EX:0000001
  id : (marks : List MarkedByte) (word : List ℕ) → IsWord marks word → IsValue behind shapes.Id marks (value.Id word)
  -- relationship: part_of EX:0000001
  pair : (marks blanks others : List MarkedByte) (first second : List ℕ) → IsWord marks first → 0 < length blanks → AreBlanks blanks → IsWord others second → IsValue behind shapes.Pair (marks ++ blanks ++ others) (value.Pair first second)
  -- intersection_of: EX:0000001
  class : (marks : List MarkedByte) (word : List ℕ) → IsWord marks word → IsValue behind shapes.IdOrPair marks (value.Id word)
  -- intersection_of: part_of EX:0000001
  restriction : (marks blanks others : List MarkedByte) (first second : List ℕ) → IsWord marks first → 0 < length blanks → AreBlanks blanks → IsWord others second → IsValue behind shapes.IdOrPair (marks ++ blanks ++ others) (value.Pair first second)
  -- is_obsolete: true
  truth : (marks : List MarkedByte) (truth : Bool) → IsWord marks (bool_word truth) → IsValue behind shapes.Bool marks (value.Bool truth)
  -- def: "A round thing." [PMID:1 "a paper", EX:2]
  definition : (marks more : List MarkedByte) (text : List ℕ) (xrefs : List Xref) → IsQuoted marks text → IsMoreList more xrefs → IsValue behind shapes.Def (marks ++ more) (value.Def text xrefs)
  -- synonym: "round thing" BROAD layperson [PMID:1]
  synonym : (marks scopes more : List MarkedByte) (text : List ℕ) (one : Scope) (type : Option (List ℕ)) (xrefs : List Xref) → IsQuoted marks text → IsScoped scopes one type → IsMoreList more xrefs → IsValue behind shapes.Synonym (marks ++ scopes ++ more) (value.Synonym text one type xrefs)
  -- xref: PMID:1 "a paper"
  xref : (marks blanks more : List MarkedByte) (xref : Xref) → 0 < length marks → AllPass is_quoted_mark marks → IsRun (blanks ++ more ++ behind) marks xref.id → AreBlanks blanks → IsLabel more xref.label → IsValue behind shapes.XrefShape (marks ++ blanks ++ more) (value.XrefValue xref)
  -- property_value: IAO:0000117 "J. Doe" xsd:string
  literal : (marks blanks texts more : List MarkedByte) (relation text : List ℕ) (datatype : Option (List ℕ)) → IsWord marks relation → AreBlanks blanks → IsQuoted texts text → IsMoreWord more datatype → IsValue behind shapes.Property (marks ++ blanks ++ texts ++ more) (value.Literal relation text (unwrap_or datatype text_datatype))
  -- property_value: IAO:0000117 EX:0000001
  link : (marks blanks others : List MarkedByte) (relation target : List ℕ) → IsWord marks relation → 0 < length blanks → AreBlanks blanks → IsWord others target → IsValue behind shapes.Property (marks ++ blanks ++ others) (value.Link relation target)
  -- subsetdef: slim "A small part"
  subset : (marks blanks texts : List MarkedByte) (id text : List ℕ) → IsWord marks id → AreBlanks blanks → IsQuoted texts text → IsValue behind shapes.SubsetDef (marks ++ blanks ++ texts) (value.SubsetDef id text)
  -- synonymtypedef: layperson "A plain word" BROAD
  synonym_type : (marks blanks texts more : List MarkedByte) (id text : List ℕ) (one : Option Scope) → IsWord marks id → AreBlanks blanks → IsQuoted texts text → IsTypeScope more one → IsValue behind shapes.SynonymDef (marks ++ blanks ++ texts ++ more) (value.SynonymDef id text one)

-- what stands behind the colon: of a foreign tag any text without outer blanks; else a value, blanks and an ending
pub data IsQualifiedValue : ValueShape → List ℕ → Value → List Qualifier → Type 0 where
  raw : (before text behind : List ℕ) → AllPass is_blank before → IsTrimmed ℕ is_blank text → AllPass is_blank behind → IsQualifiedValue shapes.Raw (before ++ text ++ behind) (value.Raw text) []
  shaped : (shape : ValueShape) (bytes : List ℕ) (before marks between ending : List MarkedByte) (one : Value) (qualifiers : List Qualifier) → marks_of bytes ≡ before ++ marks ++ between ++ ending → AreBlanks before → IsValue (between ++ ending) shape marks one → AreBlanks between → IsEnding ending qualifiers → IsQualifiedValue shape bytes one qualifiers

-- blanks, a tag, blanks, a colon and these bytes
pub record IsTagged (line tag rest : List ℕ) : Type 0 where
  pub before : List ℕ
  pub between : List ℕ
  pub whole : line ≡ before ++ tag ++ between ++ 58 ∷ rest
  pub blank_before : AllPass is_blank before
  pub some : 0 < length tag
  pub each : AllPass is_tag_byte tag
  pub blank_between : AllPass is_blank between

-- the shape of the value behind a tag: an `id` that is not the first clause of its frame is foreign, as is a tag that the
-- frame kind does not have
abbrev pub shape_at : FrameKind → Bool → List ℕ → ValueShape
shape_at kind first tag =
    if bytes_eq tag (codes "id") && not first then shapes.Raw else shape_in kind tag

-- the line spells the clause, in a frame of the kind; `first` says that the frame has no clause before it
pub record Spells (kind : FrameKind) (first : Bool) (line : List ℕ) (clause : Clause) : Type 0 where
  pub rest : List ℕ
  pub tagged : IsTagged line clause.tag rest
  pub valued : IsQualifiedValue (shape_at kind first clause.tag) rest clause.value clause.qualifiers

-- nothing, or a comment
pub data IsLineComment : List ℕ → Type 0 where
  nothing : IsLineComment []
  comment : (rest : List ℕ) → IsLineComment (33 ∷ rest)

-- blanks alone, or blanks and a comment
pub record IsBlankLine (line : List ℕ) : Type 0 where
  pub blanks : List ℕ
  pub comment : List ℕ
  pub whole : line ≡ blanks ++ comment
  pub blank : AllPass is_blank blanks
  pub commented : IsLineComment comment

-- the name of a frame kind that a frame line has
pub data IsKindName : FrameKind → List ℕ → Type 0 where
  term : IsKindName kind.Term (codes "Term")
  typedef : IsKindName kind.Typedef (codes "Typedef")
  instance : IsKindName kind.Instance (codes "Instance")

-- a line that begins a frame of the kind, as  [Term] ! a comment
pub record IsFrameLine (kind : FrameKind) (line : List ℕ) : Type 0 where
  pub before : List ℕ
  pub name : List ℕ
  pub behind : List ℕ
  pub comment : List ℕ
  pub whole : line ≡ before ++ 91 ∷ (name ++ 93 ∷ (behind ++ comment))
  pub blank_before : AllPass is_blank before
  pub named : IsKindName kind name
  pub blank_behind : AllPass is_blank behind
  pub commented : IsLineComment comment

-- the line says this
pub data Says (kind : FrameKind) (first : Bool) (line : List ℕ) : Line → Type 0 where
  blank : IsBlankLine line → Says kind first line says.Blank
  frame : (begun : FrameKind) → IsFrameLine begun line → Says kind first line (says.Frame begun)
  content : (clause : Clause) → Spells kind first line clause → Says kind first line (says.Content clause)
