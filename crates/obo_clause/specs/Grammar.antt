-- The parts of a clause behind its tag, as marks. Each is a relation between marks and what they say; how they are found
-- is not told here. (OBO Flat File Format 1.4: dbxref lists, trailing qualifiers and comments; the profile is our own.)
use Rattle.std.specs.Prelude.{◌≡◌, ◌⊎◌, ◌<◌, ℕ, Bool, IsFalse, List, [], ◌∷◌, ◌++◌, Option, None, Some, length}
use Rattle.std.specs.List.{AllPass}
use Rattle.obo_clause.specs.declared.clause.Qualifier.{Qualifier}
use Rattle.obo_clause.specs.declared.clause.Xref.{Xref}
use Rattle.obo_clause.specs.Marks.{MarkedByte, read_as}
use Rattle.obo_clause.specs.Vocabulary.{block_close, block_open, comma, equals, exclamation, is_entry_mark, is_key_mark, is_quoted_mark, is_space, is_unquoted_mark, is_word_mark, list_close, list_open, quote}

-- any number of spaces and tabs
abbrev pub AreBlanks : List MarkedByte → Type 0
AreBlanks marks = AllPass is_space marks

-- no blank stands at either end
pub record IsTrimmed (A : Type 0) (is_blank : A → Bool) (items : List A) : Type 0 where
  pub begins : (item : A) (rest : List A) → items ≡ item ∷ rest → IsFalse (is_blank item)
  pub ends : (item : A) (rest : List A) → items ≡ rest ++ item ∷ [] → IsFalse (is_blank item)

-- marks with no blank at either end
abbrev pub AreTrimmed : List MarkedByte → Type 0
AreTrimmed marks = IsTrimmed MarkedByte is_space marks

-- a word, as  EX:0000001
pub record IsWord (marks : List MarkedByte) (word : List ℕ) : Type 0 where
  pub some : 0 < length marks
  pub each : AllPass is_word_mark marks
  pub read : read_as marks ≡ word

-- a quoted text, as  "a \"small\" wheel"
pub record IsQuoted (marks : List MarkedByte) (text : List ℕ) : Type 0 where
  pub inside : List MarkedByte
  pub whole : marks ≡ quote ∷ (inside ++ quote ∷ [])
  pub each : AllPass is_quoted_mark inside
  pub read : read_as inside ≡ text

-- nothing, or a quoted text
abbrev pub IsLabel : List MarkedByte → Option (List ℕ) → Type 0
IsLabel marks None = marks ≡ []
IsLabel marks (Some text) = IsQuoted marks text

-- an entry of an xref list between its commas, as  PMID:1 "a paper"
pub record IsEntry (marks : List MarkedByte) (xref : Xref) : Type 0 where
  pub before : List MarkedByte
  pub id : List MarkedByte
  pub between : List MarkedByte
  pub label : List MarkedByte
  pub behind : List MarkedByte
  pub whole : marks ≡ before ++ id ++ between ++ label ++ behind
  pub blank_before : AreBlanks before
  pub blank_between : AreBlanks between
  pub blank_behind : AreBlanks behind
  pub some : 0 < length id
  pub each : AllPass is_entry_mark id
  pub trimmed : AreTrimmed id
  pub read : read_as id ≡ xref.id
  pub labelled : IsLabel label xref.label

-- what stands between two commas of an xref list: blanks, which are skipped, or an entry
pub data IsSlot (marks : List MarkedByte) : List Xref → Type 0 where
  skipped : AreBlanks marks → IsSlot marks []
  filled : (xref : Xref) → IsEntry marks xref → IsSlot marks (xref ∷ [])

-- the slots of an xref list, with commas between them
pub data AreSlots : List MarkedByte → List Xref → Type 0 where
  last : (marks : List MarkedByte) (xrefs : List Xref) → IsSlot marks xrefs → AreSlots marks xrefs
  more : (marks rest : List MarkedByte) (xrefs others : List Xref) → IsSlot marks xrefs → AreSlots rest others → AreSlots (marks ++ comma ∷ rest) (xrefs ++ others)

-- an xref list, as  [PMID:1 "a paper", EX:2]
pub record IsXrefList (marks : List MarkedByte) (xrefs : List Xref) : Type 0 where
  pub inside : List MarkedByte
  pub whole : marks ≡ list_open ∷ (inside ++ list_close ∷ [])
  pub slots : AreSlots inside xrefs

-- the value of a qualifier without quotes, as  EX:1
pub record IsUnquoted (marks : List MarkedByte) (text : List ℕ) : Type 0 where
  pub each : AllPass is_unquoted_mark marks
  pub trimmed : AreTrimmed marks
  pub read : read_as marks ≡ text

-- a key
pub record IsKey (marks : List MarkedByte) (key : List ℕ) : Type 0 where
  pub some : 0 < length marks
  pub each : AllPass is_key_mark marks
  pub read : read_as marks ≡ key

-- a qualifier, as  source="EX:1"  or  source=EX:1
pub record IsQualifier (marks : List MarkedByte) (qualifier : Qualifier) : Type 0 where
  pub key : List MarkedByte
  pub before : List MarkedByte
  pub behind : List MarkedByte
  pub value : List MarkedByte
  pub whole : marks ≡ key ++ before ++ equals ∷ (behind ++ value)
  pub keyed : IsKey key qualifier.key
  pub blank_before : AreBlanks before
  pub blank_behind : AreBlanks behind
  pub valued : IsQuoted value qualifier.value ⊎ IsUnquoted value qualifier.value

-- one qualifier or more, with commas between them
pub data AreQualifiers : List MarkedByte → List Qualifier → Type 0 where
  last : (marks : List MarkedByte) (qualifier : Qualifier) → IsQualifier marks qualifier → AreQualifiers marks (qualifier ∷ [])
  more : (marks before behind rest : List MarkedByte) (qualifier : Qualifier) (others : List Qualifier) → IsQualifier marks qualifier → AreBlanks before → AreBlanks behind → AreQualifiers rest others → AreQualifiers (marks ++ before ++ comma ∷ (behind ++ rest)) (qualifier ∷ others)

-- a block of qualifiers, as  {source="EX:1", is_inferred="true"}
pub record IsBlock (marks : List MarkedByte) (qualifiers : List Qualifier) : Type 0 where
  pub before : List MarkedByte
  pub inside : List MarkedByte
  pub behind : List MarkedByte
  pub whole : marks ≡ block_open ∷ (before ++ inside ++ behind ++ block_close ∷ [])
  pub blank_before : AreBlanks before
  pub blank_behind : AreBlanks behind
  pub within : AreQualifiers inside qualifiers

-- nothing, or a comment, as  ! a wheel
pub data IsComment : List MarkedByte → Type 0 where
  nothing : IsComment []
  comment : (rest : List MarkedByte) → IsComment (exclamation ∷ rest)

-- how a line may end behind its value and blanks: with a comment or nothing, or with a block before them
pub data IsEnding : List MarkedByte → List Qualifier → Type 0 where
  bare : (comment : List MarkedByte) → IsComment comment → IsEnding comment []
  qualified : (block blanks comment : List MarkedByte) (qualifiers : List Qualifier) → IsBlock block qualifiers → AreBlanks blanks → IsComment comment → IsEnding (block ++ blanks ++ comment) qualifiers

-- no ending begins inside the marks, where these others stand behind them: so a run of characters ends at the first `!`,
-- or at the first `{` from which on the line is a block, blanks and a comment or nothing
abbrev pub IsFree : List MarkedByte → List MarkedByte → Type 0
IsFree marks behind =
    (before after : List MarkedByte) (qualifiers : List Qualifier) → marks ≡ before ++ after → 0 < length after → ¬ IsEnding (after ++ behind) qualifiers
