-- The line of a clause, as it is printed, without its end. (OBO Flat File Format 1.4, the escape characters; the layout
-- is our own.)
use Rattle.std.specs.Prelude.{ℕ, ◌==◌, ◌&&◌, ◌||◌, Bool, false, true, if◌then◌else◌, List, [], ◌∷◌, ◌++◌, Option, None, Some, codes}
use Rattle.std.specs.List.{flat_map, join_by}
use Rattle.obo_clause.specs.declared.clause.Clause.{Clause}
use Rattle.obo_clause.specs.declared.clause.Qualifier.{Qualifier}
use Rattle.obo_clause.specs.declared.clause.Scope.{Scope}
use Rattle.obo_clause.specs.declared.clause.Value.{Value}
use Rattle.obo_clause.specs.declared.clause.Value.TheVariants as value
use Rattle.obo_clause.specs.declared.clause.Xref.{Xref}
use Rattle.obo_clause.specs.Spelling.{bool_word, scope_word}
use Rattle.obo_clause.specs.Vocabulary.{is_one_of}

-- what stands behind a backslash for a byte: `n` for LF, `t` for a tab, `W` for a space, and any other byte itself
abbrev pub letter_of : ℕ → ℕ
letter_of byte = if byte == 10 then 110 else (if byte == 9 then 116 else (if byte == 32 then 87 else byte))

-- a byte, with a backslash before it or without one
abbrev pub spelled_byte : Bool → ℕ → List ℕ
spelled_byte is_escaped byte = if is_escaped then 92 ∷ letter_of byte ∷ [] else byte ∷ []

-- the bytes that a backslash stands before in a word or an id: LF, tab, space and these signs
unfoldable pub is_escaped_in_word : ℕ → Bool
is_escaped_in_word byte = is_one_of (10 ∷ 9 ∷ codes " \\\",[]{}!") byte

-- the bytes that it stands before in a quoted text
unfoldable pub is_escaped_in_quotes : ℕ → Bool
is_escaped_in_quotes byte = is_one_of (10 ∷ 9 ∷ codes "\\\"") byte

-- the bytes that it stands before in a run of characters. The first byte of the run and the last one are outer: a space
-- there would be no part of the run
unfoldable pub is_escaped_in_run : Bool → ℕ → Bool
is_escaped_in_run is_outer byte = is_one_of (10 ∷ 9 ∷ codes "\\{!") byte || (is_outer && (byte == 32))

-- a word, as  EX:a\Wb
abbrev pub word_text : List ℕ → List ℕ
word_text word = flat_map (λ byte. spelled_byte (is_escaped_in_word byte) byte) word

-- a quoted text, as  "a \"small\" wheel"
abbrev pub quoted_text : List ℕ → List ℕ
quoted_text text = 34 ∷ (flat_map (λ byte. spelled_byte (is_escaped_in_quotes byte) byte) text ++ 34 ∷ [])

-- nothing is left
abbrev pub is_end : List ℕ → Bool
is_end [] = true
is_end (byte ∷ bytes) = false

-- what is left of a run of characters, as  a \{b}  where `begins` says that nothing of the run stands before it
abbrev pub run_text : Bool → List ℕ → List ℕ
run_text begins [] = []
run_text begins (byte ∷ bytes) =
    spelled_byte (is_escaped_in_run (begins || is_end bytes) byte) byte ++ run_text false bytes

-- what stands between two parts
abbrev pub space : List ℕ
space = codes " "

-- nothing, or a space and a label
abbrev pub label_text : Option (List ℕ) → List ℕ
label_text None = []
label_text (Some label) = space ++ quoted_text label

-- an xref, as  PMID:1 "a paper"
abbrev pub xref_text : Xref → List ℕ
xref_text xref = word_text xref.id ++ label_text xref.label

-- an xref list, as  [PMID:1 "a paper", EX:2]
abbrev pub list_text : List Xref → List ℕ
list_text xrefs = 91 ∷ (join_by xref_text (codes ", ") xrefs ++ 93 ∷ [])

-- nothing, or a space and the type of a synonym
abbrev pub type_text : Option (List ℕ) → List ℕ
type_text None = []
type_text (Some word) = space ++ word_text word

-- nothing, or a space and the scope that a synonym type implies
abbrev pub scope_text : Option Scope → List ℕ
scope_text None = []
scope_text (Some scope) = space ++ scope_word scope

-- a value. Def and Synonym have their xref list even where it is empty
abbrev pub value_text : Value → List ℕ
value_text (value.Text text) = run_text true text
value_text (value.Id word) = word_text word
value_text (value.Pair first second) = word_text first ++ space ++ word_text second
value_text (value.Bool truth) = bool_word truth
value_text (value.Def text xrefs) = quoted_text text ++ (space ++ list_text xrefs)
value_text (value.Synonym text scope type xrefs) =
    quoted_text text ++ (space ++ scope_word scope ++ type_text type) ++ (space ++ list_text xrefs)
value_text (value.XrefValue xref) = xref_text xref
value_text (value.Literal relation text datatype) =
    word_text relation ++ space ++ quoted_text text ++ (space ++ word_text datatype)
value_text (value.Link relation target) = word_text relation ++ space ++ word_text target
value_text (value.SubsetDef id text) = word_text id ++ space ++ quoted_text text
value_text (value.SynonymDef id text scope) = word_text id ++ space ++ quoted_text text ++ scope_text scope
value_text (value.Raw text) = text

-- a qualifier, as  source="EX:1"
abbrev pub qualifier_text : Qualifier → List ℕ
qualifier_text qualifier = qualifier.key ++ 61 ∷ quoted_text qualifier.value

-- nothing, or a block of qualifiers, as  {source="EX:1", is_inferred="true"}
abbrev pub block_text : List Qualifier → List ℕ
block_text [] = []
block_text (first ∷ others) = 123 ∷ (join_by qualifier_text (codes ", ") (first ∷ others) ++ 125 ∷ [])

-- nothing, or a space and what is not empty
abbrev pub behind_space : List ℕ → List ℕ
behind_space [] = []
behind_space (byte ∷ bytes) = space ++ byte ∷ bytes

-- the line of a clause, as  name: a wheel {source="EX:1"}
unfoldable pub clause_text : Clause → List ℕ
clause_text clause =
    clause.tag ++ 58 ∷ (behind_space (value_text clause.value) ++ behind_space (block_text clause.qualifiers))

-- a space, `!`, a space and a name as a run of characters
abbrev pub comment_text : List ℕ → List ℕ
comment_text name = codes " " ++ 33 ∷ (codes " " ++ run_text true name)
