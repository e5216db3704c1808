-- How values and whole lines are read, as functions: a reader goes by these, and they are proved to answer what the line
-- says, or what is wrong with it. (Own.)
use Rattle.std.specs.Prelude.{ℕ, ◌==◌, ◌&&◌, Bool, true, false, not, if◌then◌else◌, List, [], ◌∷◌, Option, None, Some, Ok, Err, codes, drop, length, nat_eq}
use Rattle.std.specs.List.{list_all, starts_with}
use Rattle.std.specs.Str.{bytes_eq}
use Rattle.obo_lexer.specs.Tokens.{is_blank}
use Rattle.obo_tags.specs.declared.kind.FrameKind.{FrameKind}
use Rattle.obo_tags.specs.declared.kind.FrameKind.TheVariants as kind
use Rattle.obo_tags.specs.declared.kind.ValueShape.{ValueShape}
use Rattle.obo_tags.specs.declared.kind.ValueShape.TheVariants as shapes
use Rattle.obo_clause.specs.declared.clause.Qualifier.{Qualifier}
use Rattle.obo_clause.specs.declared.clause.Scope.{Scope}
use Rattle.obo_clause.specs.declared.clause.Scope.TheVariants as scope
use Rattle.obo_clause.specs.declared.clause.Value.{Value}
use Rattle.obo_clause.specs.declared.clause.Value.TheVariants as value
use Rattle.obo_clause.specs.declared.clause.Xref.{Xref}
use Rattle.obo_clause.specs.declared.line.Line.{Line}
use Rattle.obo_clause.specs.declared.line.Line.TheVariants as says
use Rattle.obo_clause.specs.declared.line.SyntaxKind.TheVariants as syntax
use Rattle.obo_clause.specs.declared.clause.QualifiedValue.{QualifiedValue}
use Rattle.obo_clause.specs.Marks.{MarkedByte, marks_of, read_as}
use Rattle.obo_clause.specs.Reading.{Answer, behind, behind_blanks, behind_sign, end_at, ending_at, found, free_run, front, list_at, next, quoted_at, trim, trim_end, wanted, word_at}
use Rattle.obo_clause.specs.Spelling.{scope_word, shape_at, text_datatype}
use Rattle.obo_clause.specs.Vocabulary.{is_space, is_tag_byte}

-- a value and the qualifiers of the ending behind it
abbrev pub qualified_value : Value → List Qualifier → QualifiedValue
qualified_value one qualifiers = record { value = one; qualifiers = qualifiers }

-- a value, where an ending stands behind it
abbrev pub ended : List MarkedByte → Value → Answer QualifiedValue
ended marks one = next (end_at marks) (λ (qualifiers : List Qualifier). Ok (qualified_value one qualifiers))

-- a word that is wanted
abbrev pub want_word : List MarkedByte → Answer (List MarkedByte × List MarkedByte)
want_word marks = wanted syntax.NoValue (word_at marks)

unfoldable pub read_text : List MarkedByte → Answer QualifiedValue
read_text marks =
    let run = free_run false (behind_blanks marks) in
    next (wanted syntax.Trailing (ending_at run.1)) (λ (qualifiers : List Qualifier).
    Ok (qualified_value (value.Text (read_as (trim_end is_space run.0))) qualifiers))

unfoldable pub read_id : List MarkedByte → Answer QualifiedValue
read_id marks =
    next (want_word marks) (λ (word : List MarkedByte × List MarkedByte). ended word.1 (value.Id (read_as word.0)))

unfoldable pub read_pair : List MarkedByte → Answer QualifiedValue
read_pair marks =
    next (want_word marks) (λ (word : List MarkedByte × List MarkedByte).
    next (want_word word.1) (λ (second : List MarkedByte × List MarkedByte).
    ended second.1 (value.Pair (read_as word.0) (read_as second.0))))

unfoldable pub read_id_or_pair : List MarkedByte → Answer QualifiedValue
read_id_or_pair marks =
    next (want_word marks) (λ (word : List MarkedByte × List MarkedByte).
    found (word_at word.1) (ended word.1 (value.Id (read_as word.0))) (λ (second : List MarkedByte × List MarkedByte).
    ended second.1 (value.Pair (read_as word.0) (read_as second.0))))

-- the truth value that a word is for
abbrev pub truth_of : List ℕ → Option Bool
truth_of word =
    if bytes_eq word (codes "true") then Some true
    else (if bytes_eq word (codes "false") then Some false else None)

abbrev pub want_truth : List ℕ → Answer Bool
want_truth word = wanted syntax.BadBool (truth_of word)

unfoldable pub read_bool : List MarkedByte → Answer QualifiedValue
read_bool marks =
    next (want_word marks) (λ (word : List MarkedByte × List MarkedByte).
    next (want_truth (read_as word.0)) (λ (truth : Bool). ended word.1 (value.Bool truth)))

unfoldable pub read_definition : List MarkedByte → Answer QualifiedValue
read_definition marks =
    next (quoted_at marks) (λ (text : List MarkedByte × List MarkedByte).
    next (list_at text.1) (λ (list : List Xref × List MarkedByte).
    ended list.1 (value.Def (read_as text.0) list.0)))

-- the scope that a word is for
abbrev pub scope_of : List ℕ → Option Scope
scope_of word =
    if bytes_eq word (scope_word scope.Exact) then Some scope.Exact
    else (if bytes_eq word (scope_word scope.Broad) then Some scope.Broad
    else (if bytes_eq word (scope_word scope.Narrow) then Some scope.Narrow
    else (if bytes_eq word (scope_word scope.Related) then Some scope.Related else None)))

-- a scope, the type of a synonym, and the rest
abbrev pub Scoped : Type 0
Scoped = Scope × Option (List ℕ) × List MarkedByte

-- a second word, which is the type
abbrev pub type_behind : Scope → List MarkedByte → Scoped
type_behind one marks =
    found (word_at marks) (one, None, marks) (λ (type : List MarkedByte × List MarkedByte). (one, Some (read_as type.0), type.1))

-- the scope and the type behind the text of a synonym
unfoldable pub scoped_at : List MarkedByte → Scoped
scoped_at marks =
    found (word_at marks) (scope.Related, None, marks) (λ (word : List MarkedByte × List MarkedByte).
    found (scope_of (read_as word.0)) (scope.Related, Some (read_as word.0), word.1) (λ (one : Scope). type_behind one word.1))

unfoldable pub read_synonym : List MarkedByte → Answer QualifiedValue
read_synonym marks =
    next (quoted_at marks) (λ (text : List MarkedByte × List MarkedByte).
    let scoped = scoped_at text.1 in
    next (list_at scoped.2) (λ (list : List Xref × List MarkedByte).
    ended list.1 (value.Synonym (read_as text.0) scoped.0 scoped.1 list.0)))

-- the value of an `xref` clause
abbrev pub xref : List ℕ → Option (List ℕ) → Value
xref id label = value.XrefValue (record { id = id; label = label })

-- a label behind the run of an xref
abbrev pub labelled : List ℕ → List MarkedByte → Answer QualifiedValue
labelled id marks =
    next (quoted_at marks) (λ (label : List MarkedByte × List MarkedByte). ended label.1 (xref id (Some (read_as label.0))))

unfoldable pub read_xref : List MarkedByte → Answer QualifiedValue
read_xref marks =
    let run = free_run true (behind_blanks marks) in
    let id = read_as (trim_end is_space run.0) in
    if length run.0 == 0 then Err syntax.NoValue
    else found (ending_at run.1) (labelled id run.1) (λ (qualifiers : List Qualifier). Ok (qualified_value (xref id None) qualifiers))

-- an optional word, and the rest
abbrev pub may_have_word : List MarkedByte → Option (List MarkedByte) × List MarkedByte
may_have_word marks =
    found (word_at marks) (None, marks) (λ (word : List MarkedByte × List MarkedByte). (Some word.0, word.1))

-- the datatype that a word is, or that of a text that has none
abbrev pub datatype_of : Option (List MarkedByte) → List ℕ
datatype_of None = text_datatype
datatype_of (Some word) = read_as word

-- a text of a datatype behind its property
unfoldable pub read_literal : List ℕ → List MarkedByte → Answer QualifiedValue
read_literal relation marks =
    next (quoted_at marks) (λ (text : List MarkedByte × List MarkedByte).
    let more = may_have_word text.1 in
    ended more.1 (value.Literal relation (read_as text.0) (datatype_of more.0)))

-- a word behind its property
unfoldable pub read_link : List ℕ → List MarkedByte → Answer QualifiedValue
read_link relation marks =
    next (want_word marks) (λ (target : List MarkedByte × List MarkedByte). ended target.1 (value.Link relation (read_as target.0)))

unfoldable pub read_property : List MarkedByte → Answer QualifiedValue
read_property marks =
    next (want_word marks) (λ (word : List MarkedByte × List MarkedByte).
    found (behind_sign 34 (behind_blanks word.1)) (read_link (read_as word.0) word.1) (λ (_ : List MarkedByte). read_literal (read_as word.0) word.1))

unfoldable pub read_subset : List MarkedByte → Answer QualifiedValue
read_subset marks =
    next (want_word marks) (λ (word : List MarkedByte × List MarkedByte).
    next (quoted_at word.1) (λ (text : List MarkedByte × List MarkedByte).
    ended text.1 (value.SubsetDef (read_as word.0) (read_as text.0))))

-- the scope behind the text of a synonym type, if there is one
unfoldable pub type_scope_at : List MarkedByte → Answer (Option Scope × List MarkedByte)
type_scope_at marks =
    found (word_at marks) (Ok (None, marks)) (λ (word : List MarkedByte × List MarkedByte).
    next (wanted syntax.Trailing (scope_of (read_as word.0))) (λ (one : Scope). Ok (Some one, word.1)))

unfoldable pub read_synonym_type : List MarkedByte → Answer QualifiedValue
read_synonym_type marks =
    next (want_word marks) (λ (word : List MarkedByte × List MarkedByte).
    next (quoted_at word.1) (λ (text : List MarkedByte × List MarkedByte).
    next (type_scope_at text.1) (λ (one : Option Scope × List MarkedByte).
    ended one.1 (value.SynonymDef (read_as word.0) (read_as text.0) one.0))))

-- the rest of a line as it stands
abbrev pub read_raw : List ℕ → Answer QualifiedValue
read_raw bytes = Ok (qualified_value (value.Raw (trim is_blank bytes)) [])

-- what stands behind the colon, by the shape of the value there
abbrev pub read_shape : ValueShape → List ℕ → Answer QualifiedValue
read_shape shapes.Text bytes = read_text (marks_of bytes)
read_shape shapes.Id bytes = read_id (marks_of bytes)
read_shape shapes.Pair bytes = read_pair (marks_of bytes)
read_shape shapes.IdOrPair bytes = read_id_or_pair (marks_of bytes)
read_shape shapes.Bool bytes = read_bool (marks_of bytes)
read_shape shapes.Def bytes = read_definition (marks_of bytes)
read_shape shapes.Synonym bytes = read_synonym (marks_of bytes)
read_shape shapes.XrefShape bytes = read_xref (marks_of bytes)
read_shape shapes.Property bytes = read_property (marks_of bytes)
read_shape shapes.SubsetDef bytes = read_subset (marks_of bytes)
read_shape shapes.SynonymDef bytes = read_synonym_type (marks_of bytes)
read_shape shapes.Raw bytes = read_raw bytes

-- the clause of a tag and what stands behind its colon
unfoldable pub read_tagged : FrameKind → Bool → List ℕ → List ℕ → Answer Line
read_tagged kind first tag bytes =
    next (read_shape (shape_at kind first tag) bytes) (λ (read : QualifiedValue).
    Ok (says.Content (record { tag = tag; value = read.value; qualifiers = read.qualifiers })))

-- the bytes are a tag
abbrev pub is_tag : List ℕ → Bool
is_tag bytes = list_all is_tag_byte bytes && not (length bytes == 0)

-- the byte is not `:`
abbrev pub is_before_colon : ℕ → Bool
is_before_colon byte = not (byte == 58)

-- the parts around a colon, if there is one
abbrev pub around_colon : List ℕ → List ℕ → Option (List ℕ × List ℕ)
around_colon before [] = None
around_colon before (colon ∷ bytes) = Some (before, bytes)

-- the parts before and behind the first colon
unfoldable pub at_colon : List ℕ → Option (List ℕ × List ℕ)
at_colon bytes = around_colon (front is_before_colon bytes) (behind is_before_colon bytes)

-- a clause line without the blanks at its beginning
unfoldable pub read_clause : FrameKind → Bool → List ℕ → Answer Line
read_clause kind first bytes =
    next (wanted syntax.NoColon (at_colon bytes)) (λ (parts : List ℕ × List ℕ).
    let tag = trim_end is_blank parts.0 in
    if is_tag tag then read_tagged kind first tag parts.1 else Err syntax.BadTag)

-- nothing is left, or a comment
abbrev pub is_line_comment : List ℕ → Bool
is_line_comment [] = true
is_line_comment (byte ∷ bytes) = byte == 33

-- what stands behind this beginning
abbrev pub behind_start : List ℕ → List ℕ → Option (List ℕ)
behind_start start bytes =
    if starts_with nat_eq bytes start then Some (drop (length start) bytes) else None

-- a name of a frame kind and what stands behind its `]`
abbrev pub Named : Type 0
Named = FrameKind × List ℕ

abbrev pub instance_name : List ℕ → Option Named
instance_name bytes =
    found (behind_start (codes "Instance]") bytes) None (λ (rest : List ℕ). Some (kind.Instance, rest))

abbrev pub later_name : List ℕ → Option Named
later_name bytes =
    found (behind_start (codes "Typedef]") bytes) (instance_name bytes) (λ (rest : List ℕ). Some (kind.Typedef, rest))

-- the frame kind that is named, from behind the `[` on, and what stands behind the `]`
unfoldable pub frame_name : List ℕ → Option Named
frame_name bytes =
    found (behind_start (codes "Term]") bytes) (later_name bytes) (λ (rest : List ℕ). Some (kind.Term, rest))

-- a frame line from behind the `[` on
unfoldable pub read_frame : List ℕ → Answer Line
read_frame bytes =
    next (wanted syntax.BadFrame (frame_name bytes)) (λ (name : Named).
    if is_line_comment (behind is_blank name.1) then Ok (says.Frame name.0) else Err syntax.BadFrame)

-- a line without the blanks at its beginning
abbrev pub read_trimmed : FrameKind → Bool → List ℕ → Answer Line
read_trimmed kind first [] = Ok says.Blank
read_trimmed kind first (byte ∷ bytes) =
    if byte == 33 then Ok says.Blank
    else (if byte == 91 then read_frame bytes else read_clause kind first (byte ∷ bytes))

-- the answer to a line
unfoldable pub answer_to : FrameKind → Bool → List ℕ → Answer Line
answer_to kind first line = read_trimmed kind first (behind is_blank line)
