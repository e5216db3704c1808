-- How the parts of a clause are read, as functions from left to right: a reader goes by these, and they are proved to find
-- what the grammar allows and nothing else. A run is the longest front of marks of its class. (Own.)
use Rattle.std.specs.Prelude.{ℕ, zero, suc, ◌==◌, ◌&&◌, ◌||◌, Bool, true, not, if◌then◌else◌, List, [], ◌∷◌, ◌++◌, Option, None, Some, Result, Ok, Err, drop, is_some, length, take}
use Rattle.std.specs.List.{prefix_len}
use Rattle.std.specs.Option.{option_and_then, option_map}
use Rattle.obo_clause.specs.declared.clause.Qualifier.{Qualifier}
use Rattle.obo_clause.specs.declared.clause.Xref.{Xref}
use Rattle.obo_clause.specs.declared.line.SyntaxKind.{SyntaxKind}
use Rattle.obo_clause.specs.declared.line.SyntaxKind.TheVariants as syntax
use Rattle.obo_clause.specs.Marks.{MarkedByte, read_as}
use Rattle.obo_clause.specs.Vocabulary.{is_entry_mark, is_key_mark, is_quoted_mark, is_space, is_unquoted_mark, is_word_mark}

-- what is read, or what is wrong
abbrev pub Answer : Type 0 → Type 0
Answer A = Result A SyntaxKind

-- what goes on with what was read
abbrev pub next : {A B : Type 0} → Answer A → (A → Answer B) → Answer B
next (Ok one) go_on = go_on one
next (Err one) go_on = Err one

-- what was found, or this is wrong
abbrev pub wanted : {A : Type 0} → SyntaxKind → Option A → Answer A
wanted one None = Err one
wanted one (Some found) = Ok found

-- what goes on with what was found, or another value
abbrev pub found : {A B : Type 0} → Option A → B → (A → B) → B
found None other go_on = other
found (Some one) other go_on = go_on one

-- the longest front of what passes, and what stands behind it
abbrev pub front : {A : Type 0} → (A → Bool) → List A → List A
front passes items = take (prefix_len passes items) items

abbrev pub behind : {A : Type 0} → (A → Bool) → List A → List A
behind passes items = drop (prefix_len passes items) items

-- one item before others that were kept: dropped where it passes and none was kept
abbrev pub kept : {A : Type 0} → (A → Bool) → A → List A → List A
kept passes item [] = if passes item then [] else item ∷ []
kept passes item (later ∷ items) = item ∷ later ∷ items

-- without what passes at the end
unfoldable pub trim_end : {A : Type 0} → (A → Bool) → List A → List A
trim_end passes [] = []
trim_end passes (item ∷ items) = kept passes item (trim_end passes items)

-- without what passes at both ends
abbrev pub trim : {A : Type 0} → (A → Bool) → List A → List A
trim passes items = trim_end passes (behind passes items)

-- what stands behind blanks
abbrev pub behind_blanks : List MarkedByte → List MarkedByte
behind_blanks marks = behind is_space marks

-- the mark is this byte, standing by itself
abbrev pub is_sign : ℕ → MarkedByte → Bool
is_sign byte mark = not mark.is_escaped && mark.byte == byte

-- what stands behind a sign, if the marks begin with it
abbrev pub behind_sign : ℕ → List MarkedByte → Option (List MarkedByte)
behind_sign byte [] = None
behind_sign byte (mark ∷ marks) = if is_sign byte mark then Some marks else None

-- a run that is not empty, and what stands behind it
abbrev pub some_run : List MarkedByte → List MarkedByte → Option (List MarkedByte × List MarkedByte)
some_run run rest = if length run == 0 then None else Some (run, rest)

-- the word behind blanks, if there is one, and the rest
unfoldable pub word_at : List MarkedByte → Option (List MarkedByte × List MarkedByte)
word_at marks =
    some_run (front is_word_mark (behind_blanks marks)) (behind is_word_mark (behind_blanks marks))

-- the inside of a quoted text, from behind its first `"` on, and the rest
unfoldable pub inside_quotes : List MarkedByte → Option (List MarkedByte × List MarkedByte)
inside_quotes marks =
    option_map (λ (rest : List MarkedByte). (front is_quoted_mark marks, rest)) (behind_sign 34 (behind is_quoted_mark marks))

-- the same, where the end is wanted
abbrev pub end_of_quotes : List MarkedByte → Answer (List MarkedByte × List MarkedByte)
end_of_quotes marks = wanted syntax.OpenQuote (inside_quotes marks)

-- the inside of the quoted text behind blanks, and the rest
unfoldable pub quoted_at : List MarkedByte → Answer (List MarkedByte × List MarkedByte)
quoted_at marks =
    next (wanted syntax.NoQuote (behind_sign 34 (behind_blanks marks))) end_of_quotes

-- an entry of an xref list: its run without outer blanks, its label, and the rest
abbrev pub Slot : Type 0
Slot = List MarkedByte × Option (List MarkedByte) × List MarkedByte

-- the label of an entry with this run, from behind its first `"` on
abbrev pub label_at : List MarkedByte → List MarkedByte → Answer Slot
label_at id marks =
    if length id == 0 then Err syntax.XrefList
    else next (end_of_quotes marks) (λ (read : List MarkedByte × List MarkedByte). Ok (id, Some read.0, behind_blanks read.1))

-- what stands in an xref list up to the next comma or the end
unfoldable pub slot_at : List MarkedByte → Answer Slot
slot_at marks =
    let id = trim is_space (front is_entry_mark marks) in
    let rest = behind is_entry_mark marks in
    found (behind_sign 34 rest) (Ok (id, None, rest)) (λ (inside : List MarkedByte). label_at id inside)

-- what a label is read as
abbrev pub text_read : Option (List MarkedByte) → Option (List ℕ)
text_read None = None
text_read (Some marks) = Some (read_as marks)

-- the xref of an entry; an empty one is skipped
abbrev pub xrefs_of : List MarkedByte → Option (List MarkedByte) → List Xref
xrefs_of id label =
    if length id == 0 then [] else (record { id = read_as id; label = text_read label }) ∷ []

-- the list of these xrefs ends here
abbrev pub list_end : List Xref → List MarkedByte → Answer (List Xref × List MarkedByte)
list_end xrefs marks =
    next (wanted syntax.XrefList (behind_sign 93 marks)) (λ (rest : List MarkedByte). Ok (xrefs, rest))

-- the xrefs of the slots up to the list's end, and what stands behind it; there are fewer slots than the number
unfoldable pub slots_from : ℕ → List MarkedByte → Answer (List Xref × List MarkedByte)
slots_from zero marks = Err syntax.XrefList
slots_from (suc count) marks =
    next (slot_at marks) (λ (slot : Slot).
    found (behind_sign 44 slot.2) (list_end (xrefs_of slot.0 slot.1) slot.2) (λ (more : List MarkedByte).
    next (slots_from count more) (λ (read : List Xref × List MarkedByte). Ok (xrefs_of slot.0 slot.1 ++ read.0, read.1))))

-- the xref list behind blanks, if there is one, and the rest
unfoldable pub list_at : List MarkedByte → Answer (List Xref × List MarkedByte)
list_at marks =
    found (behind_sign 91 (behind_blanks marks)) (Ok ([], marks)) (λ (inside : List MarkedByte). slots_from (suc (length inside)) inside)

-- a key, a value and the rest
abbrev pub Field : Type 0
Field = List MarkedByte × List MarkedByte × List MarkedByte

-- a qualifier without quotes behind its key
abbrev pub unquoted_field : List MarkedByte → List MarkedByte → Field
unquoted_field key marks =
    (key, trim_end is_space (front is_unquoted_mark marks), behind is_unquoted_mark marks)

-- a qualifier with quotes behind its key, from behind the first on
abbrev pub quoted_field : List MarkedByte → List MarkedByte → Option Field
quoted_field key marks =
    option_map (λ (read : List MarkedByte × List MarkedByte). (key, read.0, behind_blanks read.1)) (inside_quotes marks)

-- a qualifier behind its key
abbrev pub field_value : List MarkedByte → List MarkedByte → Option Field
field_value key marks = found (behind_sign 34 marks) (Some (unquoted_field key marks)) (quoted_field key)

-- the qualifier with which the marks begin
unfoldable pub field_at : List MarkedByte → Option Field
field_at marks =
    let key = front is_key_mark marks in
    if length key == 0 then None
    else option_and_then (λ (value : List MarkedByte). field_value key (behind_blanks value)) (behind_sign 61 (behind_blanks (behind is_key_mark marks)))

-- what a field is kept as
abbrev pub qualifier_of : Field → Qualifier
qualifier_of field = record { key = read_as field.0; value = read_as field.1 }

-- the block of these qualifiers ends here
abbrev pub block_end : List Qualifier → List MarkedByte → Option (List Qualifier × List MarkedByte)
block_end qualifiers marks =
    option_map (λ (rest : List MarkedByte). (qualifiers, rest)) (behind_sign 125 marks)

-- the qualifiers up to the block's end, and what stands behind it; there are fewer qualifiers than the number
unfoldable pub qualifiers_from : ℕ → List MarkedByte → Option (List Qualifier × List MarkedByte)
qualifiers_from zero marks = None
qualifiers_from (suc count) marks =
    option_and_then (λ (field : Field).
    found (behind_sign 44 field.2) (block_end (qualifier_of field ∷ []) field.2) (λ (more : List MarkedByte).
    option_map (λ (read : List Qualifier × List MarkedByte). (qualifier_of field ∷ read.0, read.1)) (qualifiers_from count (behind_blanks more)))) (field_at marks)

-- the qualifiers of a block from behind its `{` on, and what stands behind the block
unfoldable pub block_at : List MarkedByte → Option (List Qualifier × List MarkedByte)
block_at marks = qualifiers_from (suc (length (behind_blanks marks))) (behind_blanks marks)

-- nothing is left, or a comment
abbrev pub is_comment : List MarkedByte → Bool
is_comment [] = true
is_comment (mark ∷ marks) = is_sign 33 mark

-- the qualifiers of a block, where only blanks and a comment follow it
abbrev pub ends_with : List Qualifier × List MarkedByte → Option (List Qualifier)
ends_with block = if is_comment (behind_blanks block.1) then Some block.0 else None

-- the qualifiers of a block from behind its `{` on, where only blanks and a comment follow it
abbrev pub block_ending : List MarkedByte → Option (List Qualifier)
block_ending marks = option_and_then ends_with (block_at marks)

-- the qualifiers of the ending, if the marks are one
unfoldable pub ending_at : List MarkedByte → Option (List Qualifier)
ending_at marks =
    if is_comment marks then Some []
    else option_and_then block_ending (behind_sign 123 marks)

-- a run of characters ends here: before an ending, and before a `"` if that ends it too
abbrev pub stops_run : Bool → List MarkedByte → Bool
stops_run at_quote marks = is_some (ending_at marks) || (at_quote && is_some (behind_sign 34 marks))

-- a run of characters, and the rest
unfoldable pub free_run : Bool → List MarkedByte → List MarkedByte × List MarkedByte
free_run at_quote [] = ([], [])
free_run at_quote (mark ∷ marks) =
    if stops_run at_quote (mark ∷ marks) then ([], mark ∷ marks)
    else (mark ∷ (free_run at_quote marks).0, (free_run at_quote marks).1)

-- the qualifiers of the ending behind blanks
unfoldable pub end_at : List MarkedByte → Answer (List Qualifier)
end_at marks = wanted syntax.Trailing (ending_at (behind_blanks marks))
