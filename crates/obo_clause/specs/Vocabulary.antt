-- The bytes and marks that lines are made of: which ones stand in which part, and which ones are signs. (OBO Flat File
-- Format 1.4, the escape characters, dbxref lists and trailing qualifiers; which byte ends which part is our own.)
use Rattle.std.specs.Prelude.{ℕ, ◌==◌, ◌&&◌, ◌||◌, Bool, not, List, ◌∷◌, codes}
use Rattle.std.specs.Char.{is_ascii_alphanumeric}
use Rattle.std.specs.List.{list_any}
use Rattle.obo_lexer.specs.Tokens.{is_blank}
use Rattle.obo_clause.specs.Marks.{MarkedByte, bare}

-- the byte is one of these
abbrev pub is_one_of : List ℕ → ℕ → Bool
is_one_of bytes byte = list_any (λ one. byte == one) bytes

-- a byte of a tag: an ASCII letter or digit, `-` or `_`
abbrev pub is_tag_byte : ℕ → Bool
is_tag_byte byte = is_ascii_alphanumeric byte || is_one_of (codes "-_") byte

-- the signs
abbrev pub quote : MarkedByte
quote = bare 34

abbrev pub comma : MarkedByte
comma = bare 44

abbrev pub equals : MarkedByte
equals = bare 61

abbrev pub list_open : MarkedByte
list_open = bare 91

abbrev pub list_close : MarkedByte
list_close = bare 93

abbrev pub block_open : MarkedByte
block_open = bare 123

abbrev pub block_close : MarkedByte
block_close = bare 125

abbrev pub exclamation : MarkedByte
exclamation = bare 33

-- the mark is a byte of this class, and stands by itself
abbrev pub is_bare : (ℕ → Bool) → MarkedByte → Bool
is_bare class mark = not mark.is_escaped && class mark.byte

-- a space or a tab
abbrev pub is_space : MarkedByte → Bool
is_space mark = is_bare is_blank mark

-- in a word: everything but blanks and the signs `{`, `!`, `[` and `"`
abbrev pub is_word_mark : MarkedByte → Bool
is_word_mark mark = not (is_bare (λ byte. is_blank byte || is_one_of (codes "{![\"") byte) mark)

-- in a quoted text: everything but `"`
abbrev pub is_quoted_mark : MarkedByte → Bool
is_quoted_mark mark = not (is_bare (is_one_of (codes "\"")) mark)

-- in an entry of an xref list: everything but `,`, `]` and `"`
abbrev pub is_entry_mark : MarkedByte → Bool
is_entry_mark mark = not (is_bare (is_one_of (codes ",]\"")) mark)

-- in the key of a qualifier: what stands by itself and is no blank, no CR or LF and none of `=`, `,`, `{`, `}`, `"`, `!`
-- and backslash
abbrev pub is_key_mark : MarkedByte → Bool
is_key_mark mark = is_bare (λ byte. not (is_blank byte || is_one_of (10 ∷ 13 ∷ codes "=,{}\"!\\") byte)) mark

-- in the value of a qualifier without quotes: everything but `,`, `}`, `{` and `"`
abbrev pub is_unquoted_mark : MarkedByte → Bool
is_unquoted_mark mark = not (is_bare (is_one_of (codes ",}{\"")) mark)
