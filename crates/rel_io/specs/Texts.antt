-- The texts of files, as every layer speaks of them: the bytes that end a line, the texts that a line can hold, and the
-- IRIs that can be printed. (OBO Flat File Format 1.4, the file's structure; RFC 3987 for the bytes that no IRI has; the
-- rest is our own.)
use Rattle.std.specs.Prelude.{◌≡◌, ◌<◌, ℕ, Bool, false, not, ◌&&◌, ◌||◌, ◌==◌, List, length, nat_lt}
use Rattle.std.specs.List.{list_all, list_any}
use Rattle.std.specs.Str.{IsUtf8, is_utf8}

-- the byte LF, which ends a line
abbrev pub is_line_feed : ℕ → Bool
is_line_feed byte = byte == 10

-- the byte CR
abbrev pub carriage_return : ℕ
carriage_return = 13

abbrev pub is_return : ℕ → Bool
is_return byte = byte == carriage_return

-- the byte stands in the text
abbrev pub holds_byte : List ℕ → ℕ → Bool
holds_byte text b = list_any (λ c. c == b) text

-- any UTF-8 without CR, which is read as a space wherever it stands in a line. It may have LF, which an escape gives
pub record IsText (text : List ℕ) : Type 0 where
  pub utf8 : IsUtf8 text
  pub no_return : list_any is_return text ≡ false

-- any such text that is not empty: escapes give each byte a place in a word of a line
pub record IsWordText (word : List ℕ) : Type 0 where
  pub some : 0 < length word
  pub text : IsText word

-- the same as a test
unfoldable pub is_readable : List ℕ → Bool
is_readable text = not (length text == 0) && is_utf8 text && not (holds_byte text carriage_return)

-- a byte that an IRI may have: above a space, and none of `"`, `<` and `>`
abbrev pub is_iri_byte : ℕ → Bool
is_iri_byte b = nat_lt 32 b && not (b == 34 || b == 60 || b == 62)

-- an IRI whose text between angle brackets ends where the IRI does
unfoldable pub is_clean_iri : List ℕ → Bool
is_clean_iri iri = list_all is_iri_byte iri
