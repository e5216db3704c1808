-- Percent-escapes in IRIs: which bytes stay as they are, and `%` with two upper-case hexadecimal digits for every other
-- byte (RFC 3986, section 2.1).
use Rattle.std.specs.Prelude.{ℕ, Bool, not, ◌&&◌, ◌||◌, List, [], ◌∷◌, codes, if◌then◌else◌}
use Rattle.std.specs.Char.{is_ascii_alphanumeric, is_ascii_graphic}
use Rattle.std.specs.List.{flat_map}
use Rattle.percent_encoding.specs.Percent.{percent_encode_byte}
use Rattle.rel_io.specs.Texts.{holds_byte}

-- what stays in a part of an IRI: ASCII letters, digits, `-`, `.`, `_`, `~` and `/`
abbrev pub stays_in_part : ℕ → Bool
stays_in_part b = is_ascii_alphanumeric b || holds_byte (codes "-._~/") b

-- what stays in a URL: the printable ASCII bytes behind the space, `%` among them, without the nine here that no URI
-- has (RFC 3986, section 2)
abbrev pub stays_in_url : ℕ → Bool
stays_in_url b = is_ascii_graphic b && not (holds_byte (codes "\"<>\\^`{|}") b)

-- the bytes, with each one that does not stay escaped
abbrev pub escaped : (ℕ → Bool) → List ℕ → List ℕ
escaped stays bytes = flat_map (λ b. if stays b then b ∷ [] else percent_encode_byte b) bytes

-- a name as a part of an IRI
unfoldable pub escaped_part : List ℕ → List ℕ
escaped_part bytes = escaped stays_in_part bytes

-- a URL as an IRI
unfoldable pub escaped_url : List ℕ → List ℕ
escaped_url bytes = escaped stays_in_url bytes
