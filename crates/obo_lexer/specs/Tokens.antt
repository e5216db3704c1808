-- The tokens of a line, by the places in it: blanks, marks, escaped characters, and the text between them
-- (OBO Flat File Format 1.4, whitespace, escape characters and the characters with a meaning in clauses).
use Rattle.std.specs.Prelude.{◌≡◌, ℕ, ◌+◌, ◌<◌, ◌≤◌, ◌==◌, Bool, false, not, ◌||◌, ◌&&◌, List, [], ◌∷◌, length, nat_le, nat_lt, slice_index, IsTrue}
use Rattle.std.specs.List.{list_any}
use Rattle.obo_lexer.specs.declared.token.Token.{Token}
use Rattle.obo_lexer.specs.declared.token.TokenKind.{TokenKind}
use Rattle.obo_lexer.specs.declared.token.TokenKind.TheVariants.{Blank, Escaped, Mark, Plain}

-- a space or a tab
abbrev pub is_blank : ℕ → Bool
is_blank byte = byte == 32 || byte == 9

-- one of " : , [ ] { } ! =
abbrev pub is_mark : ℕ → Bool
is_mark byte = list_any (λ mark. byte == mark) (34 ∷ 58 ∷ 44 ∷ 91 ∷ 93 ∷ 123 ∷ 125 ∷ 33 ∷ 61 ∷ [])

-- a byte of a character in UTF-8 that is not its first (RFC 3629, section 3)
abbrev pub is_continuation : ℕ → Bool
is_continuation byte = nat_le 128 byte && nat_lt byte 192

-- a backslash with something behind it stands at the place
abbrev pub escapes_at : List ℕ → ℕ → Bool
escapes_at line place = slice_index line place == 92 && nat_lt (place + 1) (length line)

abbrev pub blank_at : List ℕ → ℕ → Bool
blank_at line place = is_blank (slice_index line place)

abbrev pub mark_at : List ℕ → ℕ → Bool
mark_at line place = is_mark (slice_index line place)

abbrev pub continuation_at : List ℕ → ℕ → Bool
continuation_at line place = is_continuation (slice_index line place)

-- what is none of these stands at the place: a lone backslash at the line's end too
abbrev pub plain_at : List ℕ → ℕ → Bool
plain_at line place = not (blank_at line place || mark_at line place || escapes_at line place)

-- from one place up to another the test holds, and there it ends: at the line's end, or where the test fails
pub record IsLongestRun (test : ℕ → Bool) (line : List ℕ) (from to : ℕ) : Type 0 where
  pub ordered : from ≤ to
  pub within : to ≤ length line
  pub each : (place : ℕ) → from ≤ place → place < to → IsTrue (test place)
  pub stops : to < length line → test to ≡ false

-- the bytes of a token of each kind. An escaped character is its first byte, behind the backslash, and the
-- longest run of its other bytes
abbrev pub HasExtent : TokenKind → List ℕ → ℕ → ℕ → Type 0
HasExtent Blank line from to = IsTrue (blank_at line from) × IsLongestRun (blank_at line) line from to
HasExtent Plain line from to = IsTrue (plain_at line from) × IsLongestRun (plain_at line) line from to
HasExtent Mark line from to = IsTrue (mark_at line from) × (to ≡ from + 1)
HasExtent Escaped line from to = IsTrue (escapes_at line from) × IsLongestRun (continuation_at line) line (from + 2) to

-- the tokens cover the line from a place on, in order and without a gap
abbrev pub Covers : List ℕ → ℕ → List Token → Type 0
Covers line place [] = place ≡ length line
Covers line place (token ∷ tokens) =
    (token.from ≡ place) × (place < length line) × HasExtent token.kind line place token.to × Covers line token.to tokens

-- a line has one cover at most
abbrev pub CoverIsUnique : List ℕ → Type 0
CoverIsUnique line = (tokens others : List Token) → Covers line 0 tokens → Covers line 0 others → tokens ≡ others
