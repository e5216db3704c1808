-- The marked bytes of a text, `marks` for short: its bytes as they are read, each with whether a backslash stood before
-- it. What stands behind a tag is made of these, so that an escaped byte is never taken for a sign (OBO Flat File Format
-- 1.4, escape characters).
use Rattle.std.specs.Prelude.{ℕ, ◌==◌, false, true, if◌then◌else◌, List, [], ◌∷◌, map}
pub use Rattle.obo_clause.specs.declared.mark.MarkedByte.{MarkedByte}

-- a byte that stands by itself
abbrev pub bare : ℕ → MarkedByte
bare byte = record { byte = byte; is_escaped = false }

-- what a byte behind a backslash is read as: `n` as LF, `t` as a tab, `W` as a space, any other as itself
abbrev pub meant : ℕ → ℕ
meant byte = if byte == 110 then 10 else (if byte == 116 then 9 else (if byte == 87 then 32 else byte))

-- a byte behind a backslash. Of a character of several bytes it is the first one; no other has a meaning of its own
abbrev pub escaped : ℕ → MarkedByte
escaped byte = record { byte = meant byte; is_escaped = true }

-- the marks of a text; a backslash at its end stands by itself
abbrev pub marks_of : List ℕ → List MarkedByte
marks_of [] = []
marks_of (byte ∷ []) = bare byte ∷ []
marks_of (byte ∷ next ∷ bytes) =
    if byte == 92 then escaped next ∷ marks_of bytes else bare byte ∷ marks_of (next ∷ bytes)

-- what marks are read as
abbrev pub read_as : List MarkedByte → List ℕ
read_as marks = map (λ mark. mark.byte) marks
