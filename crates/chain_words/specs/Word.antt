-- A word of the command line is the list of its bytes. (Own.)
use Rattle.std.specs.Prelude.{ℕ, List, [], ◌∷◌, Bool, true, false, Option, Some, None, if◌then◌else◌, nat_eq}
use Rattle.std.specs.List.{find}
use Rattle.std.specs.Cmp.Lexicographic.{pointwise}

-- a word, as its bytes
abbrev pub Word : Type 0
Word = List ℕ

-- the name of a file, as its bytes
abbrev pub Name : Type 0
Name = List ℕ

-- whether two words are the same, byte for byte
abbrev pub same : Word → Word → Bool
same a b = pointwise nat_eq a b

-- the first of these values that has this word
abbrev pub named : {A : Type 0} → (A → Word) → List A → Word → Option A
named word_of all word = find (λ value. same (word_of value) word) all

-- whether a word is a name: it is not empty
abbrev pub is_name : Word → Bool
is_name [] = false
is_name (byte ∷ bytes) = true

-- the name that a word is, if it is one
abbrev pub name_of : Word → Option Name
name_of word = if is_name word then Some word else None
