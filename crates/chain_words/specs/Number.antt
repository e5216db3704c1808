-- The size of a generated ontology: a decimal number from 10 to 1000000 without leading zeros. (Own.)
use Rattle.std.specs.Prelude.{ℕ, ◌+◌, ◌*◌, ◌-◌, [], ◌∷◌, Bool, false, ◌&&◌, ◌==◌, nat_lt, nat_le, Option, Some, None, option_and_then, if◌then◌else◌}
use Rattle.std.specs.Char.{is_ascii_digit}
use Rattle.std.specs.List.{list_all}
use Rattle.chain_words.specs.Word.{Word}

-- the number that these digits write behind a number that is written before them
abbrev pub number_from : ℕ → Word → ℕ
number_from before [] = before
number_from before (digit ∷ digits) = number_from (10 * before + (digit - 48)) digits

-- the number that a word of digits writes, where it is at most 1000000
abbrev pub number_of : Word → Option ℕ
number_of word = if list_all is_ascii_digit word && nat_le (number_from 0 word) 1000000 then Some (number_from 0 word) else None

-- whether a word begins with the digit 0
abbrev pub leads_with_zero : Word → Bool
leads_with_zero [] = false
leads_with_zero (byte ∷ bytes) = byte == 48

-- a number from 10 on
abbrev pub from_ten : ℕ → Option ℕ
from_ten number = if nat_lt number 10 then None else Some number

-- the size that a word writes
abbrev pub size_of : Word → Option ℕ
size_of word = if leads_with_zero word then None else option_and_then from_ten (number_of word)
