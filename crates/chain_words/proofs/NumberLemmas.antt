-- Numbers that digits write.
use Rattle.std.proofs.Common.{◌≡◌, ℕ, ◌+◌, ◌*◌, ◌-◌, ◌<◌, ◌≤◌, List, [], ◌∷◌, length, get_or, drop, refl, leb, true, false, ◌&&◌, cond, Some, None, arith}
use Rattle.std.proofs.lemmas.List.{at_drop_more}
use Rattle.std.proofs.lemmas.Bool.{lt-leb}
use Rattle.std.specs.Char.{is_ascii_digit}
use Rattle.std.specs.List.{list_all}
use Rattle.chain_words.specs.Number.{number_from, number_of}

-- the digit at place i comes next
pub number_from_drop : (before : ℕ) (word : List ℕ) (i : ℕ) → i < length word → number_from before (drop i word) ≡ number_from (10 * before + (get_or word i 0 - 48)) (drop (i + 1) word)
number_from_drop before word i within = at_drop_more (number_from before) word i 0 within

-- more digits never make a number less
pub number_from_grows : (before : ℕ) (word : List ℕ) → before ≤ number_from before word
number_from_grows before [] = omega arith
number_from_grows before (digit ∷ digits) = omega (arith, number_from_grows (10 * before + (digit - 48)) digits)

-- a number above 1000000 is too great
pub number_of_none : (word : List ℕ) → 1000000 < number_from 0 word → number_of word ≡ None
number_of_none word above =
    let test : leb (number_from 0 word) 1000000 ≡ false = lt-leb (number_from 0 word) 1000000 above in
    rw test (elim (list_all is_ascii_digit word) as (λ b. cond (b && false) (Some (number_from 0 word)) None ≡ None) [ true ↦ refl | false ↦ refl ])
