use Rattle.std.proofs.Common.{◌+◌, ◌*◌, ◌-◌, ◌<◌, length, get_or, drop, sym, arith}
use Rattle.chain_words.proofs.NumberLemmas.{number_of_none, number_from_drop, number_from_grows}
use Rattle.chain_words.proofs.number.number_of.Goals as goal

pub returns-then-number-gt1000000 : goal.returns-then-number-gt1000000
returns-then-number-gt1000000 c =
    let word = c.args.word.now in
    let i = c.loop-byte.byte-index in
    let within : i < length word = omega arith in
    let grown = number_from_grows (10 * c.loop-byte.number + (get_or word i 0 - 48)) (drop (i + 1) word) in
    let here = number_from_drop c.loop-byte.number word i within in
    sym (number_of_none word (omega (arith, grown, here, c.loop-byte.invariant.number)))
