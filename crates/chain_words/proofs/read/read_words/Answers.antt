use Rattle.std.proofs.Common.{◌≤◌, length, ap, arith}
use Rattle.std.specs.String.{string_bytes}
use Rattle.chain_words.proofs.ReadLemmas.{answers_fault, answers_value, chain_within}
use Rattle.chain_words.proofs.read.read_words.Goals as goal

pub returns-clause-command : goal.returns-clause-command
returns-clause-command c =
    let within : length c.args.words.now.items ≤ 1024 = omega (arith, c.len.ensures, c.if-len-gt-MOST_WORDS.false, c.as_slice.ensures.len, ap length c.as_slice.ensures.value) in
    answers_value _ c.all_words.result (rw (chain_within string_bytes c.args.words.now.items within) (rw c.as_slice.ensures.value at c.all_words.ensures))

pub returns-clause-bad_word : goal.returns-clause-bad_word
returns-clause-bad_word c =
    let within : length c.args.words.now.items ≤ 1024 = omega (arith, c.len.ensures, c.if-len-gt-MOST_WORDS.false, c.as_slice.ensures.len, ap length c.as_slice.ensures.value) in
    answers_fault _ c.all_words.result (rw (chain_within string_bytes c.args.words.now.items within) (rw c.as_slice.ensures.value at c.all_words.ensures))
