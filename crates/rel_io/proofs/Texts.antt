-- A text is a word of a line exactly where the test says so.
use Rattle.std.proofs.Common.{◌≡◌, ◌<◌, ℕ, true, not, List, length, arith}
use Rattle.std.specs.Prelude.{◌==◌}
use Rattle.std.proofs.lemmas.Bool.{and_from, and_parts, not-true, not_from_false}
use Rattle.std.proofs.lemmas.Bool.Decides.{nat_tests}
use Rattle.std.proofs.lemmas.Str.{IsUtf8-from_is_utf8, is_utf8-from_IsUtf8}
use Rattle.rel_io.specs.Texts.{IsWordText, is_readable}

pub word_from_readable : (word : List ℕ) → is_readable word ≡ true → IsWordText word
unfolding is_readable
word_from_readable word is =
    let first = and_parts _ _ is in
    let second = and_parts _ _ first.0 in
    let filled : not (length word == 0) ≡ true = second.0 in
    record { some = grind (arith, nat_tests, filled); text = record { utf8 = IsUtf8-from_is_utf8 word second.1; no_return = not-true _ first.1 } }

pub readable_from_word : (word : List ℕ) → IsWordText word → is_readable word ≡ true
unfolding is_readable
readable_from_word word is =
    let some : 0 < length word = is.some in
    let filled : not (length word == 0) ≡ true = grind (arith, nat_tests, some) in
    and_from _ _ (and_from _ _ filled (is_utf8-from_IsUtf8 word is.text.utf8)) (not_from_false _ is.text.no_return)
