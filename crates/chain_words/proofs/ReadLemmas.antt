-- What is read first: the command of the first word.
use Rattle.std.proofs.Common.{◌≡◌, ◌≤◌, false, List, [], ◌∷◌, Result, Ok, Err, length, get_or, drop, map, nat_lt, refl, sym, ap, arith}
use Rattle.std.proofs.lemmas.Bool.{lt-leb}
use Rattle.std.proofs.lemmas.List.{length-map}
use Rattle.std.specs.Bool.{◌==◌}
use Rattle.std.specs.Result.{IfErr, IfOk}
use Rattle.chain_words.specs.Word.{Word}
use Rattle.chain_words.specs.Fault.{IsBadWord, Reading}
use Rattle.chain_words.specs.inner.Answers.{Answers}
use Rattle.chain_words.specs.Table.{command_of}
use Rattle.chain_words.specs.Read.{all_words, begun_by, chain, most_words}
use Rattle.chain_words.specs.declared.fault.WordFault.{WordFault}

-- the first word, where there is one, says which command begins
pub first_begins : {A : Type 0} (word_of : A → Word) (words : List A) (one : A) → (length words == 0) ≡ false → one ≡ get_or words 0 one → all_words (map word_of words) ≡ begun_by (command_of (word_of one)) (drop 1 (map word_of words))
first_begins word_of [] one e is = cc
first_begins word_of (word ∷ words) one e is = ap (λ first. begun_by (command_of (word_of first)) (map word_of words)) (sym is)

-- an answer that is a value is what is read
pub answers_value : {A : Type 0} (reading : Reading A) (result : Result A WordFault) → Answers reading result → IfOk result (λ value. reading ≡ Ok value)
answers_value reading (Ok value) answers = answers
answers_value reading (Err fault) answers = tt

-- an answer that is a fault is the bad word that is read, or out of memory
pub answers_fault : {A : Type 0} (reading : Reading A) (result : Result A WordFault) → Answers reading result → IfErr result (IsBadWord reading)
answers_fault reading (Ok value) answers = tt
answers_fault reading (Err fault) answers = answers

-- words that are not too many are all read
pub chain_within : {A : Type 0} (word_of : A → Word) (items : List A) → length items ≤ most_words → chain (map word_of items) ≡ all_words (map word_of items)
chain_within word_of items within =
    let same : length (map word_of items) ≡ length items = length-map items word_of in
    let test : nat_lt most_words (length (map word_of items)) ≡ false = lt-leb 1025 (length (map word_of items)) (omega (arith, within, same)) in
    rw test refl
