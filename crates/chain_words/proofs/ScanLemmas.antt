-- The words, read one after another.
use Rattle.std.proofs.Common.{◌≡◌, ℕ, ◌+◌, ◌<◌, List, length, get_or, drop, map, Ok, ap, sym, subst, ◌∙◌}
use Rattle.std.proofs.lemmas.List.{at_drop_more, get_or-map, length-map}
use Rattle.chain_words.specs.Word.{Word}
use Rattle.chain_words.specs.Fault.{Reading, IsBadWord, then_read}
use Rattle.chain_words.specs.Draft.{turn}
use Rattle.chain_words.specs.Read.{scan}
use Rattle.chain_words.specs.declared.draft.Draft.{Draft}
use Rattle.chain_words.specs.declared.command.Command.{Command}
use Rattle.chain_words.specs.declared.fault.WordFault.{WordFault}
use Rattle.chain_words.specs.declared.fault.WordFault.TheVariants.{BadWord, NoMemory}

-- what is read after a bad word is that bad word
pub fails_then : {A B : Type 0} (reading : Reading A) (next : A → Reading B) (fault : WordFault) → IsBadWord reading fault → IsBadWord (then_read reading next) fault
fails_then reading next (BadWord index kind) is = ap (λ r. then_read r next) is
fails_then reading next NoMemory is = tt

-- the word at place `at` is read, and then the words behind it
pub scan_drop : {S : Type 0} (bytes : S → Word) (draft : Draft) (words : List S) (at : ℕ) (word : S) → at < length words → word ≡ get_or words at word → scan draft at (drop at (map bytes words)) ≡ then_read (turn draft at (bytes word)) (λ next. scan next (at + 1) (drop (at + 1) (map bytes words)))
scan_drop bytes draft words at word within is =
    let here : at < length (map bytes words) = simp length-map within in
    at_drop_more (scan draft at) (map bytes words) at (bytes word) here
    ∙ ap (λ w. then_read (turn draft at w) (λ next. scan next (at + 1) (drop (at + 1) (map bytes words)))) (get_or-map bytes words at word (bytes word) within ∙ ap bytes (sym is))

-- a bad word at place `at` is what the whole reading gives
pub scan_fails : {S : Type 0} (bytes : S → Word) (draft : Draft) (words : List S) (at : ℕ) (word : S) (whole : Reading Command) (fault : WordFault) → scan draft at (drop at (map bytes words)) ≡ whole → at < length words → word ≡ get_or words at word → IsBadWord (turn draft at (bytes word)) fault → IsBadWord whole fault
scan_fails bytes draft words at word whole fault is within here told =
    let P : Reading Command → Type 0 = λ reading. IsBadWord reading fault in
    subst P (sym (scan_drop bytes draft words at word within here) ∙ is) (fails_then (turn draft at (bytes word)) (λ next. scan next (at + 1) (drop (at + 1) (map bytes words))) fault told)

-- where the word at place `at` is read, the whole reading goes on behind it
pub scan_goes_on : {S : Type 0} (bytes : S → Word) (draft next : Draft) (words : List S) (at : ℕ) (word : S) (whole : Reading Command) → scan draft at (drop at (map bytes words)) ≡ whole → at < length words → word ≡ get_or words at word → turn draft at (bytes word) ≡ Ok next → scan next (at + 1) (drop (at + 1) (map bytes words)) ≡ whole
scan_goes_on bytes draft next words at word whole is within here told =
    sym (ap (λ r. then_read r (λ next. scan next (at + 1) (drop (at + 1) (map bytes words)))) told) ∙ sym (scan_drop bytes draft words at word within here) ∙ is
