-- Words that ask for a chain begin with `merge`.
use Rattle.std.proofs.Common.{◌≡◌, List, [], ◌∷◌, length, Bool, true, false, cond, ltb, Option, Some, Ok, ap, sym, subst, refl}
use Rattle.std.specs.Cmp.Lexicographic.{bytes_decides}
use Rattle.std.specs.List.{find}
use Rattle.chain_words.specs.Word.{Word, same}
use Rattle.chain_words.specs.Table.{command_of, command_word, command_words}
use Rattle.chain_words.specs.Read.{all_words, begun_by, chain}
use Rattle.chain_words.specs.Laws.{BeginsWithMerge}
use Rattle.chain_words.specs.declared.table.CommandWord.{CommandWord}
use Rattle.chain_words.specs.declared.table.CommandWord.TheVariants as command
use Rattle.chain_words.specs.declared.command.Chain.{Chain}
use Rattle.chain_words.specs.declared.command.Command.{Command}
use Rattle.chain_words.specs.declared.command.Command.TheVariants.{Run, Generate}
use Rattle.chain_words.proofs.Accepted.{generated_keeps, ok_not, ok_unless}

-- what a search finds passes its test
pub find_passes : {A : Type 0} (p : A → Bool) (xs : List A) (x : A) → find p xs ≡ Some x → p x ≡ true
find_passes p [] x is = absurd cc
find_passes p (y ∷ ys) x is = by_test (p y) refl (find_passes p ys x) is
  where
    by_test : (b : Bool) → p y ≡ b → (find p ys ≡ Some x → p x ≡ true) → cond b (Some y) (find p ys) ≡ Some x → p x ≡ true
    by_test true here later is = let e : y ≡ x = cc in subst (λ z. p z ≡ true) e here
    by_test false here later is = later is

-- no chain
abbrev no_chain : Command → Type 0
no_chain (Run told) = ⊥
no_chain (Generate size) = Unit {0}

-- words that ask for a chain begin with `merge`
pub begins_with_merge : (words : List Word) (told : Chain) → chain words ≡ Ok (Run told) → BeginsWithMerge words
begins_with_merge [] told is = ok_not _ (Run told) is
begins_with_merge (first ∷ rest) told is = by_first (command_of first) refl (ok_unless (ltb 1024 (length (first ∷ rest))) (all_words (first ∷ rest)) (Run told) _ is).1
  where
    by_first : (found : Option CommandWord) → command_of first ≡ found → begun_by found rest ≡ Ok (Run told) → BeginsWithMerge (first ∷ rest)
    by_first (Some command.Merge) named is = (rest, ap (λ word. word ∷ rest) (sym ((bytes_decides (command_word command.Merge) first).0 (find_passes (λ value. same (command_word value) first) command_words command.Merge named))))
    by_first (Some command.Generate) named is = absurd (generated_keeps no_chain rest (Run told) (λ word size named. tt) is)
    by_first other named is = ok_not _ (Run told) is
