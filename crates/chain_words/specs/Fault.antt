-- What is read from words: a value, or the bad word that comes first. (Own.)
use Rattle.std.specs.Prelude.{◌≡◌, ℕ, Result, Ok, Err}
use Rattle.chain_words.specs.declared.fault.WordKind.{WordKind}
use Rattle.chain_words.specs.declared.fault.WordFault.{WordFault}
use Rattle.chain_words.specs.declared.fault.WordFault.TheVariants.{BadWord, NoMemory}

-- a bad word: its index, counted from 0, and what is wrong with it
pub record Bad : Type 0 where
  pub index : ℕ
  pub kind : WordKind

-- a value, or a bad word
abbrev pub Reading : Type 0 → Type 0
Reading A = Result A Bad

-- this word is bad
abbrev pub bad : {A : Type 0} → ℕ → WordKind → Reading A
bad index kind = Err (record { index = index; kind = kind })

-- what is read after a value, where there is no bad word before
abbrev pub then_read : {A B : Type 0} → Reading A → (A → Reading B) → Reading B
then_read (Ok value) next = next value
then_read (Err fault) next = Err fault

-- an error that is a bad word is the one that is read
abbrev pub IsBadWord : {A : Type 0} → Reading A → WordFault → Type 0
IsBadWord reading (BadWord index kind) = reading ≡ bad index kind
IsBadWord reading NoMemory = Unit {0}
