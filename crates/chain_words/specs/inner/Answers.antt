-- What the answers of single functions say of what is read. (Own.)
use Rattle.std.specs.Prelude.{◌≡◌, Option, Some, None, Result, Ok, Err}
use Rattle.chain_words.specs.Fault.{Bad, IsBadWord, Reading}
use Rattle.chain_words.specs.declared.fault.WordFault.{WordFault}
use Rattle.chain_words.specs.declared.fault.WordFault.TheVariants.{BadWord, NoMemory}

-- an answer is what is read, or memory ran out
abbrev pub Answers : {A : Type 0} → Reading A → Result A WordFault → Type 0
Answers reading (Ok value) = reading ≡ Ok value
Answers reading (Err fault) = IsBadWord reading fault

-- an answer is this bad word, or there is none
abbrev pub Tells : Option Bad → Option WordFault → Type 0
Tells reading None = reading ≡ None
Tells reading (Some (BadWord index kind)) = reading ≡ Some (record { index = index; kind = kind })
Tells reading (Some NoMemory) = ⊥
