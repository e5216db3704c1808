-- What the functions of this crate answer where a reading function is defined: parts of the line are lent, and memory may
-- run out. (Own.)
use Rattle.std.specs.Prelude.{◌≡◌, ℕ, List, Option, None, Some, Result, Ok, Err}
use Rattle.std.specs.Borrow.{Bor}
use Rattle.std.specs.Option.{option_map}
use Rattle.obo_clause.specs.declared.line.LineFault.{LineFault}
use Rattle.obo_clause.specs.declared.line.LineFault.TheVariants as fault
use Rattle.obo_clause.specs.declared.mark.MarkedByte.{MarkedByte}
use Rattle.obo_clause.specs.Reading.{Answer}

-- the answer is this one, but for want of memory
abbrev pub Gives : {A : Type 0} → Answer A → Result A LineFault → Type 0
Gives answer (Ok one) = answer ≡ Ok one
Gives answer (Err (fault.Syntax one)) = answer ≡ Err one
Gives answer (Err fault.NoMemory) = Unit {0}

-- the answer is this one, with a list that is lent, but for want of memory
abbrev pub GivesWith : {A : Type 0} → Answer (A × List MarkedByte) → Result (A × Bor (List MarkedByte)) LineFault → Type 0
GivesWith answer (Ok one) = answer ≡ Ok (one.0, one.1.now)
GivesWith answer (Err (fault.Syntax one)) = answer ≡ Err one
GivesWith answer (Err fault.NoMemory) = Unit {0}

-- this is found, with a list that is lent
abbrev pub FindsWith : {A : Type 0} → Option (A × List MarkedByte) → Option (A × Bor (List MarkedByte)) → Type 0
FindsWith answer None = answer ≡ None
FindsWith answer (Some one) = answer ≡ Some (one.0, one.1.now)

-- this is found, with bytes that are lent
abbrev pub FindsBytes : {A : Type 0} → Option (A × List ℕ) → Option (A × Bor (List ℕ)) → Type 0
FindsBytes answer None = answer ≡ None
FindsBytes answer (Some one) = answer ≡ Some (one.0, one.1.now)

-- the texts that two lent parts are
abbrev pub parts_lent : Option (Bor (List ℕ) × Bor (List ℕ)) → Option (List ℕ × List ℕ)
parts_lent lent = option_map (λ (parts : Bor (List ℕ) × Bor (List ℕ)). (parts.0.now, parts.1.now)) lent
