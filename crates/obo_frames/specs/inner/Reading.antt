-- What holds of a file that is read up to some byte. Only private functions and proofs speak of it. (Own.)
use Rattle.std.specs.Prelude.{◌≡◌, ◌⊎◌, ℕ, false, List, Result, Ok, Err}
use Rattle.obo_lexer.specs.declared.line.LineItem.{LineItem}
use Rattle.obo_frames.specs.Feeding.{Midway, read_piece, untouched}
use Rattle.obo_frames.specs.Telling.{BodyFails}
use Rattle.obo_frames.specs.declared.fault.DocFault.{DocFault}
use Rattle.obo_frames.specs.declared.fault.DocFault.TheVariants as fault
use Rattle.obo_frames.specs.declared.told.Place.{Place}

-- the fault is the line's, or want of memory
abbrev pub IsItemFault : Place → LineItem → DocFault → Type 0
IsItemFault place item one = BodyFails place item.number item.body one ⊎ (one ≡ fault.NoMemory)

-- it was come to from the start of a file, by some bytes
pub record IsComeTo (midway : Midway) : Type 0 where
  pub limit : ℕ
  pub bytes : List ℕ
  pub comes : read_piece (untouched limit) bytes ≡ Ok midway

-- the end of the file is not told yet, no memory was wanting, and some bytes were read from the start on; which they were
-- is not remembered
pub record IsUnderWay (midway : Midway) : Type 0 where
  pub unfinished : midway.lines.is_finished ≡ false
  pub whole : midway.lines.is_spent ≡ false
  pub come_to : ∥ IsComeTo midway ∥₁

-- how many bytes were read
abbrev pub fed_so_far : Result Midway DocFault → ℕ
fed_so_far (Ok midway) = midway.lines.fed
fed_so_far (Err one) = 0
