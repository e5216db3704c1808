-- The status of the process. (Own.)
use Rattle.std.specs.Prelude.{◌≡◌, ℕ, List, Option}
use Rattle.chain_words.specs.Word.{Word}
use Rattle.release_chain.specs.Release.{Complete, Counts, ErrEnds, NothingElse, OutEnds, Outside, Released, Stops, WordsRefused}
use Rattle.release_chain.specs.Status.{status_of_ending}
use Rattle.release_report.specs.declared.fault.Fault.{Fault}

-- the status is that of an ending of these words, which says all that the ending of a run says
pub record EndsWith (words : List Word) (before : Outside) (status : ℕ) (now : Outside) : Type 0 where
  pub fault : Option Fault
  pub is_status : status ≡ status_of_ending fault
  pub released : Released words before fault now
  pub nothing_else : NothingElse words before fault now
  pub counts : Counts fault before now
  pub stops : Stops words before fault now
  pub complete : Complete words before fault now
  pub refused : WordsRefused words before fault now
  pub out : OutEnds words before fault now
  pub err : ErrEnds before fault now
