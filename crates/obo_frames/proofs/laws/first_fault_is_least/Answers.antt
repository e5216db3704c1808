use Rattle.obo_frames.proofs.FaultLemmas.{first_is_least}
use Rattle.obo_frames.proofs.laws.first_fault_is_least.Goals as goal

pub returns : goal.returns
returns c = first_is_least
