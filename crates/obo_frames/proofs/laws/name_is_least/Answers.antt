use Rattle.obo_frames.proofs.SameLemmas.{name_is_least}
use Rattle.obo_frames.proofs.laws.name_is_least.Goals as goal

pub returns : goal.returns
returns c = name_is_least
