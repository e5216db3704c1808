use Rattle.locality_tables.proofs.InFills as lemmas
use Rattle.locality_tables.proofs.laws.verdicts_hold.Goals as goal

pub returns : goal.returns
returns c = lemmas.verdicts_hold
