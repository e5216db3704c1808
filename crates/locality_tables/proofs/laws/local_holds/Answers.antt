use Rattle.locality_tables.proofs.InFills as lemmas
use Rattle.locality_tables.proofs.laws.local_holds.Goals as goal

pub returns : goal.returns
returns c = lemmas.local_holds
