use Rattle.locality_tables.proofs.Monotone as lemmas
use Rattle.locality_tables.proofs.laws.verdicts_stay.Goals as goal

pub returns : goal.returns
returns c = lemmas.verdicts_stay
