use Rattle.locality_tables.proofs.FillLaws as lemmas
use Rattle.locality_tables.proofs.laws.fills_names.Goals as goal

pub returns : goal.returns
returns c = lemmas.fills_names
