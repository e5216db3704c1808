use Rattle.locality_tables.proofs.LocalDepends as lemmas
use Rattle.locality_tables.proofs.laws.local_depends_on_names.Goals as goal

pub returns : goal.returns
returns c = lemmas.local_depends
