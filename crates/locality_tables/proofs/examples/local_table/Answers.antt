use Rattle.locality_tables.proofs.Rows as lemmas
use Rattle.locality_tables.proofs.examples.local_table.Goals as goal

pub returns : goal.returns
returns c = lemmas.local_table
