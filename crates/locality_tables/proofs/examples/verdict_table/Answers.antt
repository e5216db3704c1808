use Rattle.locality_tables.proofs.Rows as lemmas
use Rattle.locality_tables.proofs.examples.verdict_table.Goals as goal

pub returns : goal.returns
returns c = lemmas.verdict_table
