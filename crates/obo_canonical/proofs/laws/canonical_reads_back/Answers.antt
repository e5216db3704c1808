use Rattle.obo_canonical.proofs.LawLemmas.{reads_back}
use Rattle.obo_canonical.proofs.laws.canonical_reads_back.Goals as goal

pub returns : goal.returns
returns c = reads_back
