use Rattle.obo_canonical.proofs.LawLemmas.{settles}
use Rattle.obo_canonical.proofs.laws.canonising_twice_is_once.Goals as goal

pub returns : goal.returns
returns c = settles
