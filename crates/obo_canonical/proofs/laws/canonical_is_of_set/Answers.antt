use Rattle.obo_canonical.proofs.LawLemmas.{canonical_goes_by_set}
use Rattle.obo_canonical.proofs.laws.canonical_is_of_set.Goals as goal

pub returns : goal.returns
returns c = canonical_goes_by_set
