use Rattle.obo_canonical.proofs.LawLemmas.{norm_goes_by_set}
use Rattle.obo_canonical.proofs.laws.norm_is_of_set.Goals as goal

pub returns : goal.returns
returns c = norm_goes_by_set
