use Rattle.spelling_laws.proofs.Gathering as laws
use Rattle.spelling_laws.proofs.laws.spellable_is_of_set.Goals as goal

pub returns : goal.returns
returns c = laws.spellable_is_of_set
