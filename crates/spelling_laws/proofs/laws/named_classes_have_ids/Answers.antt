use Rattle.spelling_laws.proofs.Named as laws
use Rattle.spelling_laws.proofs.laws.named_classes_have_ids.Goals as goal

pub returns : goal.returns
returns c = laws.named_classes_have_ids
