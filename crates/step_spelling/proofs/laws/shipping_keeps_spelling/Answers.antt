use Rattle.step_spelling.proofs.Shipping as laws
use Rattle.step_spelling.proofs.laws.shipping_keeps_spelling.Goals as goal

pub returns : goal.returns
returns c = laws.shipping_keeps_spelling
