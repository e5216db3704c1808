use Rattle.obo_normal_form.proofs.PrintedOrder as law
use Rattle.obo_normal_form.proofs.laws.norm_is_in_order.Goals as goal

pub returns : goal.returns
returns c = law.norm_is_in_order
