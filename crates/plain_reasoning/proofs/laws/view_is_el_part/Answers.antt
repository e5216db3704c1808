use Rattle.plain_reasoning.proofs.Occurring as lemmas
use Rattle.plain_reasoning.proofs.laws.view_is_el_part.Goals as goal

pub returns : goal.returns
returns c = lemmas.view_is_el_part
