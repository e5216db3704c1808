use Rattle.obo_normal_form.proofs.ProperOwl as law
use Rattle.obo_normal_form.proofs.laws.owl_is_spellable.Goals as goal

pub returns : goal.returns
returns c = law.owl_is_spellable
