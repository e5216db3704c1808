use Rattle.obo_normal_form.proofs.ShortGroups as law
use Rattle.obo_normal_form.proofs.laws.norm_is_sound.Goals as goal

pub returns : goal.returns
returns c = law.norm_is_sound
