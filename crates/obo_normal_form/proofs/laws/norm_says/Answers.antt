use Rattle.obo_normal_form.proofs.NormFacts as law
use Rattle.obo_normal_form.proofs.laws.norm_says.Goals as goal

pub returns : goal.returns
returns c = law.norm_says
