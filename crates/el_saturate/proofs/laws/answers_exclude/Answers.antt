use Rattle.el_saturate.proofs.TableLemmas.{exclude}
use Rattle.el_saturate.proofs.laws.answers_exclude.Goals as goal

pub returns : goal.returns
returns c = exclude
