use Rattle.reduce_edges.proofs.Going as lemmas
use Rattle.reduce_edges.proofs.laws.goes_is_goes.Goals as goal

pub returns : goal.returns
returns c = lemmas.goes_is_goes
