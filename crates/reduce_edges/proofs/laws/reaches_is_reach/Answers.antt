use Rattle.reduce_edges.proofs.Going as lemmas
use Rattle.reduce_edges.proofs.laws.reaches_is_reach.Goals as goal

pub returns : goal.returns
returns c = lemmas.reaches_is_reach
