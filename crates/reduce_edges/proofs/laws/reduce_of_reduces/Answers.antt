use Rattle.reduce_edges.proofs.Going as lemmas
use Rattle.reduce_edges.proofs.laws.reduce_of_reduces.Goals as goal

pub returns : goal.returns
returns c = lemmas.reduce_of_reduces c.args.before.now c.args.keep_annotated
