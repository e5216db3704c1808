use Rattle.reduce_edges.proofs.Entailed as lemmas
use Rattle.reduce_edges.proofs.laws.reach_entails.Goals as goal

pub returns : goal.returns
returns c = lemmas.reach_entails
