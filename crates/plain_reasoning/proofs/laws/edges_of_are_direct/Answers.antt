use Rattle.plain_reasoning.proofs.Edges as lemmas
use Rattle.plain_reasoning.proofs.laws.edges_of_are_direct.Goals as goal

pub returns : goal.returns
returns c = lemmas.edges_of_are_direct
