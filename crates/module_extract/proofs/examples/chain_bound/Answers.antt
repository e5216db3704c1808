use Rattle.module_extract.proofs.Chain as lemmas
use Rattle.module_extract.proofs.examples.chain_bound.Goals as goal

pub returns : goal.returns
returns c = lemmas.chain_bound
