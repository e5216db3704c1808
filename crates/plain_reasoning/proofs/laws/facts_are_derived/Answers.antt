use Rattle.plain_reasoning.proofs.Facts as lemmas
use Rattle.plain_reasoning.proofs.laws.facts_are_derived.Goals as goal

pub returns : goal.returns
returns c = lemmas.facts_are_derived
