use Rattle.plain_reasoning.proofs.Answers as lemmas
use Rattle.plain_reasoning.proofs.laws.reason_of_is_the_answer.Goals as goal

pub returns : goal.returns
returns c = lemmas.reason_of_is_the_answer
