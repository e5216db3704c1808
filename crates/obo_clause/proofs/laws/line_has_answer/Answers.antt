use Rattle.obo_clause.proofs.AnswerLemmas.{has-answer}
use Rattle.obo_clause.proofs.laws.line_has_answer.Goals as goal

pub returns : goal.returns
returns c = has-answer c.args.kind c.args.first c.args.line.now
