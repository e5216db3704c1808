use Rattle.obo_clause.proofs.AnswerLemmas.{fails-one-way}
use Rattle.obo_clause.proofs.laws.line_fails_one_way.Goals as goal

pub returns : goal.returns
returns c = fails-one-way c.args.kind c.args.first c.args.line.now
