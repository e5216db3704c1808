use Rattle.obo_clause.proofs.AnswerLemmas.{never-both}
use Rattle.obo_clause.proofs.laws.line_never_says_and_fails.Goals as goal

pub returns : goal.returns
returns c = never-both c.args.kind c.args.first c.args.line.now
