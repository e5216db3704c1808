use Rattle.obo_clause.proofs.AnswerLemmas.{says-one-thing, spells-one-clause}
use Rattle.obo_clause.proofs.laws.line_says_one_thing.Goals as goal

pub returns-clause-says : goal.returns-clause-says
returns-clause-says c = says-one-thing c.args.kind c.args.first c.args.line.now

pub returns-clause-spells : goal.returns-clause-spells
returns-clause-spells c = spells-one-clause c.args.kind c.args.first c.args.line.now
