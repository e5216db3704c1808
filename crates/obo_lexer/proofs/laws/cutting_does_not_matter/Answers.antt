use Rattle.obo_lexer.proofs.LawLemmas.{pieces_join, runs_give_lines}
use Rattle.obo_lexer.proofs.laws.cutting_does_not_matter.Goals as goal

pub returns-clause-pieces : goal.returns-clause-pieces
returns-clause-pieces c = pieces_join

pub returns-clause-runs : goal.returns-clause-runs
returns-clause-runs c = runs_give_lines
