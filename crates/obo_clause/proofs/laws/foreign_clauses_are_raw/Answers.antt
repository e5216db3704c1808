use Rattle.obo_clause.proofs.ForeignLemmas.{foreign_if_raw}
use Rattle.obo_clause.proofs.laws.foreign_clauses_are_raw.Goals as goal

pub returns : goal.returns
returns c kind first spelled = foreign_if_raw kind first c.args.clause.now spelled
