use Rattle.obo_frames.proofs.SameLemmas.{goes_by_clauses}
use Rattle.obo_frames.proofs.laws.clauses_are_a_set.Goals as goal

pub returns : goal.returns
returns c = goes_by_clauses
