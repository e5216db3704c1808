use Rattle.obo_frames.proofs.FeedingLemmas.{feeders_join, runs_read_files}
use Rattle.obo_frames.proofs.laws.cutting_does_not_matter.Goals as goal

pub returns-clause-pieces : goal.returns-clause-pieces
returns-clause-pieces c = feeders_join

pub returns-clause-runs : goal.returns-clause-runs
returns-clause-runs c = runs_read_files
