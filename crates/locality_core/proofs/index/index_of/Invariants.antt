use Rattle.locality_core.specs.inner.Renewal.{IsIndexTo}
use Rattle.locality_core.proofs.index.index_of.Given as goal

abbrev pub invariant-nodes : goal.invariant-nodes
invariant-nodes l = IsIndexTo l.pool l.at l.wholes l.uses
