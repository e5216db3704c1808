-- The set has the IRIs of the clauses so far.
use Rattle.std.proofs.Common.{◌≡◌, ℕ, List, take}
use Rattle.obo_to_owl.specs.inner.Known.{among, has, is_metadata_clause}
use Rattle.obo_to_owl.proofs.situation.metadata_of.Given as goal

abbrev pub invariant-loop-row : goal.invariant-loop-row
invariant-loop-row l = (x : List ℕ) → has l.metadata x ≡ among is_metadata_clause x (take l.row-index l.rows)
