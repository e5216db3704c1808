-- The set has the IRIs of the clauses so far.
use Rattle.std.proofs.Common.{◌≡◌, ℕ, List, take}
use Rattle.obo_statements.specs.Groups.{group_meant}
use Rattle.obo_to_owl.specs.inner.Known.{among, has, has_misfit}
use Rattle.obo_to_owl.proofs.situation.broken_of.Given as goal

abbrev pub invariant-loop-row : goal.invariant-loop-row
invariant-loop-row l = (x : List ℕ) → has l.broken x ≡ among (has_misfit (group_meant l.group)) x (take l.row-index l.rows)
