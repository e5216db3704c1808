-- The flags so far are those of the clauses so far.
use Rattle.std.proofs.Common.{◌≡◌, map, take}
use Rattle.obo_to_owl.specs.inner.Left.{is_left}
use Rattle.obo_to_owl.proofs.flags.each_flag.Given as goal

abbrev pub invariant-loop-row : goal.invariant-loop-row
invariant-loop-row l = l.flags.items ≡ map (is_left l.situation) (take l.row-index l.rows)
