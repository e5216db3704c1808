-- The rows so far are the clauses so far.
use Rattle.std.proofs.Common.{◌≡◌, map, take}
use Rattle.obo_to_owl.specs.inner.Rows.{AreRead, clause_of}
use Rattle.obo_to_owl.proofs.rows.rows_of.Given as goal

abbrev pub invariant-loop-at : goal.invariant-loop-at
invariant-loop-at l = record {
  clauses : map clause_of l.rows.items ≡ take l.at l.placed;
  read : AreRead l.space l.rows.items;
}
