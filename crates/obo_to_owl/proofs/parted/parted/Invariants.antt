-- The parts so far are those of the clauses so far.
use Rattle.std.proofs.Common.{◌≡◌, not, take}
use Rattle.std.specs.Prelude.{filter}
use Rattle.obo_to_owl.specs.inner.Left.{is_left}
use Rattle.obo_to_owl.proofs.parted.parted.Given as goal

abbrev pub invariant-loop-row : goal.invariant-loop-row
invariant-loop-row l = record {
  translated : l.translated.items ≡ filter (λ row. not (is_left l.situation row)) (take l.row-index l.rows);
  left : l.left.items ≡ filter (is_left l.situation) (take l.row-index l.rows);
}
