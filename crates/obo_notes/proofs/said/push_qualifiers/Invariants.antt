-- The annotations so far are those of the turns so far.
use Rattle.std.proofs.Common.{◌≡◌, ◌++◌, map, take}
use Rattle.obo_notes.specs.Keys.{side_of_qualifier}
use Rattle.obo_notes.proofs.said.push_qualifiers.Given as goal

abbrev pub invariant-loop-qualifier : goal.invariant-loop-qualifier
invariant-loop-qualifier l = l.sides.items ≡ l.fn.sides.items ++ map side_of_qualifier (take l.qualifier-index l.qualifiers)
