-- The settled qualifiers so far are those of the turns so far.
use Rattle.std.proofs.Common.{◌≡◌, map, take}
use Rattle.obo_mapping.specs.Documents.{settled_qualifier}
use Rattle.obo_canonical.proofs.settled.each_settled.Given as goal

abbrev pub invariant-loop-one : goal.invariant-loop-one
invariant-loop-one l = l.settled.items ≡ map settled_qualifier (take l.one-index l.qualifiers)
