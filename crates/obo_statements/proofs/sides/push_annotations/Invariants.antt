-- The annotations so far are those of the qualifiers so far.
use Rattle.std.proofs.Common.{◌≡◌, ◌++◌, take}
use Rattle.std.specs.List.{flat_map}
use Rattle.obo_statements.specs.inner.Sides.{annotation_of}
use Rattle.obo_statements.proofs.sides.push_annotations.Given as goal

abbrev pub invariant-loop-qualifier : goal.invariant-loop-qualifier
invariant-loop-qualifier l = l.sides.items ≡ l.fn.sides.items ++ flat_map annotation_of (take l.qualifier-index l.qualifiers)
