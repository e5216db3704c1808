-- The annotations so far are those of the clauses so far.
use Rattle.std.proofs.Common.{◌≡◌, take}
use Rattle.std.specs.List.{flat_map}
use Rattle.obo_statements.specs.Extras.{annotations_of}
use Rattle.obo_statements.proofs.group_meaning.all_annotations.Given as goal

abbrev pub invariant-loop-clause : goal.invariant-loop-clause
invariant-loop-clause l = l.sides.items ≡ flat_map (λ clause. annotations_of clause.now.qualifiers) (take l.clause-index l.clauses)
