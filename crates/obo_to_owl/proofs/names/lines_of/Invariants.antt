-- The lines so far are those of the clauses so far.
use Rattle.std.proofs.Common.{◌≡◌, None, take}
use Rattle.std.specs.List.{filter_map}
use Rattle.owl_axioms.specs.declared.name.Name.{Name}
use Rattle.obo_to_owl.specs.inner.Spacing.{least_onto, line_for, line_in}
use Rattle.obo_to_owl.proofs.names.lines_of.Given as goal

abbrev pub invariant-loop-row : goal.invariant-loop-row
invariant-loop-row l = (x : Name) → line_in l.lines x ≡ least_onto None (filter_map (line_for l.situation x) (take l.row-index l.rows))
