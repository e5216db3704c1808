-- The set has the names of the clauses so far.
use Rattle.std.proofs.Common.{◌≡◌, take}
use Rattle.std.specs.List.{filter_map, list_any}
use Rattle.owl_axioms.specs.declared.name.Name.{Name}
use Rattle.obo_to_owl.specs.inner.Spacing.{has_name, name_eq, name_kept}
use Rattle.obo_to_owl.proofs.names.kept_names.Given as goal

abbrev pub invariant-loop-row : goal.invariant-loop-row
invariant-loop-row l = (x : Name) → has_name l.names x ≡ list_any (name_eq x) (filter_map (name_kept l.situation) (take l.row-index l.left))
