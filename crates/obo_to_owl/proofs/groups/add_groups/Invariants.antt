-- The axioms of the groups so far are added.
use Rattle.std.proofs.Common.{take}
use Rattle.std.specs.List.{flat_map}
use Rattle.obo_statements.specs.Groups.{group_meant}
use Rattle.obo_to_owl.specs.inner.Adding.{AreAdded}
use Rattle.obo_to_owl.specs.inner.Grouping.{group_entries}
use Rattle.obo_to_owl.proofs.groups.add_groups.Given as goal

abbrev pub invariant-loop-at : goal.invariant-loop-at
invariant-loop-at l = AreAdded l.fn.ontology l.ontology (flat_map (group_entries l.space l.file (group_meant l.group)) (take l.at l.groups.entries))
