-- What the clauses so far say is added.
use Rattle.std.proofs.Common.{take}
use Rattle.std.specs.List.{flat_map}
use Rattle.obo_to_owl.specs.inner.Adding.{AreAdded, entries_said}
use Rattle.obo_to_owl.proofs.clauses.add_clauses.Given as goal

abbrev pub invariant-loop-row : goal.invariant-loop-row
invariant-loop-row l = AreAdded l.fn.ontology l.ontology (flat_map (entries_said l.space l.file l.situation) (take l.row-index l.rows))
