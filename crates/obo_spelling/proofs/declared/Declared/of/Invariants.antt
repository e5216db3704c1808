-- The entities so far are those that the axioms of the turns so far declare.
use Rattle.std.proofs.Common.{take}
use Rattle.std.specs.List.{filter_map}
use Rattle.owl_ontology.specs.Ontology.{axioms_of}
use Rattle.text_sets.specs.Sets.{SameMembers}
use Rattle.obo_mapping.specs.Documents.{declared_in}
use Rattle.obo_spelling.proofs.declared.Declared.of.Given as goal

abbrev pub invariant-loop-at : goal.invariant-loop-at
invariant-loop-at l = SameMembers l.names.keys (filter_map declared_in (take l.at (axioms_of l.ontology.entries)))
