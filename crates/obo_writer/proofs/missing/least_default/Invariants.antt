-- The least of those that are left and of the one so far is the least of all.
use Rattle.std.proofs.Common.{◌≡◌, None, drop}
use Rattle.std.specs.List.{filter_map}
use Rattle.owl_ontology.specs.Ontology.{axioms_of}
use Rattle.obo_frames.specs.Naming.{least_text}
use Rattle.obo_mapping.specs.Documents.{default_in}
use Rattle.obo_writer.proofs.missing.least_default.Given as goal

abbrev pub invariant-loop-at : goal.invariant-loop-at
invariant-loop-at l = least_text l.least (filter_map default_in (drop l.at (axioms_of l.ontology.entries))) ≡ least_text None (filter_map default_in (axioms_of l.ontology.entries))
