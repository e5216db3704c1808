-- The set has the names of the axioms so far.
use Rattle.std.proofs.Common.{◌≡◌, take}
use Rattle.std.specs.List.{filter_map, list_any}
use Rattle.owl_axioms.specs.declared.name.Name.{Name}
use Rattle.owl_ontology.specs.Ontology.{axioms_of}
use Rattle.obo_mapping.specs.Documents.{is_namespace}
use Rattle.obo_writer.specs.inner.Missing.{has_name, name_eq}
use Rattle.obo_writer.proofs.missing.spaced_names.Given as goal

abbrev pub invariant-loop-at : goal.invariant-loop-at
invariant-loop-at l = (x : Name) → has_name l.names x ≡ list_any (name_eq x) (filter_map is_namespace (take l.at (axioms_of l.ontology.entries)))
