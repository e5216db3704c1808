-- The names so far are those of the axioms so far.
use Rattle.std.proofs.Common.{◌≡◌, not, take}
use Rattle.std.specs.List.{filter_map}
use Rattle.std.specs.Prelude.{filter}
use Rattle.owl_ontology.specs.Ontology.{axioms_of}
use Rattle.obo_mapping.specs.Documents.{declared_in}
use Rattle.obo_writer.specs.inner.Missing.{has_name}
use Rattle.obo_writer.proofs.missing.names_without.Given as goal

abbrev pub invariant-loop-at : goal.invariant-loop-at
invariant-loop-at l = l.names.items ≡ filter (λ name. not (has_name l.spaced name)) (filter_map declared_in (take l.at (axioms_of l.ontology.entries)))
