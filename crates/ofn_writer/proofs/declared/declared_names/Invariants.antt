use Rattle.std.proofs.Common.{◌≡◌, ℕ, List, take}
use Rattle.owl_axioms.specs.declared.name.Kind.{Kind}
use Rattle.owl_ontology.specs.Ontology.{axioms_of}
use Rattle.ofn_writer.specs.Kinds.{declared}
use Rattle.ofn_writer.specs.inner.Declared.{scope_in}
use Rattle.ofn_writer.proofs.declared.declared_names.Given as goal

abbrev pub invariant-loop-at : goal.invariant-loop-at
invariant-loop-at l = (k : Kind) (iri : List ℕ) → scope_in l.names l.properties.keys k iri ≡ declared (take l.at (axioms_of l.ontology.entries)) k iri
