-- The ontology and the notes so far are those of the files so far, and the ontology can be written.
use Rattle.std.proofs.Common.{◌≡◌, map, take}
use Rattle.owl_ontology.specs.Ontology.{axioms_of}
use Rattle.obo_mapping.specs.Back.{IsSpellable}
use Rattle.import_merge.specs.Merged.{IsMerged}
use Rattle.import_merge.specs.Notes.{file_note}
use Rattle.import_merge.proofs.loading.merged.Given as goal

abbrev pub invariant-loop-place : goal.invariant-loop-place
invariant-loop-place l = record {
  ontology : IsMerged (take l.place l.sources) l.ontology;
  files : l.files.items ≡ map file_note (take l.place l.sources);
  spelling : IsSpellable l.ontology.name (axioms_of l.ontology.entries);
}
