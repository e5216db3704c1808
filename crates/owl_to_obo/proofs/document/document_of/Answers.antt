-- The clauses are those of a document.
use Rattle.owl_ontology.specs.Ontology.{axioms_of}
use Rattle.owl_to_obo.proofs.BackKept.{back_kept}
use Rattle.owl_to_obo.proofs.document.document_of.Goals as goal

pub of-requires : goal.of-requires
of-requires c = ∣ back_kept c.args.ontology.now.name (axioms_of c.args.ontology.now.entries) c.requires.spellable c.requires.told c.in_ok-placed.placed.items c.in_ok-placed.ensures ∣₁
