-- An extract leaves what is shipped with the part that its method chooses, and there is a flag for each axiom.
use Rattle.std.proofs.Common.{refl, ◌∙◌}
use Rattle.owl_axioms.specs.Signature.{scope_of}
use Rattle.owl_ontology.specs.Ontology.{axioms_of}
use Rattle.extract_step.specs.Extract.{chosen, extracted}
use Rattle.extract_step.proofs.Keeping.{chosen_long}
use Rattle.step_spelling.specs.Laws.{ExtractingKeepsSpelling}
use Rattle.step_spelling.proofs.Flagged.{axioms_of-length}
use Rattle.step_spelling.proofs.Shipping.{shipping_keeps_spelling}

pub extracting_keeps_spelling : ExtractingKeepsSpelling
unfolding extracted
extracting_keeps_spelling before method seed spellable =
    let scope = scope_of seed.sig in
    let axioms = axioms_of before.entries in
    shipping_keeps_spelling before (extracted method seed before) scope (chosen method scope axioms).0
    (record { long = chosen_long method scope axioms ∙ axioms_of-length before.entries; is = refl }) spellable
