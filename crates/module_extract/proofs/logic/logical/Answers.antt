use Rattle.std.proofs.Common.{◌++◌, [], ◌∷◌, sym, ◌∙◌}
use Rattle.owl_ontology.specs.Ontology.{axioms_of}
use Rattle.owl_sem.specs.Models.{is_logical}
use Rattle.module_extract.proofs.Counting.{map_next}
use Rattle.module_extract.proofs.logic.logical.Goals as goal

pub loop-at-preserved : goal.loop-at-preserved
loop-at-preserved c = c.in_ok-push.ensures.items ∙ (λ i. c.loop-at.invariant i ++ c.is_logical.ensures i ∷ []) ∙ sym (map_next (λ a. is_logical a.body) (axioms_of c.args.ontology.now.entries) c.loop-at.at c.get.result.now c.get.ensures.found)
