use Rattle.std.proofs.Common.{◌<◌, ◌++◌, [], ◌∷◌, arith, sym, ◌∙◌, length}
use Rattle.owl_axioms.specs.Signature.{scope_of}
use Rattle.owl_axioms.proofs.Adding.{get_from_read}
use Rattle.owl_ontology.specs.Ontology.{axioms_of}
use Rattle.module_extract.proofs.Shipping.{ships_next}
use Rattle.module_extract.proofs.ships.flags_in.Goals as goal

pub loop-at-preserved : goal.loop-at-preserved
loop-at-preserved c =
    let flags = c.args.kept.now.items in
    let all = axioms_of c.args.ontology.now.entries in
    let within : c.loop-at.at < length flags = omega (arith, c.loop-at-test.true, c.len-at-end.ensures.len, c.requires) in
    let flag = get_from_read flags c.loop-at.at c.index.result.now within c.index.ensures in
    c.in_ok-push.ensures.items ∙ (λ i. c.loop-at.invariant i ++ c.ships.ensures i ∷ []) ∙ sym (ships_next (scope_of c.args.names.now) all flags c.loop-at.at c.get.result.now c.index.result.now c.get.ensures.found flag)
