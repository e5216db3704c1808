use Rattle.std.proofs.Common.{◌<◌, arith, sym, ◌∙◌, if◌then◌else◌, length}
use Rattle.owl_axioms.specs.Names.{body_names, names_of}
use Rattle.owl_axioms.specs.Signature.{added}
use Rattle.owl_axioms.proofs.Adding.{get_from_read}
use Rattle.owl_ontology.specs.Ontology.{axioms_of}
use Rattle.module_extract.proofs.Shipping.{names_next}
use Rattle.module_extract.proofs.ships.names_with.Goals as goal

pub loop-at-init : goal.loop-at-init
unfolding added names_of
loop-at-init c = c.in_ok-names.ensures

pub loop-at-preserved : goal.loop-at-preserved
loop-at-preserved c =
    let flags = c.args.kept.now.items in
    let all = axioms_of c.args.ontology.now.entries in
    let within : c.loop-at.at < length flags = omega (arith, c.loop-at-test.true, c.len-at-end.ensures.len, c.requires) in
    let flag = get_from_read flags c.loop-at.at c.index.result.now within c.index.ensures in
    let names = c.loop-at.invariant in
    c.in_ok-add_if.ensures ∙ (λ i. if c.index.result.now then added (names i) (body_names c.get.result.now.body) else names i) ∙ sym (names_next c.args.sig.now flags all c.loop-at.at c.index.result.now c.get.result.now flag c.get.ensures.found)
