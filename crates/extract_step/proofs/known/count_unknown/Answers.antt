use Rattle.std.proofs.Common.{◌+◌, arith, length, refl, sym, ◌∙◌}
use Rattle.std.proofs.lemmas.Option.{slice_get_read}
use Rattle.extract_step.specs.Known.{has_iri}
use Rattle.owl_axioms.specs.Signature.{scope_of}
use Rattle.extract_step.proofs.Knowing.{missing_first, missing_next}
use Rattle.extract_step.proofs.known.count_unknown.Goals as goal

pub overflow_add-count : goal.overflow_add-count
overflow_add-count c =
    let iris = c.args.iris.now in
    let at = slice_get_read iris (length iris) c.loop-at.at c.index-iris-at.result refl c.loop-at-test.true c.index-iris-at.is in
    let most = missing_first (has_iri (scope_of c.args.names.now)) iris c.loop-at.at c.index-iris-at.result at in
    omega (arith, most, c.loop-at.invariant, c.one_without-count.ensures, c.loop-at.auto.at-end)

pub loop-at-preserved : goal.loop-at-preserved
loop-at-preserved c =
    let iris = c.args.iris.now in
    let at = slice_get_read iris (length iris) c.loop-at.at c.index-iris-at.result refl c.loop-at-test.true c.index-iris-at.is in
    (λ i. c.loop-at.invariant i + c.one_without-count.ensures i) ∙ sym (missing_next (has_iri (scope_of c.args.names.now)) iris c.loop-at.at c.index-iris-at.result at)
