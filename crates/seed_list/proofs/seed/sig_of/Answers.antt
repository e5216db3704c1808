use Rattle.std.proofs.Common.{ap, length, refl, sym, ◌∙◌}
use Rattle.std.proofs.lemmas.Option.{slice_get_read}
use Rattle.owl_axioms.specs.Signature.{added, no_names}
use Rattle.owl_axioms.proofs.Adding.{added_next}
use Rattle.seed_list.specs.Seed.{names_of}
use Rattle.seed_list.proofs.seed.sig_of.Goals as goal

pub loop-iri-init : goal.loop-iri-init
unfolding added
loop-iri-init c = c.in_ok-sig.ensures

pub loop-iri-preserved : goal.loop-iri-preserved
loop-iri-preserved c =
    let iris = c.args.iris.now in
    let i = c.loop-iri.iri-index in
    let iri = c.iri-item.result in
    let here = slice_get_read iris (length iris) i iri refl c.loop-iri-test.true c.iri-item.is in
    c.in_ok-add_names.ensures
    ∙ ap (λ sig. added sig (names_of iri)) c.loop-iri.invariant
    ∙ sym (added_next names_of no_names iris i iri here)
