use Rattle.std.proofs.Common.{◌≡◌, Some, ap, slice_get, sym, ◌∙◌, option_copied}
use Rattle.owl_axioms.proofs.Signatures.{copied_next}
use Rattle.owl_axioms.proofs.sig.copy_set.Goals as goal

pub loop-at-preserved : goal.loop-at-preserved
loop-at-preserved c =
    let here : slice_get c.args.set.now.keys c.loop-at.at ≡ Some c.in_ok-copied.copied =
    sym c.get_index.ensures.key ∙ ap option_copied c.unwrap-iri.ensures ∙ ap Some (sym c.in_ok-copied.ensures) in
    c.in_ok-put.ensures.keys ∙ copied_next c.args.set.now.keys c.loop-at.twin.keys c.loop-at.at c.in_ok-copied.copied c.len-at-end.ensures.unique here c.loop-at.invariant
