use Rattle.std.proofs.Common.{◌≡◌, ◌<◌, ap, arith, length, subst, sym, slice_set, take, ◌+◌, ◌∙◌}
use Rattle.fact_rows.proofs.Places.{in_from_get}
use Rattle.el_saturate.proofs.NumberLemmas.{numbers_next}
use Rattle.el_saturate.specs.inner.Numbers.{AreNumbers}
use Rattle.el_saturate.proofs.numbers.number_nodes.Goals as goal

pub set_number-requires : goal.set_number-requires
set_number-requires c =
    let within : c.occurs.result.place < c.args.count = c.requires.within c.occurs.result (in_from_get c.args.part.now.occurring c.loop-at.at c.occurs.result c.occurs.ensures) in
    let long : length c.loop-at.numbers.items ≡ c.args.count = c.loop-at.invariant.long in
    let is : c.place.result ≡ c.occurs.result.place = c.place.ensures in
    omega (arith, within, long, is)

pub loop-at-preserved : goal.loop-at-preserved
loop-at-preserved c =
    let next = numbers_next c.args.part.now.occurring c.args.count c.loop-at.numbers.items c.loop-at.at c.occurs.result c.occurs.ensures c.requires.once (c.requires.within c.occurs.result (in_from_get c.args.part.now.occurring c.loop-at.at c.occurs.result c.occurs.ensures)) c.loop-at.invariant in
    subst (AreNumbers (take (c.loop-at.at + 1) c.args.part.now.occurring) c.args.count) (sym (c.set_number.ensures ∙ ap (λ p. slice_set c.loop-at.numbers.items p c.loop-at.at) c.place.ensures)) next
