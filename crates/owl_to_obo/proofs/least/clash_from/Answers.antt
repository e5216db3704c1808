use Rattle.std.proofs.Common.{Some, map, sym, ◌∙◌}
use Rattle.owl_to_obo.specs.Clashes.{given_meant}
use Rattle.owl_to_obo.specs.inner.Clashing.{clash_from}
use Rattle.owl_to_obo.proofs.ScanLemmas.{scan_found}
use Rattle.owl_to_obo.proofs.least.clash_from.Goals as goal

pub returns-then-clash : goal.returns-then-clash
returns-then-clash c =
    (λ i. Some (record { first = given_meant (c.in_ok-both.ensures.0 i); second = given_meant (c.in_ok-both.ensures.1 i) }))
    ∙ scan_found c.loop-next.start.now c.next-item.result c.args.others.now c.loop-next.next-index (clash_from (given_meant c.args.first.now) (map given_meant c.args.others.now)) c.loop-next-test.true c.next-item.is (sym c.clash.ensures ∙ c.if-clash.true) c.loop-next.invariant
