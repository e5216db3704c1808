use Rattle.std.proofs.Common.{◌≡◌, false, sym, ap, ◌∙◌, inl, inr, refl, arith}
use Rattle.owl_axioms.specs.Signature.{scope_of}
use Rattle.locality_core.proofs.Renewing.{count_sunk, unknown_is}
use Rattle.locality_core.proofs.Turns.{row_is}
use Rattle.locality_core.specs.inner.Renewal.{is_unknown, known_at}
use Rattle.locality_core.proofs.renewal.turn.Goals as goal

pub returns-then-is_unknown-clause-turn : goal.returns-then-is_unknown-clause-turn
returns-then-is_unknown-clause-turn g c =
    let here = c.known-before.ensures ∙ (λ i. known_at (c.as_slice.ensures.value i) (c.at-node.ensures i)) in
    (inl (sym here ∙ unknown_is c.known-before.result (sym c.is_unknown.ensures ∙ c.if-is_unknown.true)), refl, refl)

pub returns-then-not-is_unknown-clause-turn : goal.returns-then-not-is_unknown-clause-turn
returns-then-not-is_unknown-clause-turn g c =
    let row = row_is g.L.Locality.CLASSES g.L.Locality.ROLES (scope_of c.args.sig.now) c.args.pool.now c.len-count.ensures.different c.args.found.now.items c.as_slice-2.result.now c.at-node.result c.args.at c.renewed-row.result c.as_slice-2.ensures.value c.at-node.ensures c.renewed-row.ensures in
    (inr (ap is_unknown (sym row) ∙ sym c.is_unknown-2.ensures ∙ c.if-not-is_unknown.true), refl, refl)

pub push_reserved-requires : goal.push_reserved-requires
push_reserved-requires g c =
    let here = c.known-before.ensures ∙ (λ i. known_at (c.as_slice.ensures.value i) (c.at-node.ensures i)) in
    let known : is_unknown (known_at c.args.found.now.items c.args.at) ≡ false = ap is_unknown (sym here) ∙ sym c.is_unknown.ensures ∙ c.if-is_unknown.false in
    let e = count_sunk c.args.found.now.items c.args.at known in
    let w = c.args.waiting.now in
    omega (arith, w.ok, c.requires.room, e)

pub returns-clause-turn : goal.returns-clause-turn
returns-clause-turn g c =
    let here = c.known-before.ensures ∙ (λ i. known_at (c.as_slice.ensures.value i) (c.at-node.ensures i)) in
    let row = row_is g.L.Locality.CLASSES g.L.Locality.ROLES (scope_of c.args.sig.now) c.args.pool.now c.len-count.ensures.different c.args.found.now.items c.as_slice-2.result.now c.at-node.result c.args.at c.renewed-row.result c.as_slice-2.ensures.value c.at-node.ensures c.renewed-row.ensures in (
      ap is_unknown (sym here) ∙ sym c.is_unknown.ensures ∙ c.if-is_unknown.false,
      sym row ∙ unknown_is c.renewed-row.result (sym c.is_unknown-2.ensures ∙ c.if-not-is_unknown.false),
      refl,
      c.push_reserved.ensures.items,
    )
