use Rattle.std.proofs.Common.{ℕ, subst, sym, arith, refl, slice_get}
use Rattle.fact_rows.specs.Member.{In}
use Rattle.fact_rows.specs.Rows.{row}
use Rattle.el_numbers.specs.inner.Fits.{Fits}
use Rattle.el_numbers.proofs.ProperLemmas.{proper}
use Rattle.el_numbers.proofs.tests.proper.is_proper.Goals as goal

pub returns : goal.returns
returns c = λ t.
    let n = c.len-size.result in
    let part = c.args.part.now in
    proper part n (omega arith) (let s = c.if-size.false in omega arith) (let s = c.if-size-lt2.false in omega arith) (let s = c.if-len-size.false in omega arith)
    (λ a l. subst (λ z. Fits n (slice_get z a) (row part.operands.items a)) c.deref.ensures.value (subst (λ z. Fits n (slice_get c.deref.result.now a) (row z a)) c.deref-2.ensures.value (c.if-not-all_fit.ensures refl a l)))
    (λ d e i. c.if-not-pairs_are_below.ensures refl d e (subst (In {A = ℕ × ℕ} (d, e)) (sym c.deref-3.ensures.value) i))
    (λ d e i. c.if-not-pairs_are_below-2.ensures refl d e (subst (In {A = ℕ × ℕ} (d, e)) (sym c.deref-4.ensures.value) i))
    (λ r s i. c.if-not-pairs_are_below-3.ensures refl r s (subst (In {A = ℕ × ℕ} (r, s)) (sym c.deref-5.ensures.value) i))
    (λ r s u i. c.if-not-triples_are_below.ensures refl r s u (subst (In (r, s, u)) (sym c.deref-6.ensures.value) i))
    (λ r e i. c.pairs_are_below-4.ensures t r e (subst (In {A = ℕ × ℕ} (r, e)) (sym c.deref-7.ensures.value) i))
