use Rattle.std.proofs.Common.{subst, refl}
use Rattle.std.proofs.lemmas.Result.{err_from_is_err_and}
use Rattle.el_numbers.specs.inner.Storing.{Puts}
use Rattle.el_numbers.proofs.AddLemmas.{adds_old, adds_new, over_one}
use Rattle.el_numbers.proofs.storing.put.Goals as goal

pub returns-in_err-is_new-clause-err : goal.returns-in_err-is_new-clause-err
returns-in_err-is_new-clause-err c = let p = err_from_is_err_and c.from_residual.result c.from_residual.ensures.1 in rw (p.1, p.2) tt

pub returns-then-not-is_new-clause-ok : goal.returns-then-not-is_new-clause-ok
returns-then-not-is_new-clause-ok c = adds_old c.args.waiting.now.items c.requires.counted (subst (λ f. Puts c.args.rows.now c.args.fact f c.put_fact.new.rows) c.if-not-is_new.true c.in_ok-is_new.ensures)

pub returns-then-rows-limit-clause-err : goal.returns-then-rows-limit-clause-err
returns-then-rows-limit-clause-err c = (refl, over_one c.args.limit c.requires.counted (subst (λ f. Puts c.args.rows.now c.args.fact f c.put_fact.new.rows) c.if-not-is_new.false c.in_ok-is_new.ensures) c.if-rows-limit.true)

pub returns-in_err-push-clause-err : goal.returns-in_err-push-clause-err
returns-in_err-push-clause-err c = let p = err_from_is_err_and c.from_residual-in_err-push.result c.from_residual-in_err-push.ensures.1 in rw (p.1, p.2) tt

pub returns-clause-ok : goal.returns-clause-ok
returns-clause-ok c = rw c.in_ok-push.ensures.items (adds_new c.args.waiting.now.items c.requires.counted (subst (λ f. Puts c.args.rows.now c.args.fact f c.put_fact.new.rows) c.if-not-is_new.false c.in_ok-is_new.ensures))
