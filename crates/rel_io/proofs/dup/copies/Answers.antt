use Rattle.std.proofs.Common.{◌++◌, [], ◌∷◌, arith, sym, ◌∙◌}
use Rattle.std.proofs.lemmas.List.{take_all, take_more}
use Rattle.std.proofs.lemmas.Result.{err_from_is_err_and}
use Rattle.rel_io.proofs.dup.copies.Goals as goal

pub loop-item-init : goal.loop-item-init
loop-item-init g c = c.in_ok-twins.ensures.items

pub loop-item-preserved : goal.loop-item-preserved
loop-item-preserved g c =
    c.in_ok-push.ensures.items
    ∙ (λ k. c.loop-item.invariant k ++ (c.in_ok-twin.ensures ∙ c.item-item.is) k ∷ [])
    ∙ sym (take_more c.args.items.now c.loop-item.item-index c.item-item.result c.loop-item-test.true)

pub returns : goal.returns
returns g c = c.loop-item.invariant ∙ take_all c.loop-item.item-index c.args.items.now (omega (arith, c.loop-item-test.false))

pub returns-in_err-twins : goal.returns-in_err-twins
returns-in_err-twins g c = rw ((err_from_is_err_and c.from_residual.result c.from_residual.ensures.1).1) tt

pub returns-in_err-twin : goal.returns-in_err-twin
returns-in_err-twin g c = rw ((err_from_is_err_and c.from_residual-in_err-twin.result c.from_residual-in_err-twin.ensures.1).1) tt

pub returns-in_err-push : goal.returns-in_err-push
returns-in_err-push g c = rw ((err_from_is_err_and c.from_residual-in_err-push.result c.from_residual-in_err-push.ensures.1).1) tt
