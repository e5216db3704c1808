use Rattle.std.proofs.Common.{sym, subst, slice_index_or}
use Rattle.std.proofs.lemmas.List.{take_more}
use Rattle.std.proofs.lemmas.Result.{err_from_is_err_and}
use Rattle.fact_rows.specs.Member.{In}
use Rattle.fact_rows.proofs.Members.{in_at, in_one}
use Rattle.el_numbers.specs.declared.fact.Fact.TheVariants.{Below}
use Rattle.el_numbers.specs.inner.Storing.{IsWithin, Adds}
use Rattle.el_numbers.proofs.AddLemmas.{adds_none, adds_more, over_more, in_take, at_weaker}
use Rattle.el_numbers.proofs.storing.put_all.Goals as goal

pub loop-fact-init : goal.loop-fact-init
loop-fact-init c = record { adds = adds_none _ _ c.requires.linked c.requires.counted; few = c.requires.few }

pub put-requires-clause-within : goal.put-requires-clause-within
put-requires-clause-within c =
    let x = slice_index_or c.args.facts.now c.loop-fact.fact-index (Below 0 0) in
    subst (λ n. IsWithin n x) (sym c.loop-fact.invariant.adds.long) (c.requires.within x (in_at c.args.facts.now c.loop-fact.fact-index (Below 0 0) c.loop-fact-test.true))

pub returns-in_err-put-clause-err : goal.returns-in_err-put-clause-err
returns-in_err-put-clause-err c =
    let p = err_from_is_err_and c.from_residual.result c.from_residual.ensures.1 in
    rw (p.1, p.2) (at_weaker c.in_err-put.field-0.0 c.args.limit
    (λ o. over_more c.args.facts.now c.loop-fact.invariant.adds o (λ g i. in_take c.loop-fact.fact-index c.args.facts.now i)
    (λ g i. subst (λ y. In y c.args.facts.now) (sym (in_one i)) (in_at c.args.facts.now c.loop-fact.fact-index (Below 0 0) c.loop-fact-test.true)))
    c.in_err-put.ensures.err)

pub loop-fact-preserved : goal.loop-fact-preserved
loop-fact-preserved c = record {
  adds = subst (λ fs. Adds c.args.rows.now c.args.waiting.now.items fs c.put.new.rows c.put.new.waiting.items) (sym (take_more c.args.facts.now c.loop-fact.fact-index (Below 0 0) c.loop-fact-test.true)) (adds_more c.loop-fact.invariant.adds c.in_ok-put.ensures.ok);
  few = c.in_ok-put.ensures.few;
}
