use Rattle.std.proofs.Common.{sym, subst, ap, ◌∙◌, ◌++◌, [], ◌≡◌, arith}
use Rattle.std.proofs.lemmas.Result.{err_from_is_err_and}
use Rattle.fact_rows.specs.Member.{In}
use Rattle.fact_rows.proofs.Members.{no_items}
use Rattle.el_numbers.specs.inner.Conclude.{conclusions}
use Rattle.el_numbers.specs.inner.Going.{IsUnderWay, starts}
use Rattle.el_numbers.specs.inner.Storing.{IsWithin, Adds, GoesOver}
use Rattle.el_numbers.proofs.AddLemmas.{at_weaker, told_fault}
use Rattle.el_numbers.proofs.LoopLemmas.{within_next, next, over, done}
use Rattle.el_numbers.proofs.MetLemmas.{met_none, met_grows}
use Rattle.el_numbers.proofs.StartLemmas.{empty_is_linked, empty_is_counted, empty_long, start_within, begins, start_over}
use Rattle.el_numbers.proofs.saturation.saturated_rows.Goals as goal

pub put_all-requires-clause-linked : goal.put_all-requires-clause-linked
put_all-requires-clause-linked c = empty_is_linked c.in_ok-rows.ensures

pub put_all-requires-clause-counted : goal.put_all-requires-clause-counted
put_all-requires-clause-counted c = empty_is_counted c.in_ok-rows.ensures

pub put_all-requires-clause-within : goal.put_all-requires-clause-within
put_all-requires-clause-within c = λ g i.
    let j : In g (starts c.len-count.result) = subst (In g) (c.as_slice.ensures.value ∙ c.in_ok-out.ensures) i in
    subst (λ n. IsWithin n g) (sym (empty_long c.in_ok-rows.ensures)) (start_within c.len-count.result g j)

pub returns-in_err-put_all-clause-err : goal.returns-in_err-put_all-clause-err
returns-in_err-put_all-clause-err c =
    let p = err_from_is_err_and c.from_residual-in_err-put_all.result c.from_residual-in_err-put_all.ensures.1 in
    rw (p.1, p.2) (told_fault c.args.part.now c.args.limit c.in_err-put_all.field-0.0 (at_weaker c.in_err-put_all.field-0.0 c.args.limit
    (λ o. start_over c.args.part.now c.args.limit c.len-count.result c.in_ok-rows.rows c.put_all.new.rows (omega arith) c.in_ok-rows.ensures
    (subst (λ fs. GoesOver c.in_ok-rows.rows fs c.put_all.new.rows c.args.limit) (c.as_slice.ensures.value ∙ c.in_ok-out.ensures) o))
    c.in_err-put_all.ensures.err))

pub loop-fact-init : goal.loop-fact-init
loop-fact-init c = record {
  under_way = begins c.args.part.now c.requires.proper c.args.limit c.len-count.result c.in_ok-rows.rows c.put_all.new.rows c.put_all.new.waiting.items (omega arith) c.in_ok-rows.ensures
      (subst (λ fs. Adds c.in_ok-rows.rows [] fs c.put_all.new.rows c.put_all.new.waiting.items) (c.as_slice.ensures.value ∙ c.in_ok-out.ensures)
      (subst (λ q. Adds c.in_ok-rows.rows q c.as_slice.result.now c.put_all.new.rows c.put_all.new.waiting.items) c.new-waiting.ensures.items c.in_ok-put_all.ensures.ok))
      c.in_ok-put_all.ensures.few;
  met = met_none c.args.part.now.operands.items c.put_all.new.rows.below.items c.new-met.result c.new-met.ensures;
}

pub put_all-requires-in-Some-clause-within : goal.put_all-requires-in-Some-clause-within
put_all-requires-in-Some-clause-within c = λ g i.
    let made = conclusions c.args.part.now c.args.indexes.now c.loop-fact.rows c.in-Some.fact in
    let e : c.as_slice-in-Some.result.now ≡ made = c.as_slice-in-Some.ensures.value ∙ c.in_ok-conclude.ensures.out ∙ ap (λ o. o ++ made) c.clear.ensures.items in
    within_next c.args.part.now c.args.indexes.now c.requires.proper c.requires.indexed c.args.limit c.loop-fact.rows c.pop.new.self.items c.in-Some.fact
    (subst (λ q. IsUnderWay c.args.part.now c.args.limit c.loop-fact.rows q) c.in-Some.ensures.items c.loop-fact.invariant.under_way) g (subst (In g) e i)

pub loop-fact-preserved : goal.loop-fact-preserved
loop-fact-preserved c =
    let made = conclusions c.args.part.now c.args.indexes.now c.loop-fact.rows c.in-Some.fact in
    let e : c.as_slice-in-Some.result.now ≡ made = c.as_slice-in-Some.ensures.value ∙ c.in_ok-conclude.ensures.out ∙ ap (λ o. o ++ made) c.clear.ensures.items in
    record {
      under_way = next c.args.part.now c.args.indexes.now c.requires.proper c.requires.indexed c.args.limit c.loop-fact.rows c.put_all-in-Some.new.rows c.pop.new.self.items c.put_all-in-Some.new.waiting.items c.in-Some.fact
          (subst (λ q. IsUnderWay c.args.part.now c.args.limit c.loop-fact.rows q) c.in-Some.ensures.items c.loop-fact.invariant.under_way)
          (subst (λ fs. Adds c.loop-fact.rows c.pop.new.self.items fs c.put_all-in-Some.new.rows c.put_all-in-Some.new.waiting.items) e c.in_ok-put_all-2.ensures.ok)
          c.in_ok-put_all-2.ensures.few;
      met = met_grows c.args.part.now.operands.items c.conclude.new.met c.in_ok-put_all-2.ensures.ok c.in_ok-conclude.ensures.met;
    }

pub returns-in_err-put_all-2-clause-err : goal.returns-in_err-put_all-2-clause-err
returns-in_err-put_all-2-clause-err c =
    let made = conclusions c.args.part.now c.args.indexes.now c.loop-fact.rows c.in-Some.fact in
    let e : c.as_slice-in-Some.result.now ≡ made = c.as_slice-in-Some.ensures.value ∙ c.in_ok-conclude.ensures.out ∙ ap (λ o. o ++ made) c.clear.ensures.items in
    let p = err_from_is_err_and c.from_residual-in_err-put_all-2.result c.from_residual-in_err-put_all-2.ensures.1 in
    rw (p.1, p.2) (told_fault c.args.part.now c.args.limit c.in_err-put_all-2.field-0.0 (at_weaker c.in_err-put_all-2.field-0.0 c.args.limit
    (λ o. over c.args.part.now c.args.indexes.now c.requires.proper c.requires.indexed c.args.limit c.loop-fact.rows c.put_all-in-Some.new.rows c.pop.new.self.items c.in-Some.fact
    (subst (λ q. IsUnderWay c.args.part.now c.args.limit c.loop-fact.rows q) c.in-Some.ensures.items c.loop-fact.invariant.under_way)
    (subst (λ fs. GoesOver c.loop-fact.rows fs c.put_all-in-Some.new.rows c.args.limit) e o))
    c.in_err-put_all-2.ensures.err))

pub returns-clause-ok : goal.returns-clause-ok
returns-clause-ok c =
    let n : c.loop-fact.waiting.items ≡ [] = no_items c.loop-fact.waiting.items (let l = c.in_default.ensures.cases.0 in omega arith) in
    done c.args.part.now c.args.indexes.now c.requires.proper c.requires.indexed c.args.limit c.loop-fact.rows (subst (λ q. IsUnderWay c.args.part.now c.args.limit c.loop-fact.rows q) n c.loop-fact.invariant.under_way)
