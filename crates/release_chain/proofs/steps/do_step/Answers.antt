use Rattle.std.proofs.Common.{refl}
use Rattle.chain_words.specs.Word.{same}
use Rattle.release_chain.specs.inner.Work.{IsAt}
use Rattle.release_chain.proofs.Parts.{answer_caused, answer_ends, some_trace, some_trace-is_at}
use Rattle.release_chain.proofs.StepLaws.{held_first}
use Rattle.release_chain.proofs.steps.do_step.Goals as goal

pub returns-in-Extract-clause-ends : goal.returns-in-Extract-clause-ends
returns-in-Extract-clause-ends g c files trace at same =
    rw c.in-Extract.is (c.extract_terms.ensures.ends files trace at (held_first _ files _ (rw c.in-Extract.is at same)))

pub returns-in-Reason-clause-caused : goal.returns-in-Reason-clause-caused
returns-in-Reason-clause-caused g c = answer_caused IsAt _ c.reasoned.result _ _ (c.reasoned.ensures.answer (some_trace c.args.work) (some_trace-is_at c.args.work))

pub returns-in-Reason-clause-ends : goal.returns-in-Reason-clause-ends
returns-in-Reason-clause-ends g c files trace at same = rw c.in-Reason.is (answer_ends IsAt _ c.reasoned.result _ _ refl (c.reasoned.ensures.answer trace at))

pub returns-in-Relax-clause-caused : goal.returns-in-Relax-clause-caused
returns-in-Relax-clause-caused g c = answer_caused IsAt _ c.relaxed.result _ _ (c.relaxed.ensures.answer (some_trace c.args.work) (some_trace-is_at c.args.work))

pub returns-in-Relax-clause-ends : goal.returns-in-Relax-clause-ends
returns-in-Relax-clause-ends g c files trace at same = rw c.in-Relax.is (answer_ends IsAt _ c.relaxed.result _ _ refl (c.relaxed.ensures.answer trace at))

pub returns-in-Reduce-clause-caused : goal.returns-in-Reduce-clause-caused
returns-in-Reduce-clause-caused g c = answer_caused IsAt _ c.reduced.result _ _ (c.reduced.ensures.answer (some_trace c.args.work) (some_trace-is_at c.args.work))

pub returns-in-Reduce-clause-ends : goal.returns-in-Reduce-clause-ends
returns-in-Reduce-clause-ends g c files trace at same = rw c.in-Reduce.is (answer_ends IsAt _ c.reduced.result _ _ refl (c.reduced.ensures.answer trace at))
