use Rattle.std.proofs.Common.{Err, Ok, false}
use Rattle.std.proofs.lemmas.Result.{err_from_is_err_and}
use Rattle.release_chain.specs.Generated.{printed_or}
use Rattle.release_chain.specs.Steps.{reduced_trace, relaxed_trace}
use Rattle.release_chain.specs.Trace.{Trace}
use Rattle.release_chain.specs.inner.Work.{IsAt}
use Rattle.release_chain.proofs.Answering.{answered_then, refused_first}
use Rattle.release_chain.proofs.generated.slimmed.Goals as goal

pub returns-in_err-work : goal.returns-in_err-work
returns-in_err-work c trace at =
    let p = err_from_is_err_and c.from_residual.result c.from_residual.ensures.1 in
    rw (p.1, p.2) (refused_first IsAt IsAt (Ok (relaxed_trace trace)) (λ (t : Trace). printed_or (reduced_trace false t)) _ (c.in_err-work.ensures.answer trace at))

pub returns-in_err-work-2 : goal.returns-in_err-work-2
returns-in_err-work-2 c trace at =
    let p = err_from_is_err_and c.from_residual-in_err-work-2.result c.from_residual-in_err-work-2.ensures.1 in
    rw (p.1, p.2) (answered_then IsAt IsAt (Ok (relaxed_trace trace)) (λ (t : Trace). printed_or (reduced_trace false t)) c.in_ok-work.work (Err c.in_err-work-2.field-0.0) (c.in_ok-work.ensures.answer trace at)
    (λ t told. refused_first IsAt IsAt (Ok (reduced_trace false t)) printed_or _ (c.in_err-work-2.ensures.answer t told)))

pub returns : goal.returns
returns c trace at =
    answered_then IsAt IsAt (Ok (relaxed_trace trace)) (λ (t : Trace). printed_or (reduced_trace false t)) c.in_ok-work.work c.printed.result (c.in_ok-work.ensures.answer trace at)
    (λ t told. answered_then IsAt IsAt (Ok (reduced_trace false t)) printed_or c.in_ok-work-2.work c.printed.result (c.in_ok-work-2.ensures.answer t told) (λ state last. c.printed.ensures state last))
