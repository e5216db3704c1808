use Rattle.std.proofs.lemmas.Result.{err_from_is_err_and}
use Rattle.release_chain.specs.Generated.{slimmed_or}
use Rattle.release_chain.specs.Steps.{reasoned_or}
use Rattle.release_chain.specs.inner.Work.{IsAt}
use Rattle.release_chain.proofs.Answering.{answered_then, refused_first}
use Rattle.release_chain.proofs.generated.inferred.Goals as goal

pub returns-in_err-work : goal.returns-in_err-work
returns-in_err-work c trace at =
    let p = err_from_is_err_and c.from_residual.result c.from_residual.ensures.1 in
    rw (p.1, p.2) (refused_first IsAt IsAt (reasoned_or trace) slimmed_or _ (c.in_err-work.ensures.answer trace at))

pub returns : goal.returns
returns c trace at =
    answered_then IsAt IsAt (reasoned_or trace) slimmed_or c.in_ok-work.work c.slimmed.result (c.in_ok-work.ensures.answer trace at) (λ state told. c.slimmed.ensures state told)
