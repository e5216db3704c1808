use Rattle.std.proofs.lemmas.Result.{err_from_is_err_and}
use Rattle.release_chain.proofs.Generating.{begun_fails, begun_goes}
use Rattle.release_chain.proofs.generated.run_generated.Goals as goal

pub returns-in_err-work : goal.returns-in_err-work
returns-in_err-work c =
    let p = err_from_is_err_and c.from_residual.result c.from_residual.ensures.1 in
    rw (p.1, p.2) (begun_fails c.args.size _ c.in_err-work.ensures.ends)

pub returns : goal.returns
returns c = begun_goes c.args.size c.in_ok-work.work c.released.result c.in_ok-work.ensures.ends c.released.ensures
