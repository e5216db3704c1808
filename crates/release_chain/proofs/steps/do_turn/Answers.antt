use Rattle.std.proofs.lemmas.Result.{err_from_is_err_and}
use Rattle.release_chain.specs.Steps.{output_part, step_part}
use Rattle.release_chain.specs.inner.Work.{IsAt}
use Rattle.release_chain.proofs.Parts.{first_fails, then_ends}
use Rattle.release_chain.proofs.steps.do_turn.Goals as goal

pub returns-in_err-work-clause-ends : goal.returns-in_err-work-clause-ends
returns-in_err-work-clause-ends g c files trace at same =
    let p = err_from_is_err_and c.from_residual.result c.from_residual.ensures.1 in
    rw (p.1, p.2) (first_fails IsAt IsAt (step_part files c.args.turn.now.0 trace) (output_part c.args.turn.now.1) _ _ _ (c.in_err-work.ensures.ends files trace at same))

pub returns-clause-ends : goal.returns-clause-ends
returns-clause-ends g c files trace at same =
    then_ends IsAt IsAt (step_part files c.args.turn.now.0 trace) (output_part c.args.turn.now.1) c.in_ok-work.work c.put_output.result _ (g.F.Folder.state c.do_step.new.folder).holds _
    (c.in_ok-work.ensures.ends files trace at same) (λ state told. c.put_output.ensures.ends state told)
