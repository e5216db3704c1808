use Rattle.std.proofs.Common.{arith}
use Rattle.std.proofs.lemmas.Result.{err_from_is_err_and}
use Rattle.release_chain.proofs.Turns.{goes_on, goes_to_end, goes_wrong}
use Rattle.release_chain.proofs.steps.do_steps.Goals as goal

pub returns-in_err-work-clause-ends : goal.returns-in_err-work-clause-ends
returns-in_err-work-clause-ends g c files trace at held =
    let p = err_from_is_err_and c.from_residual.result c.from_residual.ensures.1 in
    rw (p.1, p.2) (goes_wrong c.args.turns.now c.args.work (g.F.Folder.state c.args.folder.now) c.loop-index.index c.loop-index.work (g.F.Folder.state c.loop-index.folder) c.index-turns-index.result _ (g.F.Folder.state c.do_turn.new.folder) files trace
    c.loop-index.invariant (omega arith) c.index-turns-index.is c.in_err-work.ensures.ends at held)

pub loop-index-preserved : goal.loop-index-preserved
loop-index-preserved g c =
    goes_on c.args.turns.now c.args.work (g.F.Folder.state c.args.folder.now) c.loop-index.index c.loop-index.work (g.F.Folder.state c.loop-index.folder) c.index-turns-index.result c.in_ok-work.work (g.F.Folder.state c.do_turn.new.folder)
    c.requires.apart c.loop-index.invariant (omega arith) c.index-turns-index.is c.in_ok-work.ensures.counts c.in_ok-work.ensures.forms c.in_ok-work.ensures.ends

pub returns-clause-ends : goal.returns-clause-ends
returns-clause-ends g c files trace at held =
    goes_to_end c.args.turns.now c.args.work (g.F.Folder.state c.args.folder.now) c.loop-index.index c.loop-index.work (g.F.Folder.state c.loop-index.folder) files trace
    c.loop-index.invariant (omega arith) at held
