use Rattle.release_chain.proofs.Turns.{Going}
use Rattle.release_chain.proofs.steps.do_steps.Given as goal

abbrev pub invariant-loop-index : goal.invariant-loop-index
invariant-loop-index g l = Going l.turns l.fn.work (g.F.Folder.state l.fn.folder) l.index l.work (g.F.Folder.state l.folder)
