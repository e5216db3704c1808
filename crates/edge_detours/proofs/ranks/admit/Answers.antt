use Rattle.edge_detours.proofs.RootLemmas.{admits_new}
use Rattle.edge_detours.proofs.ranks.admit.Goals as goal

pub returns : goal.returns
returns c = rw c.in_ok-push.ensures.items (admits_new c.args.y c.args.flags.now c.args.stack.now.items)
