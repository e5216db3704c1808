use Rattle.std.proofs.Common.{length, ◌-◌}
use Rattle.import_closure.proofs.TurnLemmas.{TurnsSoFar}
use Rattle.import_closure.proofs.files.read_listed.Given as goal

abbrev pub invariant-turns : goal.invariant-turns
invariant-turns g l =
    TurnsSoFar l.names l.inputs l.limits (g.F.Folder.state l.fn.folder) (g.F.Folder.state l.folder) l.list.entries l.sources.items l.left

abbrev pub decreases-turns : goal.decreases-turns
decreases-turns g l = l.limits.files - length l.sources.items
