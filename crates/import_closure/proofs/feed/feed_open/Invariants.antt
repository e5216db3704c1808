use Rattle.std.proofs.Common.{◌<◌, ◌-◌, length}
use Rattle.import_closure.proofs.FeedLemmas.{FedSoFar}
use Rattle.import_closure.proofs.feed.feed_open.Given as goal

abbrev pub invariant-pieces : goal.invariant-pieces
invariant-pieces g l = FedSoFar l.line_limit l.limit (g.F.Folder.state l.fn.folder) (g.F.Folder.state l.folder) l.fed × (0 < length l.piece)

abbrev pub decreases-pieces : goal.decreases-pieces
decreases-pieces g l = l.limit - l.fed.size
