use Rattle.std.proofs.Common.{◌<◌, ◌-◌, length}
use Rattle.import_closure.proofs.ReadLemmas.{ReadSoFar}
use Rattle.import_closure.proofs.file.read_open.Given as goal

abbrev pub invariant-pieces : goal.invariant-pieces
invariant-pieces g l = ReadSoFar l.limit (g.F.Folder.state l.fn.folder) (g.F.Folder.state l.folder) l.bytes.items × (0 < length l.piece)

abbrev pub decreases-pieces : goal.decreases-pieces
decreases-pieces g l = l.limit - length l.bytes.items
