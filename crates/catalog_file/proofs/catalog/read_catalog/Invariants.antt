use Rattle.std.proofs.Common.{length}
use Rattle.catalog_file.proofs.LineLemmas.{ReadSoFar}
use Rattle.catalog_file.proofs.catalog.read_catalog.Given as goal

abbrev pub invariant-loop-left : goal.invariant-loop-left
invariant-loop-left l = ReadSoFar l.line_limit l.bytes l.lines.items l.number l.left

abbrev pub decreases-loop-left : goal.decreases-loop-left
decreases-loop-left l = length l.left
