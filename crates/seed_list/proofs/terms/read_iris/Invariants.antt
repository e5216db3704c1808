use Rattle.std.proofs.Common.{length}
use Rattle.seed_list.proofs.LineLemmas.{ReadSoFar}
use Rattle.seed_list.proofs.terms.read_iris.Given as goal

abbrev pub invariant-loop-left : goal.invariant-loop-left
invariant-loop-left l = ReadSoFar l.ontology l.lines l.bytes l.iris.items l.number l.left

abbrev pub decreases-loop-left : goal.decreases-loop-left
decreases-loop-left l = length l.left
