-- What is taken and what is left of the turns so far.
use Rattle.std.proofs.Common.{take}
use Rattle.obo_notes.specs.Parts.{scope_of}
use Rattle.obo_notes.proofs.LoopLemmas.{IsOneTaken}
use Rattle.obo_notes.proofs.taking.take_scope.Given as goal

abbrev pub invariant-loop-side : goal.invariant-loop-side
invariant-loop-side l = IsOneTaken (scope_of) (take l.side-index l.sides) l.found l.rest.items
