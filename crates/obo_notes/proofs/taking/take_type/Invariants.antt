-- What is taken and what is left of the turns so far.
use Rattle.std.proofs.Common.{take}
use Rattle.obo_notes.specs.Context.{writing_in}
use Rattle.obo_notes.specs.Parts.{type_of}
use Rattle.obo_notes.proofs.LoopLemmas.{IsOneTaken}
use Rattle.obo_notes.proofs.taking.take_type.Given as goal

abbrev pub invariant-loop-side : goal.invariant-loop-side
invariant-loop-side l = IsOneTaken (type_of (writing_in l.space)) (take l.side-index l.sides) l.found l.rest.items
