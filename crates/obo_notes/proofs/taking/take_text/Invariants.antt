-- What is taken and what is left of the turns so far.
use Rattle.std.proofs.Common.{take}
use Rattle.obo_notes.specs.Parts.{text_of}
use Rattle.obo_notes.proofs.LoopLemmas.{IsOneTaken}
use Rattle.obo_notes.proofs.taking.take_text.Given as goal

abbrev pub invariant-loop-side : goal.invariant-loop-side
invariant-loop-side l = IsOneTaken (text_of l.property) (take l.side-index l.sides) l.found l.rest.items
