-- What is taken and what is left of the turns so far.
use Rattle.std.proofs.Common.{take}
use Rattle.obo_notes.specs.Parts.{xref_of}
use Rattle.obo_notes.proofs.LoopLemmas.{AreTaken}
use Rattle.obo_notes.proofs.taking.xrefs_and_rest.Given as goal

abbrev pub invariant-loop-side : goal.invariant-loop-side
invariant-loop-side l = AreTaken xref_of (take l.side-index l.sides) l.xrefs.items l.rest.items
