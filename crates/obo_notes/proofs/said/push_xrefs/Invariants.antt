-- The annotations so far are those of the turns so far.
use Rattle.std.proofs.Common.{◌≡◌, ◌++◌, map, take}
use Rattle.obo_notes.specs.Parts.{side_of_xref}
use Rattle.obo_notes.proofs.said.push_xrefs.Given as goal

abbrev pub invariant-loop-xref : goal.invariant-loop-xref
invariant-loop-xref l = l.sides.items ≡ l.fn.sides.items ++ map side_of_xref (take l.xref-index l.xrefs)
