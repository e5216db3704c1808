use Rattle.std.proofs.Common.{map, take}
use Rattle.owl_ontology.specs.Ontology.{axioms_of}
use Rattle.ofn_writer.specs.Text.{part, told_text}
use Rattle.ofn_writer.specs.inner.Declared.{declared_scope}
use Rattle.ofn_writer.specs.inner.Pieces.{AreIn}
use Rattle.ofn_writer.proofs.lines.print_part.Given as goal

abbrev pub invariant-loop-at : goal.invariant-loop-at
invariant-loop-at l = AreIn (map (told_text (declared_scope l.declared)) (part l.first (take l.at (axioms_of l.ontology.entries)))) l.buffer.items l.lengths.items
