use Rattle.std.proofs.Common.{◌≡◌, ◌++◌, map, take}
use Rattle.owl_axioms.specs.Text.{side_text}
use Rattle.owl_axioms.specs.inner.Joined.{spaced}
use Rattle.owl_axioms.proofs.axiom_phrases.push_sides.Given as goal

abbrev pub invariant-loop-side : goal.invariant-loop-side
invariant-loop-side l = l.out.items ≡ l.initial.out.items ++ spaced (map side_text (take l.side-index l.sides))
