use Rattle.std.proofs.Common.{take}
use Rattle.owl_ontology.specs.Ontology.{axioms_of}
use Rattle.expr_pool.specs.Pool.{Grew}
use Rattle.el_rules.specs.ElPart.{el_axioms}
use Rattle.el_part.specs.inner.Made.{Stand}
use Rattle.el_part.proofs.axioms.part_axioms.Given as goal

abbrev pub invariant-loop-at : goal.invariant-loop-at
invariant-loop-at l = Grew l.initial.pool l.pool × Stand l.pool l.axioms.items (el_axioms (take l.at (axioms_of l.ontology.entries)))
