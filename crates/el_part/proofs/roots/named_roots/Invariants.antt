use Rattle.std.proofs.Common.{◌≡◌, Some, map, take}
use Rattle.owl_ontology.specs.Ontology.{axioms_of}
use Rattle.expr_pool.specs.Pool.{Grew, stand}
use Rattle.el_part.specs.inner.Made.{named_trees}
use Rattle.el_part.proofs.roots.named_roots.Given as goal

abbrev pub invariant-loop-at : goal.invariant-loop-at
invariant-loop-at l = Grew l.initial.pool l.pool × (stand l.pool l.roots.items ≡ map Some (named_trees (take l.at (axioms_of l.ontology.entries))))
