use Rattle.std.proofs.Common.{take}
use Rattle.indexmap.specs.IndexMap.{get}
use Rattle.el_part.specs.inner.ClassMap.{AreClassesOf, same_iri}
use Rattle.el_part.proofs.classes.class_map.Given as goal

abbrev pub invariant-loop-at : goal.invariant-loop-at
invariant-loop-at l = AreClassesOf l.pool (take l.at l.nodes) (get same_iri l.classes)
