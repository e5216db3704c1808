use Rattle.std.proofs.Common.{◌≤◌, ◌+◌, []}
use Rattle.owl_ontology.specs.Ontology.{axioms_of}
use Rattle.owl_axioms.specs.Signature.{scope_of}
use Rattle.module_extract.specs.Module.{fills_of}
use Rattle.module_extract.specs.Tests.{test_bound}
use Rattle.module_extract.specs.inner.Front.{IsState, lists_left, tests_left}
use Rattle.module_extract.proofs.growing.module.Given as goal

abbrev pub invariant-waits : goal.invariant-waits
invariant-waits g l = record {
  state : IsState (fills_of g.L.Locality.CLASSES g.L.Locality.ROLES) (axioms_of l.ontology.entries) l.part.items (scope_of l.sig) l.setting.pool l.setting.table [] l.kept.items l.front;
  ticks : l.steps + tests_left l.setting.table l.front ≤ l.fn.steps + test_bound (axioms_of l.ontology.entries) l.part.items;
}

abbrev pub decreases-waits : goal.decreases-waits
decreases-waits g l = lists_left l.front
