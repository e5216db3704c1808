use Rattle.std.proofs.Common.{◌≡◌, ◌≤◌, ◌+◌, drop}
use Rattle.owl_ontology.specs.Ontology.{axioms_of}
use Rattle.owl_axioms.specs.Signature.{scope_of}
use Rattle.module_extract.specs.Module.{fills_of}
use Rattle.module_extract.specs.inner.Front.{IsState, lists_left, tests_left}
use Rattle.module_extract.proofs.growing.test_each.Given as goal

abbrev pub invariant-places : goal.invariant-places
invariant-places g l = record {
  state : IsState (fills_of g.L.Locality.CLASSES g.L.Locality.ROLES) (axioms_of l.ontology.entries) l.part.items (scope_of l.sig) l.setting.pool l.setting.table (drop l.at-index l.list) l.kept.items l.front;
  tests : tests_left l.setting.table l.front ≡ tests_left l.setting.table l.initial.front;
  lists : lists_left l.front ≡ lists_left l.initial.front;
  ticks : l.steps ≤ l.initial.steps + l.at-index;
}
