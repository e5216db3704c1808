use Rattle.std.proofs.Common.{◌≡◌, ◌+◌, ℕ, List, drop, length}
use Rattle.std.specs.Vec.{vec_capacity}
use Rattle.owl_axioms.specs.Signature.{scope_of}
use Rattle.locality_core.specs.inner.Renewal.{AllBelow, IsRenewing, LeadUp, known_count}
use Rattle.locality_core.proofs.renewal.renew_each.Given as goal

abbrev pub invariant-nodes : goal.invariant-nodes
invariant-nodes g l = record {
  renewing : (wholes : List (List ℕ)) → LeadUp l.pool wholes → IsRenewing g.L.Locality.CLASSES g.L.Locality.ROLES (scope_of l.sig) l.pool wholes l.list l.initial.found.items l.initial.waiting.items
      → IsRenewing g.L.Locality.CLASSES g.L.Locality.ROLES (scope_of l.sig) l.pool wholes (drop l.at-index l.list) l.found.items l.waiting.items;
  long : length l.found.items ≡ length l.pool;
  room : length l.waiting.items + known_count l.found.items ≡ length l.initial.waiting.items + known_count l.initial.found.items;
  within : AllBelow (length l.pool) l.waiting.items;
  capacity : vec_capacity l.waiting ≡ vec_capacity l.initial.waiting;
}
