use Rattle.std.proofs.Common.{◌≡◌, ◌+◌, ◌≤◌, [], length}
use Rattle.std.specs.Vec.{vec_capacity}
use Rattle.owl_axioms.specs.Signature.{scope_of}
use Rattle.locality_core.specs.inner.Renewal.{AllBelow, IsRenewing, known_count}
use Rattle.locality_core.proofs.renewal.renew_all.Given as goal

abbrev pub invariant-waits : goal.invariant-waits
invariant-waits g l = record {
  renewing : IsRenewing g.L.Locality.CLASSES g.L.Locality.ROLES (scope_of l.sig) l.pool l.wholes [] l.found.items l.waiting.items;
  room : length l.waiting.items + known_count l.found.items ≤ vec_capacity l.waiting;
  within : AllBelow (length l.pool) l.waiting.items;
  capacity : vec_capacity l.waiting ≡ vec_capacity l.initial.waiting;
}

abbrev pub decreases-waits : goal.decreases-waits
decreases-waits g l = length l.waiting.items + known_count l.found.items
