use Rattle.std.proofs.Common.{sym, ◌∙◌}
use Rattle.owl_axioms.specs.Signature.{scope_of}
use Rattle.locality_tables.proofs.InFills.{local_holds}
use Rattle.locality_core.proofs.cached.is_local_cached.Goals as goal

pub returns-clause-holds : goal.returns-clause-holds
returns-clause-holds g c = λ h. local_holds g.L.Locality.CLASSES g.L.Locality.ROLES (scope_of c.args.sig.now) c.args.«axiom».now.body (sym c.is_local_plain.ensures ∙ h)
