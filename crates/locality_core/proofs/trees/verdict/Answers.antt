use Rattle.std.proofs.Common.{sym, ◌∙◌}
use Rattle.owl_axioms.specs.Signature.{scope_of}
use Rattle.locality_tables.proofs.InFills.{verdicts_hold}
use Rattle.locality_core.proofs.trees.verdict.Goals as goal

pub returns-clause-empty : goal.returns-clause-empty
returns-clause-empty g c = λ h. (verdicts_hold g.L.Locality.CLASSES g.L.Locality.ROLES (scope_of c.args.sig.now) (g.F.Forest.stands c.args.forest.now c.args.tree)).0 (sym c.verdict_of.ensures ∙ h)

pub returns-clause-full : goal.returns-clause-full
returns-clause-full g c = λ h. (verdicts_hold g.L.Locality.CLASSES g.L.Locality.ROLES (scope_of c.args.sig.now) (g.F.Forest.stands c.args.forest.now c.args.tree)).1 (sym c.verdict_of.ensures ∙ h)
