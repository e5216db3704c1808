use Rattle.std.proofs.Common.{sym, subst}
use Rattle.owl_axioms.specs.Signature.{scope_of}
use Rattle.locality_core.proofs.Renewing.{all_settled}
use Rattle.locality_core.specs.Verdicts.{IsIndex, VerdictState}
use Rattle.locality_core.proofs.verdicts.Verdicts.grow.Goals as goal

pub returns : goal.returns
returns g c = record {
  verdicts = all_settled g.L.Locality.CLASSES g.L.Locality.ROLES (scope_of c.args.sig.now) c.args.pool.now c.len-count.ensures.different c.parts_have_nodes.ensures c.self.inside.wholes c.renew_all.new.found.items c.renew_all.ensures.renewing;
  index = subst (λ (v : VerdictState). IsIndex c.args.pool.now v.wholes v.uses) (sym c.self.view_is) c.requires.2.index;
}
