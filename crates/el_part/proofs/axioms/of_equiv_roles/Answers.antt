use Rattle.std.proofs.Common.{[], ◌∷◌, ◌∙◌}
use Rattle.el_part.proofs.Standing.{equiv_roles_made}
use Rattle.el_part.proofs.axioms.of_equiv_roles.Goals as goal

pub returns : goal.returns
returns c =
    equiv_roles_made c.args.pool.now c.args.role.now c.args.other.now c.in_ok-made.made.items (c.in_ok-made.ensures ∙ (λ i. c.in_ok-there.ensures i ∷ c.in_ok-back.ensures i ∷ []))
