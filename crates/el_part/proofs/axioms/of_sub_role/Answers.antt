use Rattle.std.proofs.Common.{[], ◌∷◌, ap, ◌∙◌}
use Rattle.el_part.proofs.Standing.{sub_role_made}
use Rattle.el_part.proofs.axioms.of_sub_role.Goals as goal

pub returns : goal.returns
returns c = sub_role_made c.args.pool.now c.args.role.now c.args.other.now c.in_ok-made.made.items (c.in_ok-made.ensures ∙ ap (λ a. a ∷ []) c.in_ok-there.ensures)
