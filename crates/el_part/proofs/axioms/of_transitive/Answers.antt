use Rattle.std.proofs.Common.{[], ◌∷◌, ap, ◌∙◌}
use Rattle.el_part.proofs.Standing.{transitive_made}
use Rattle.el_part.proofs.axioms.of_transitive.Goals as goal

pub returns : goal.returns
returns c = transitive_made c.args.pool.now c.args.role.now c.in_ok-made.made.items (c.in_ok-made.ensures ∙ ap (λ a. a ∷ []) c.in_ok-first.ensures)
