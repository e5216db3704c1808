use Rattle.std.proofs.Common.{[], ◌∷◌, ap, ◌∙◌}
use Rattle.el_part.proofs.Standing.{chain_made}
use Rattle.el_part.proofs.axioms.of_chain.Goals as goal

pub returns : goal.returns
returns c = chain_made c.args.pool.now c.args.role.now c.args.other.now c.args.implied.now c.in_ok-made.made.items (c.in_ok-made.ensures ∙ ap (λ a. a ∷ []) c.in_ok-first.ensures)
