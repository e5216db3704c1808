use Rattle.std.proofs.Common.{◌≡◌, ◌∷◌}
use Rattle.el_part.specs.inner.Reached.{is_other, others}
use Rattle.el_part.proofs.closure.flagged_nodes.Given as goal

abbrev pub invariant-loop-at : goal.invariant-loop-at
invariant-loop-at l = l.nodes.items ≡ l.one ∷ l.two ∷ others (is_other l.flags l.one.place l.two.place) l.at
