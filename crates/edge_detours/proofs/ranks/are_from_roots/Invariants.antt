use Rattle.edge_detours.specs.inner.Roots.{IsSpread}
use Rattle.edge_detours.proofs.ranks.are_from_roots.Given as goal

abbrev pub invariant-loop-turn : goal.invariant-loop-turn
invariant-loop-turn l = IsSpread l.rows l.ranks l.roots l.flags l.stack.items
