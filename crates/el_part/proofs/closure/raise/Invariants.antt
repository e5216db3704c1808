use Rattle.std.proofs.Common.{◌≡◌, length, take}
use Rattle.expr_pool.specs.Part.{flag_nodes}
use Rattle.el_part.proofs.closure.raise.Given as goal

abbrev pub invariant-loop-node : goal.invariant-loop-node
invariant-loop-node l = (l.flags.items ≡ flag_nodes l.initial.flags.items (take l.node-index l.nodes)) × (length l.flags.items ≡ length l.initial.flags.items)
