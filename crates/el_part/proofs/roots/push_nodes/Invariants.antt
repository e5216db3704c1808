use Rattle.std.proofs.Common.{◌≡◌, ◌++◌, take}
use Rattle.std.specs.List.{flat_map}
use Rattle.el_part.specs.Part.{nodes_in}
use Rattle.el_part.proofs.roots.push_nodes.Given as goal

abbrev pub invariant-loop-from : goal.invariant-loop-from
invariant-loop-from l = l.nodes.items ≡ l.initial.nodes.items ++ flat_map nodes_in (take l.from-index l.axioms)
