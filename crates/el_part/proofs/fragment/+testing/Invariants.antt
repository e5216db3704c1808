use Rattle.std.proofs.Common.{◌≡◌, true, take}
use Rattle.std.specs.List.{list_all}
use Rattle.el_rules.specs.ElPart.{is_el}
use Rattle.el_part.proofs.fragment.+testing.Given as goal

abbrev pub invariant-are_el-loop-tree : goal.invariant-are_el-loop-tree
invariant-are_el-loop-tree l = list_all is_el (take l.tree-index l.trees) ≡ true
