use Rattle.std.proofs.Common.{map, length, sym, ap, ◌∙◌}
use Rattle.expr_pool.specs.Pool.{tree_at}
use Rattle.locality_core.proofs.Cells.{all_before, at_all, at_and, at_class, at_exact, at_max, at_min, at_not, at_nothing, at_or, at_some, at_thing, exact_before, max_before, min_before, not_before, some_before}
use Rattle.locality_core.proofs.Operands.{length_map}
use Rattle.locality_core.proofs.pooled.PoolForest.look.Goals as goal

pub returns-in-Thing : goal.returns-in-Thing
returns-in-Thing c = at_thing c.args.self.now c.args.tree c.node.result.now c.node.ensures.cell c.in-Thing.is

pub returns-in-Nothing : goal.returns-in-Nothing
returns-in-Nothing c = at_nothing c.args.self.now c.args.tree c.node.result.now c.node.ensures.cell c.in-Nothing.is

pub returns-in-Class : goal.returns-in-Class
returns-in-Class c = at_class c.args.self.now c.args.tree c.node.result.now c.node.ensures.cell _ c.in-Class.is

pub returns-in-And : goal.returns-in-And
returns-in-And c = (map (tree_at c.args.self.now) c.in-And.parts, at_and c.args.self.now c.args.tree c.node.result.now c.node.ensures.cell _ c.in-And.is, ap length c.as_slice.ensures ∙ sym (length_map (tree_at c.args.self.now) c.in-And.parts))

pub returns-in-Or : goal.returns-in-Or
returns-in-Or c = (map (tree_at c.args.self.now) c.in-Or.parts, at_or c.args.self.now c.args.tree c.node.result.now c.node.ensures.cell _ c.in-Or.is, ap length c.as_slice-in-Or.ensures ∙ sym (length_map (tree_at c.args.self.now) c.in-Or.parts))

pub returns-in-Not : goal.returns-in-Not
returns-in-Not c = (not_before c.args.tree.place (length c.args.self.now) c.node.result.now c.node.ensures.before c.requires _ c.in-Not.is, at_not c.args.self.now c.args.tree c.node.result.now c.node.ensures.cell _ c.in-Not.is)

pub returns-in-Some : goal.returns-in-Some
returns-in-Some c = (some_before c.args.tree.place (length c.args.self.now) c.node.result.now c.node.ensures.before c.requires _ _ c.in-Some.is, at_some c.args.self.now c.args.tree c.node.result.now c.node.ensures.cell _ _ c.in-Some.is)

pub returns-in-All : goal.returns-in-All
returns-in-All c = (all_before c.args.tree.place (length c.args.self.now) c.node.result.now c.node.ensures.before c.requires _ _ c.in-All.is, at_all c.args.self.now c.args.tree c.node.result.now c.node.ensures.cell _ _ c.in-All.is)

pub returns-in-Min : goal.returns-in-Min
returns-in-Min c = (min_before c.args.tree.place (length c.args.self.now) c.node.result.now c.node.ensures.before c.requires _ _ _ c.in-Min.is, at_min c.args.self.now c.args.tree c.node.result.now c.node.ensures.cell _ _ _ c.in-Min.is)

pub returns-in-Max : goal.returns-in-Max
returns-in-Max c = (max_before c.args.tree.place (length c.args.self.now) c.node.result.now c.node.ensures.before c.requires _ _ _ c.in-Max.is, at_max c.args.self.now c.args.tree c.node.result.now c.node.ensures.cell _ _ _ c.in-Max.is)

pub returns-in-Exact : goal.returns-in-Exact
returns-in-Exact c = (exact_before c.args.tree.place (length c.args.self.now) c.node.result.now c.node.ensures.before c.requires _ _ _ c.in-Exact.is, at_exact c.args.self.now c.args.tree c.node.result.now c.node.ensures.cell _ _ _ c.in-Exact.is)
