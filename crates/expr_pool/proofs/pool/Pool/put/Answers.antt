use Rattle.expr_pool.proofs.VisitLemmas.{known_from, only_from}
use Rattle.expr_pool.specs.Pool.{trees_of}
use Rattle.expr_pool.proofs.pool.Pool.put.Goals as goal

pub returns-clause-known : goal.returns-clause-known
returns-clause-known c = known_from (trees_of c.self.inside.cells.keys) c.args.self.now (trees_of c.node_of_tree.new.cells.keys) c.args.tree.now c.self.view_is c.node_of_tree.ensures.visits

pub returns-clause-only : goal.returns-clause-only
returns-clause-only c = only_from (trees_of c.self.inside.cells.keys) c.args.self.now (trees_of c.node_of_tree.new.cells.keys) c.args.tree.now c.self.view_is c.node_of_tree.ensures.visits
