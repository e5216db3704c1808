use Rattle.std.proofs.Common.{subst, sym}
use Rattle.expr_pool.proofs.PoolLemmas.{inserted, inserted_node}
use Rattle.expr_pool.proofs.VisitLemmas.{inserts_last, inserts_visit}
use Rattle.expr_pool.specs.Pool.{Grew, IsPool, trees_of}
use Rattle.expr_pool.proofs.intern.node_of_cell.Goals as goal

pub returns-clause-is_pool : goal.returns-clause-is_pool
returns-clause-is_pool c = subst IsPool (sym c.in_ok-at.ensures.keys) (inserted c.args.cells.now.keys c.args.cell c.requires.is_pool c.requires.within).0

pub returns-clause-grown : goal.returns-clause-grown
returns-clause-grown c = subst (λ new. Grew (trees_of c.args.cells.now.keys) (trees_of new)) (sym c.in_ok-at.ensures.keys) (inserted c.args.cells.now.keys c.args.cell c.requires.is_pool c.requires.within).1

pub returns-clause-visits : goal.returns-clause-visits
returns-clause-visits c = inserts_visit c.args.cells.now.keys c.insert_full.new.self.keys c.args.cell c.requires.is_pool c.requires.within c.in_ok-at.ensures.keys

pub returns-clause-last : goal.returns-clause-last
returns-clause-last c =
    let stored = c.in_ok-at.ensures.stored in
    inserts_last c.args.cells.now.keys c.insert_full.new.self.keys c.args.cell c.in_ok-at.at c.requires.is_pool c.requires.within c.in_ok-at.ensures.keys
    (inserted_node c.args.cells.now.keys c.insert_full.new.self.keys c.args.cell stored.0 c.in_ok-at.at c.requires.is_pool c.requires.within c.in_ok-at.ensures.keys stored.1 stored.2)

pub returns-clause-node : goal.returns-clause-node
returns-clause-node c =
    let stored = c.in_ok-at.ensures.stored in
    inserted_node c.args.cells.now.keys c.insert_full.new.self.keys c.args.cell stored.0 c.in_ok-at.at c.requires.is_pool c.requires.within c.in_ok-at.ensures.keys stored.1 stored.2
