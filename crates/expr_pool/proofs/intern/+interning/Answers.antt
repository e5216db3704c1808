use Rattle.std.proofs.Common.{Some, ◌≡◌, ◌+◌, ap, length, map, refl, slice_get, subst, sym, take, ◌∙◌}
use Rattle.std.proofs.lemmas.Option.{slice_get_read}
use Rattle.owl_axioms.specs.declared.expr.ClassExpr.TheVariants as expr
use Rattle.expr_pool.specs.declared.cell.Cell.TheVariants as cell
use Rattle.expr_pool.proofs.VisitLemmas.{ends_next, ends_one, ends_same, last_tree, parts_all, parts_and, parts_exact, parts_max, parts_min, parts_not, parts_or, parts_some, visits_next, visits_parts, visits_same, taken_next, visits_taken, visits_tree}
use Rattle.expr_pool.proofs.PoolLemmas.{cell_all, cell_and, cell_class, cell_exact, cell_max, cell_min, cell_not, cell_nothing, cell_or, cell_some, cell_thing, grew_twice, stand_push}
use Rattle.expr_pool.specs.Part.{parts_of}
use Rattle.expr_pool.specs.Pool.{IsCellOf, stand, tree_of, trees_of}
use Rattle.expr_pool.specs.inner.Visited.{EndsWith, Visits, only_part}
use Rattle.expr_pool.proofs.intern.+interning.Goals as goal

pub cell_of_tree-returns-in-Thing-clause-cell : goal.cell_of_tree-returns-in-Thing-clause-cell
cell_of_tree-returns-in-Thing-clause-cell t c = subst (λ e. IsCellOf (trees_of c.args.cells.now.keys) e cell.Thing) (sym c.in-Thing.is) (cell_thing (trees_of c.args.cells.now.keys))

pub cell_of_tree-returns-in-Nothing-clause-cell : goal.cell_of_tree-returns-in-Nothing-clause-cell
cell_of_tree-returns-in-Nothing-clause-cell t c = subst (λ e. IsCellOf (trees_of c.args.cells.now.keys) e cell.Nothing) (sym c.in-Nothing.is) (cell_nothing (trees_of c.args.cells.now.keys))

pub cell_of_tree-returns-in_ok-iri-in-Class-clause-cell : goal.cell_of_tree-returns-in_ok-iri-in-Class-clause-cell
cell_of_tree-returns-in_ok-iri-in-Class-clause-cell t c =
    subst (λ e. IsCellOf (trees_of c.args.cells.now.keys) e (cell.Class c.in_ok-iri-in-Class.iri)) (ap (λ i. expr.Class i) c.in_ok-iri-in-Class.ensures ∙ sym c.in-Class.is) (cell_class (trees_of c.args.cells.now.keys) c.in_ok-iri-in-Class.iri)

pub cell_of_tree-returns-in_ok-nodes-in-And-clause-cell : goal.cell_of_tree-returns-in_ok-nodes-in-And-clause-cell
cell_of_tree-returns-in_ok-nodes-in-And-clause-cell t c =
    let ts = trees_of c.nodes_of_trees.new.cells.keys in
    subst (λ e. IsCellOf ts e (cell.And c.in_ok-nodes-in-And.nodes)) (sym c.in-And.is) (cell_and ts c.in_ok-nodes-in-And.nodes c.in-And.operands (c.in_ok-nodes-in-And.ensures.nodes ∙ ap (map Some) c.as_slice.ensures))

pub cell_of_tree-returns-in_ok-nodes-in-Or-clause-cell : goal.cell_of_tree-returns-in_ok-nodes-in-Or-clause-cell
cell_of_tree-returns-in_ok-nodes-in-Or-clause-cell t c =
    let ts = trees_of c.nodes_of_trees-in-Or.new.cells.keys in
    subst (λ e. IsCellOf ts e (cell.Or c.in_ok-nodes-in-Or.nodes)) (sym c.in-Or.is) (cell_or ts c.in_ok-nodes-in-Or.nodes c.in-Or.operands (c.in_ok-nodes-in-Or.ensures.nodes ∙ ap (map Some) c.as_slice-in-Or.ensures))

pub cell_of_tree-returns-in_ok-node-in-Not-clause-cell : goal.cell_of_tree-returns-in_ok-node-in-Not-clause-cell
cell_of_tree-returns-in_ok-node-in-Not-clause-cell t c =
    let ts = trees_of c.node_of_tree.new.cells.keys in
    subst (λ e. IsCellOf ts e (cell.Not c.in_ok-node-in-Not.node)) (sym c.in-Not.is) (cell_not ts c.in_ok-node-in-Not.node c.in-Not.part (c.in_ok-node-in-Not.ensures.node ∙ ap (λ e. Some e) c.get.ensures))

pub cell_of_tree-returns-in_ok-pair-in-Some-clause-cell : goal.cell_of_tree-returns-in_ok-pair-in-Some-clause-cell
cell_of_tree-returns-in_ok-pair-in-Some-clause-cell t c =
    let ts = trees_of c.role_and_node.new.cells.keys in
    let pair = c.in_ok-pair-in-Some.pair in
    subst (λ e. IsCellOf ts e (cell.Some pair.0 pair.1)) (ap (λ r. expr.Some r c.in-Some.part) c.in_ok-pair-in-Some.ensures.role ∙ sym c.in-Some.is) (cell_some ts pair.0 pair.1 c.in-Some.part c.in_ok-pair-in-Some.ensures.node)

pub cell_of_tree-returns-in_ok-pair-in-All-clause-cell : goal.cell_of_tree-returns-in_ok-pair-in-All-clause-cell
cell_of_tree-returns-in_ok-pair-in-All-clause-cell t c =
    let ts = trees_of c.role_and_node-in-All.new.cells.keys in
    let pair = c.in_ok-pair-in-All.pair in
    subst (λ e. IsCellOf ts e (cell.All pair.0 pair.1)) (ap (λ r. expr.All r c.in-All.part) c.in_ok-pair-in-All.ensures.role ∙ sym c.in-All.is) (cell_all ts pair.0 pair.1 c.in-All.part c.in_ok-pair-in-All.ensures.node)

pub cell_of_tree-returns-in_ok-pair-in-Min-clause-cell : goal.cell_of_tree-returns-in_ok-pair-in-Min-clause-cell
cell_of_tree-returns-in_ok-pair-in-Min-clause-cell t c =
    let ts = trees_of c.role_and_node-in-Min.new.cells.keys in
    let pair = c.in_ok-pair-in-Min.pair in
    subst (λ e. IsCellOf ts e (cell.Min c.in-Min.n pair.0 pair.1)) (ap (λ r. expr.Min c.in-Min.n r c.in-Min.part) c.in_ok-pair-in-Min.ensures.role ∙ sym c.in-Min.is) (cell_min ts c.in-Min.n pair.0 pair.1 c.in-Min.part c.in_ok-pair-in-Min.ensures.node)

pub cell_of_tree-returns-in_ok-pair-in-Max-clause-cell : goal.cell_of_tree-returns-in_ok-pair-in-Max-clause-cell
cell_of_tree-returns-in_ok-pair-in-Max-clause-cell t c =
    let ts = trees_of c.role_and_node-in-Max.new.cells.keys in
    let pair = c.in_ok-pair-in-Max.pair in
    subst (λ e. IsCellOf ts e (cell.Max c.in-Max.n pair.0 pair.1)) (ap (λ r. expr.Max c.in-Max.n r c.in-Max.part) c.in_ok-pair-in-Max.ensures.role ∙ sym c.in-Max.is) (cell_max ts c.in-Max.n pair.0 pair.1 c.in-Max.part c.in_ok-pair-in-Max.ensures.node)

pub cell_of_tree-returns-in_ok-pair-in-Exact-clause-cell : goal.cell_of_tree-returns-in_ok-pair-in-Exact-clause-cell
cell_of_tree-returns-in_ok-pair-in-Exact-clause-cell t c =
    let ts = trees_of c.role_and_node-in-Exact.new.cells.keys in
    let pair = c.in_ok-pair-in-Exact.pair in
    subst (λ e. IsCellOf ts e (cell.Exact c.in-Exact.n pair.0 pair.1)) (ap (λ r. expr.Exact c.in-Exact.n r c.in-Exact.part) c.in_ok-pair-in-Exact.ensures.role ∙ sym c.in-Exact.is) (cell_exact ts c.in-Exact.n pair.0 pair.1 c.in-Exact.part c.in_ok-pair-in-Exact.ensures.node)

pub nodes_of_trees-loop-tree-preserved : goal.nodes_of_trees-loop-tree-preserved
nodes_of_trees-loop-tree-preserved t c =
    let before = trees_of c.loop-tree.cells.keys in
    let after = trees_of c.node_of_tree.new.cells.keys in
    let here_is : slice_get c.args.trees.now c.loop-tree.tree-index ≡ Some c.tree-item.result = slice_get_read c.args.trees.now (length c.args.trees.now) c.loop-tree.tree-index c.tree-item.result refl c.loop-tree-test.true c.tree-item.is in (
      c.in_ok-node.ensures.is_pool,
      grew_twice (trees_of c.args.cells.now.keys) before after c.loop-tree.invariant.1 c.in_ok-node.ensures.grown,
      ap (stand after) c.in_ok-push.ensures.items
          ∙ stand_push before after c.loop-tree.nodes.items c.in_ok-node.node c.args.trees.now c.loop-tree.tree-index c.tree-item.result c.in_ok-node.ensures.grown c.loop-tree.invariant.2 c.in_ok-node.ensures.node
          (slice_get_read c.args.trees.now (length c.args.trees.now) c.loop-tree.tree-index c.tree-item.result refl c.loop-tree-test.true c.tree-item.is),
      subst (λ xs. Visits (trees_of c.args.cells.now.keys) xs after) (taken_next c.args.trees.now c.loop-tree.tree-index c.tree-item.result here_is) (visits_next (trees_of c.args.cells.now.keys) (take c.loop-tree.tree-index c.args.trees.now) before (only_part c.tree-item.result) after c.loop-tree.invariant.3 c.in_ok-node.ensures.visits),
      subst (λ xs. EndsWith (trees_of c.args.cells.now.keys) xs after) (taken_next c.args.trees.now c.loop-tree.tree-index c.tree-item.result here_is) (ends_next (trees_of c.args.cells.now.keys) (take c.loop-tree.tree-index c.args.trees.now) before after c.tree-item.result c.in_ok-node.node.place c.loop-tree.invariant.4 c.in_ok-node.ensures.last c.in_ok-node.ensures.node),
    )

pub cell_of_tree-returns-in_err-nodes-in-And-clause-visits : goal.cell_of_tree-returns-in_err-nodes-in-And-clause-visits
cell_of_tree-returns-in_err-nodes-in-And-clause-visits t c =
    visits_same (trees_of c.args.cells.now.keys) c.as_slice.result.now (parts_of c.args.tree.now) (trees_of c.nodes_of_trees.new.cells.keys) (c.as_slice.ensures ∙ sym (ap parts_of c.in-And.is ∙ parts_and c.in-And.operands)) c.in_err-nodes-in-And.ensures.visits

pub cell_of_tree-returns-in_ok-nodes-in-And-clause-visits : goal.cell_of_tree-returns-in_ok-nodes-in-And-clause-visits
cell_of_tree-returns-in_ok-nodes-in-And-clause-visits t c =
    visits_same (trees_of c.args.cells.now.keys) c.as_slice.result.now (parts_of c.args.tree.now) (trees_of c.nodes_of_trees.new.cells.keys) (c.as_slice.ensures ∙ sym (ap parts_of c.in-And.is ∙ parts_and c.in-And.operands)) c.in_ok-nodes-in-And.ensures.visits

pub cell_of_tree-returns-in_ok-nodes-in-And-clause-ends : goal.cell_of_tree-returns-in_ok-nodes-in-And-clause-ends
cell_of_tree-returns-in_ok-nodes-in-And-clause-ends t c =
    ends_same (trees_of c.args.cells.now.keys) c.as_slice.result.now (parts_of c.args.tree.now) (trees_of c.nodes_of_trees.new.cells.keys) (c.as_slice.ensures ∙ sym (ap parts_of c.in-And.is ∙ parts_and c.in-And.operands)) c.in_ok-nodes-in-And.ensures.ends

pub cell_of_tree-returns-in_err-nodes-in-Or-clause-visits : goal.cell_of_tree-returns-in_err-nodes-in-Or-clause-visits
cell_of_tree-returns-in_err-nodes-in-Or-clause-visits t c =
    visits_same (trees_of c.args.cells.now.keys) c.as_slice-in-Or.result.now (parts_of c.args.tree.now) (trees_of c.nodes_of_trees-in-Or.new.cells.keys) (c.as_slice-in-Or.ensures ∙ sym (ap parts_of c.in-Or.is ∙ parts_or c.in-Or.operands)) c.in_err-nodes-in-Or.ensures.visits

pub cell_of_tree-returns-in_ok-nodes-in-Or-clause-visits : goal.cell_of_tree-returns-in_ok-nodes-in-Or-clause-visits
cell_of_tree-returns-in_ok-nodes-in-Or-clause-visits t c =
    visits_same (trees_of c.args.cells.now.keys) c.as_slice-in-Or.result.now (parts_of c.args.tree.now) (trees_of c.nodes_of_trees-in-Or.new.cells.keys) (c.as_slice-in-Or.ensures ∙ sym (ap parts_of c.in-Or.is ∙ parts_or c.in-Or.operands)) c.in_ok-nodes-in-Or.ensures.visits

pub cell_of_tree-returns-in_ok-nodes-in-Or-clause-ends : goal.cell_of_tree-returns-in_ok-nodes-in-Or-clause-ends
cell_of_tree-returns-in_ok-nodes-in-Or-clause-ends t c =
    ends_same (trees_of c.args.cells.now.keys) c.as_slice-in-Or.result.now (parts_of c.args.tree.now) (trees_of c.nodes_of_trees-in-Or.new.cells.keys) (c.as_slice-in-Or.ensures ∙ sym (ap parts_of c.in-Or.is ∙ parts_or c.in-Or.operands)) c.in_ok-nodes-in-Or.ensures.ends

pub cell_of_tree-returns-in_err-node-in-Not-clause-visits : goal.cell_of_tree-returns-in_err-node-in-Not-clause-visits
cell_of_tree-returns-in_err-node-in-Not-clause-visits t c =
    visits_same (trees_of c.args.cells.now.keys) (only_part c.get.result.now) (parts_of c.args.tree.now) (trees_of c.node_of_tree.new.cells.keys) (ap only_part c.get.ensures ∙ sym (ap parts_of c.in-Not.is ∙ parts_not c.in-Not.part)) c.in_err-node-in-Not.ensures.visits

pub cell_of_tree-returns-in_ok-node-in-Not-clause-visits : goal.cell_of_tree-returns-in_ok-node-in-Not-clause-visits
cell_of_tree-returns-in_ok-node-in-Not-clause-visits t c =
    visits_same (trees_of c.args.cells.now.keys) (only_part c.get.result.now) (parts_of c.args.tree.now) (trees_of c.node_of_tree.new.cells.keys) (ap only_part c.get.ensures ∙ sym (ap parts_of c.in-Not.is ∙ parts_not c.in-Not.part)) c.in_ok-node-in-Not.ensures.visits

pub cell_of_tree-returns-in_ok-node-in-Not-clause-ends : goal.cell_of_tree-returns-in_ok-node-in-Not-clause-ends
cell_of_tree-returns-in_ok-node-in-Not-clause-ends t c =
    ends_same (trees_of c.args.cells.now.keys) (only_part c.get.result.now) (parts_of c.args.tree.now) (trees_of c.node_of_tree.new.cells.keys) (ap only_part c.get.ensures ∙ sym (ap parts_of c.in-Not.is ∙ parts_not c.in-Not.part)) (ends_one (trees_of c.args.cells.now.keys) (trees_of c.node_of_tree.new.cells.keys) c.get.result.now c.in_ok-node-in-Not.node.place c.in_ok-node-in-Not.ensures.last c.in_ok-node-in-Not.ensures.node)

pub cell_of_tree-returns-in_err-pair-in-Some-clause-visits : goal.cell_of_tree-returns-in_err-pair-in-Some-clause-visits
cell_of_tree-returns-in_err-pair-in-Some-clause-visits t c =
    visits_same (trees_of c.args.cells.now.keys) (only_part c.in-Some.part) (parts_of c.args.tree.now) (trees_of c.role_and_node.new.cells.keys) (sym (ap parts_of c.in-Some.is ∙ parts_some c.in-Some.role c.in-Some.part)) c.in_err-pair-in-Some.ensures.visits

pub cell_of_tree-returns-in_ok-pair-in-Some-clause-visits : goal.cell_of_tree-returns-in_ok-pair-in-Some-clause-visits
cell_of_tree-returns-in_ok-pair-in-Some-clause-visits t c =
    visits_same (trees_of c.args.cells.now.keys) (only_part c.in-Some.part) (parts_of c.args.tree.now) (trees_of c.role_and_node.new.cells.keys) (sym (ap parts_of c.in-Some.is ∙ parts_some c.in-Some.role c.in-Some.part)) c.in_ok-pair-in-Some.ensures.visits

pub cell_of_tree-returns-in_ok-pair-in-Some-clause-ends : goal.cell_of_tree-returns-in_ok-pair-in-Some-clause-ends
cell_of_tree-returns-in_ok-pair-in-Some-clause-ends t c =
    ends_same (trees_of c.args.cells.now.keys) (only_part c.in-Some.part) (parts_of c.args.tree.now) (trees_of c.role_and_node.new.cells.keys) (sym (ap parts_of c.in-Some.is ∙ parts_some c.in-Some.role c.in-Some.part)) c.in_ok-pair-in-Some.ensures.ends

pub cell_of_tree-returns-in_err-pair-in-All-clause-visits : goal.cell_of_tree-returns-in_err-pair-in-All-clause-visits
cell_of_tree-returns-in_err-pair-in-All-clause-visits t c =
    visits_same (trees_of c.args.cells.now.keys) (only_part c.in-All.part) (parts_of c.args.tree.now) (trees_of c.role_and_node-in-All.new.cells.keys) (sym (ap parts_of c.in-All.is ∙ parts_all c.in-All.role c.in-All.part)) c.in_err-pair-in-All.ensures.visits

pub cell_of_tree-returns-in_ok-pair-in-All-clause-visits : goal.cell_of_tree-returns-in_ok-pair-in-All-clause-visits
cell_of_tree-returns-in_ok-pair-in-All-clause-visits t c =
    visits_same (trees_of c.args.cells.now.keys) (only_part c.in-All.part) (parts_of c.args.tree.now) (trees_of c.role_and_node-in-All.new.cells.keys) (sym (ap parts_of c.in-All.is ∙ parts_all c.in-All.role c.in-All.part)) c.in_ok-pair-in-All.ensures.visits

pub cell_of_tree-returns-in_ok-pair-in-All-clause-ends : goal.cell_of_tree-returns-in_ok-pair-in-All-clause-ends
cell_of_tree-returns-in_ok-pair-in-All-clause-ends t c =
    ends_same (trees_of c.args.cells.now.keys) (only_part c.in-All.part) (parts_of c.args.tree.now) (trees_of c.role_and_node-in-All.new.cells.keys) (sym (ap parts_of c.in-All.is ∙ parts_all c.in-All.role c.in-All.part)) c.in_ok-pair-in-All.ensures.ends

pub cell_of_tree-returns-in_err-pair-in-Min-clause-visits : goal.cell_of_tree-returns-in_err-pair-in-Min-clause-visits
cell_of_tree-returns-in_err-pair-in-Min-clause-visits t c =
    visits_same (trees_of c.args.cells.now.keys) (only_part c.in-Min.part) (parts_of c.args.tree.now) (trees_of c.role_and_node-in-Min.new.cells.keys) (sym (ap parts_of c.in-Min.is ∙ parts_min c.in-Min.n c.in-Min.role c.in-Min.part)) c.in_err-pair-in-Min.ensures.visits

pub cell_of_tree-returns-in_ok-pair-in-Min-clause-visits : goal.cell_of_tree-returns-in_ok-pair-in-Min-clause-visits
cell_of_tree-returns-in_ok-pair-in-Min-clause-visits t c =
    visits_same (trees_of c.args.cells.now.keys) (only_part c.in-Min.part) (parts_of c.args.tree.now) (trees_of c.role_and_node-in-Min.new.cells.keys) (sym (ap parts_of c.in-Min.is ∙ parts_min c.in-Min.n c.in-Min.role c.in-Min.part)) c.in_ok-pair-in-Min.ensures.visits

pub cell_of_tree-returns-in_ok-pair-in-Min-clause-ends : goal.cell_of_tree-returns-in_ok-pair-in-Min-clause-ends
cell_of_tree-returns-in_ok-pair-in-Min-clause-ends t c =
    ends_same (trees_of c.args.cells.now.keys) (only_part c.in-Min.part) (parts_of c.args.tree.now) (trees_of c.role_and_node-in-Min.new.cells.keys) (sym (ap parts_of c.in-Min.is ∙ parts_min c.in-Min.n c.in-Min.role c.in-Min.part)) c.in_ok-pair-in-Min.ensures.ends

pub cell_of_tree-returns-in_err-pair-in-Max-clause-visits : goal.cell_of_tree-returns-in_err-pair-in-Max-clause-visits
cell_of_tree-returns-in_err-pair-in-Max-clause-visits t c =
    visits_same (trees_of c.args.cells.now.keys) (only_part c.in-Max.part) (parts_of c.args.tree.now) (trees_of c.role_and_node-in-Max.new.cells.keys) (sym (ap parts_of c.in-Max.is ∙ parts_max c.in-Max.n c.in-Max.role c.in-Max.part)) c.in_err-pair-in-Max.ensures.visits

pub cell_of_tree-returns-in_ok-pair-in-Max-clause-visits : goal.cell_of_tree-returns-in_ok-pair-in-Max-clause-visits
cell_of_tree-returns-in_ok-pair-in-Max-clause-visits t c =
    visits_same (trees_of c.args.cells.now.keys) (only_part c.in-Max.part) (parts_of c.args.tree.now) (trees_of c.role_and_node-in-Max.new.cells.keys) (sym (ap parts_of c.in-Max.is ∙ parts_max c.in-Max.n c.in-Max.role c.in-Max.part)) c.in_ok-pair-in-Max.ensures.visits

pub cell_of_tree-returns-in_ok-pair-in-Max-clause-ends : goal.cell_of_tree-returns-in_ok-pair-in-Max-clause-ends
cell_of_tree-returns-in_ok-pair-in-Max-clause-ends t c =
    ends_same (trees_of c.args.cells.now.keys) (only_part c.in-Max.part) (parts_of c.args.tree.now) (trees_of c.role_and_node-in-Max.new.cells.keys) (sym (ap parts_of c.in-Max.is ∙ parts_max c.in-Max.n c.in-Max.role c.in-Max.part)) c.in_ok-pair-in-Max.ensures.ends

pub cell_of_tree-returns-in_err-pair-in-Exact-clause-visits : goal.cell_of_tree-returns-in_err-pair-in-Exact-clause-visits
cell_of_tree-returns-in_err-pair-in-Exact-clause-visits t c =
    visits_same (trees_of c.args.cells.now.keys) (only_part c.in-Exact.part) (parts_of c.args.tree.now) (trees_of c.role_and_node-in-Exact.new.cells.keys) (sym (ap parts_of c.in-Exact.is ∙ parts_exact c.in-Exact.n c.in-Exact.role c.in-Exact.part)) c.in_err-pair-in-Exact.ensures.visits

pub cell_of_tree-returns-in_ok-pair-in-Exact-clause-visits : goal.cell_of_tree-returns-in_ok-pair-in-Exact-clause-visits
cell_of_tree-returns-in_ok-pair-in-Exact-clause-visits t c =
    visits_same (trees_of c.args.cells.now.keys) (only_part c.in-Exact.part) (parts_of c.args.tree.now) (trees_of c.role_and_node-in-Exact.new.cells.keys) (sym (ap parts_of c.in-Exact.is ∙ parts_exact c.in-Exact.n c.in-Exact.role c.in-Exact.part)) c.in_ok-pair-in-Exact.ensures.visits

pub cell_of_tree-returns-in_ok-pair-in-Exact-clause-ends : goal.cell_of_tree-returns-in_ok-pair-in-Exact-clause-ends
cell_of_tree-returns-in_ok-pair-in-Exact-clause-ends t c =
    ends_same (trees_of c.args.cells.now.keys) (only_part c.in-Exact.part) (parts_of c.args.tree.now) (trees_of c.role_and_node-in-Exact.new.cells.keys) (sym (ap parts_of c.in-Exact.is ∙ parts_exact c.in-Exact.n c.in-Exact.role c.in-Exact.part)) c.in_ok-pair-in-Exact.ensures.ends

pub node_of_tree-returns-in_err-cell-clause-visits : goal.node_of_tree-returns-in_err-cell-clause-visits
node_of_tree-returns-in_err-cell-clause-visits t c = visits_parts c.args.cells.now.keys c.args.tree.now (trees_of c.cell_of_tree.new.cells.keys) c.requires.is_pool c.in_err-cell.ensures.visits

pub node_of_tree-returns-in_err-node-clause-visits : goal.node_of_tree-returns-in_err-node-clause-visits
node_of_tree-returns-in_err-node-clause-visits t c =
    let mid = trees_of c.cell_of_tree.new.cells.keys in
    visits_tree c.args.cells.now.keys c.args.tree.now mid (trees_of c.node_of_cell.new.cells.keys) c.requires.is_pool c.in_ok-cell.ensures.visits
    (visits_same mid (only_part (tree_of mid c.in_ok-cell.cell)) (only_part c.args.tree.now) (trees_of c.node_of_cell.new.cells.keys) (ap only_part c.in_ok-cell.ensures.cell.1) c.in_err-node.ensures.visits)

pub node_of_tree-returns-clause-visits : goal.node_of_tree-returns-clause-visits
node_of_tree-returns-clause-visits t c =
    let mid = trees_of c.cell_of_tree.new.cells.keys in
    visits_tree c.args.cells.now.keys c.args.tree.now mid (trees_of c.node_of_cell.new.cells.keys) c.requires.is_pool c.in_ok-cell.ensures.visits
    (visits_same mid (only_part (tree_of mid c.in_ok-cell.cell)) (only_part c.args.tree.now) (trees_of c.node_of_cell.new.cells.keys) (ap only_part c.in_ok-cell.ensures.cell.1) c.in_ok-node.ensures.visits)

pub node_of_tree-returns-clause-last : goal.node_of_tree-returns-clause-last
node_of_tree-returns-clause-last t c =
    last_tree c.args.cells.now.keys c.cell_of_tree.new.cells.keys c.args.tree.now (trees_of c.node_of_cell.new.cells.keys) c.in_ok-node.node.place c.in_ok-cell.ensures.is_pool c.in_ok-cell.ensures.ends c.in_ok-node.ensures.last
    (c.in_ok-node.ensures.node ∙ ap (λ t. Some t) c.in_ok-cell.ensures.cell.1)

pub nodes_of_trees-returns-in_err-node-clause-visits : goal.nodes_of_trees-returns-in_err-node-clause-visits
nodes_of_trees-returns-in_err-node-clause-visits t c =
    let before = trees_of c.loop-tree.cells.keys in
    let after = trees_of c.node_of_tree.new.cells.keys in
    let here_is : slice_get c.args.trees.now c.loop-tree.tree-index ≡ Some c.tree-item.result = slice_get_read c.args.trees.now (length c.args.trees.now) c.loop-tree.tree-index c.tree-item.result refl c.loop-tree-test.true c.tree-item.is in
    visits_taken (c.loop-tree.tree-index + 1) (trees_of c.args.cells.now.keys) c.args.trees.now after
    (visits_same (trees_of c.args.cells.now.keys) _ _ after (taken_next c.args.trees.now c.loop-tree.tree-index c.tree-item.result here_is)
    (visits_next (trees_of c.args.cells.now.keys) (take c.loop-tree.tree-index c.args.trees.now) before (only_part c.tree-item.result) after c.loop-tree.invariant.3 c.in_err-node.ensures.visits))

pub nodes_of_trees-returns-in_err-push-clause-visits : goal.nodes_of_trees-returns-in_err-push-clause-visits
nodes_of_trees-returns-in_err-push-clause-visits t c =
    let before = trees_of c.loop-tree.cells.keys in
    let after = trees_of c.node_of_tree.new.cells.keys in
    let here_is : slice_get c.args.trees.now c.loop-tree.tree-index ≡ Some c.tree-item.result = slice_get_read c.args.trees.now (length c.args.trees.now) c.loop-tree.tree-index c.tree-item.result refl c.loop-tree-test.true c.tree-item.is in
    visits_taken (c.loop-tree.tree-index + 1) (trees_of c.args.cells.now.keys) c.args.trees.now after
    (visits_same (trees_of c.args.cells.now.keys) _ _ after (taken_next c.args.trees.now c.loop-tree.tree-index c.tree-item.result here_is)
    (visits_next (trees_of c.args.cells.now.keys) (take c.loop-tree.tree-index c.args.trees.now) before (only_part c.tree-item.result) after c.loop-tree.invariant.3 c.in_ok-node.ensures.visits))

pub role_and_node-returns-clause-ends : goal.role_and_node-returns-clause-ends
role_and_node-returns-clause-ends t c =
    ends_same (trees_of c.args.cells.now.keys) (only_part c.get.result.now) (only_part c.args.part.now) (trees_of c.node_of_tree.new.cells.keys) (ap only_part c.get.ensures)
    (ends_one (trees_of c.args.cells.now.keys) (trees_of c.node_of_tree.new.cells.keys) c.get.result.now c.in_ok-node.node.place c.in_ok-node.ensures.last c.in_ok-node.ensures.node)
