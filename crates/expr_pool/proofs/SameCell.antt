-- Where `==` answers true of two cells, they are one.
use Rattle.std.proofs.Common.{Bool, true, nat_eq, refl, sym, ap, ◌∙◌}
use Rattle.std.specs.Cmp.Lexicographic.{pointwise}
use denote.Enum.Compared.{Each}
use Rattle.owl_axioms.proofs.Same.{EachTells, Tells, TellsAt, one, same_bytes, same_choice, same_list, same_number, same_one, same_three, same_two, tells_at, text, three, two}
use Rattle.expr_pool.specs.contracts.cell.Cell as row
use Rattle.expr_pool.specs.contracts.cell.CellPartialEq.TheImpl as cell_eq
use Rattle.expr_pool.specs.contracts.cell.NodePartialEq.TheImpl as node_eq
use Rattle.expr_pool.specs.declared.cell.Cell.{Cell}
use Rattle.expr_pool.specs.declared.cell.Node.{Node}

abbrev pub same_cell : Cell → Cell → Bool
same_cell = cell_eq.ghosts.eq

abbrev same_node : Node → Node → Bool
same_node = node_eq.ghosts.eq

node_tells : Tells same_node
node_tells x y h = λ i. record { place = same_number x.place y.place h i }

abbrev cell_each : Each Bool row.the_parts
cell_each = (
  (λ _ _. true),
  (
    (λ _ _. true),
    (
      one text,
      (
        one (pointwise same_node),
        (
          one (pointwise same_node),
          (
            one same_node,
            (
              two text same_node,
              (
                two text same_node,
                (three nat_eq text same_node, (three nat_eq text same_node, (three nat_eq text same_node, tt))),
              ),
            ),
          ),
        ),
      ),
    ),
  ),
)

same_three_of : Tells (three nat_eq text same_node)
same_three_of = same_three nat_eq text same_node same_number same_bytes node_tells

cell_tells : EachTells row.the_parts cell_each
cell_tells = (
  (λ x y h. refl),
  (
    (λ x y h. refl),
    (
      same_one text same_bytes,
      (
        same_one (pointwise same_node) (same_list same_node node_tells),
        (
          same_one (pointwise same_node) (same_list same_node node_tells),
          (
            same_one same_node node_tells,
            (
              same_two text same_node same_bytes node_tells,
              (
                same_two text same_node same_bytes node_tells,
                (same_three_of, (same_three_of, (same_three_of, tt))),
              ),
            ),
          ),
        ),
      ),
    ),
  ),
)

pub same_cell-true : Tells same_cell
same_cell-true c d h =
    let tells : TellsAt row.the_parts cell_each (row.as_values c) = tells_at row.the_parts cell_each cell_tells (row.as_values c) in
    sym (row.the_eta c) ∙ ap row.the_make (same_choice row.the_parts cell_each (row.as_values c) (row.as_values d) tells h) ∙ row.the_eta d
