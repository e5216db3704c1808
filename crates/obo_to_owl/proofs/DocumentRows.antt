-- The clauses of the rows are those of the document.
use Rattle.std.proofs.Common.{◌≡◌, List, [], ◌∷◌, map, refl, ap, ◌∙◌}
use Rattle.obo_frames.specs.Framed.{unlined}
use Rattle.obo_frames.specs.declared.placed.Placed.{Placed}
use Rattle.obo_to_owl.specs.inner.Rows.{clause_of, of_row}
use Rattle.obo_to_owl.specs.declared.rows.Row.{Row}

pub rows_are : (rows : List Row) (placed : List Placed) → map clause_of rows ≡ placed
    → map of_row rows ≡ map unlined placed
rows_are rows placed is = fused rows ∙ ap (map unlined) is
  where
    fused : (rows : List Row) → map of_row rows ≡ map unlined (map clause_of rows)
    fused [] = refl
    fused (row ∷ rows) = ap (λ more. of_row row ∷ more) (fused rows)
