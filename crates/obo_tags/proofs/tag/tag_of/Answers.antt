-- The search finds the row of the name, or none has it.
use Rattle.std.proofs.Common.{rules}
use Rattle.std.proofs.lemmas.Cmp.{nat_list_cmp_total}
use Rattle.std.proofs.lemmas.Fn.{always_returns_same}
use Rattle.std.proofs.lemmas.List.Sorted.{searchable_from_sorted}
use Rattle.std.specs.Cmp.Lexicographic.{slice_cmp}
use Rattle.std.specs.Ordering.{nat_cmp}
use Rattle.obo_tags.specs.inner.Rows.{Row}
use Rattle.obo_tags.proofs.TableLemmas.{found-at, none-found, rows-sorted}
use Rattle.obo_tags.proofs.tag.tag_of.Goals as goal

pub returns-in-Ok : goal.returns-in-Ok
returns-in-Ok c =
    let name = c.args.name.now in
    let at = c.in-Ok.ensures.position (λ (row : Row). slice_cmp nat_cmp row.0.now name) (always_returns_same _ _ _ (λ a r g h. search rules)) in
    found-at c.rows.result.now c.rows.ensures.told c.in-Ok.row name (search rules) at

pub returns-in-Err : goal.returns-in-Err
returns-in-Err c =
    let name = c.args.name.now in
    let rows = c.rows.result.now in
    let parts = c.in-Err.ensures.position (λ (row : Row). slice_cmp nat_cmp row.0.now name) (always_returns_same _ _ _ (λ a r g h. search rules)) in
    none-found rows c.rows.ensures.told c.in-Err.field-0 name (search rules) (parts (searchable_from_sorted nat_list_cmp_total (λ (row : Row). row.0.now) rows name (rows-sorted rows c.rows.ensures.told)))
