use Rattle.std.proofs.Common.{◌≡◌, ℕ, List, None, drop}
use Rattle.std.specs.BTreeMap.{get}
use Rattle.text_sets.specs.Sorted.{text_cmp}
use Rattle.obo_text.specs.inner.Rows.{held_from}
use Rattle.obo_text.proofs.names.names_of.Given as goal

abbrev pub invariant-loop-row : goal.invariant-loop-row
invariant-loop-row l =
    (id : List ℕ) → held_from id (get text_cmp l.names id) (drop l.row-index l.rows) ≡ held_from id None l.rows
