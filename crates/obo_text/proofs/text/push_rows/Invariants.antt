use Rattle.std.proofs.Common.{◌≡◌, ◌++◌, take}
use Rattle.std.specs.List.{flat_map}
use Rattle.obo_text.specs.inner.Names.{look_in}
use Rattle.obo_text.specs.inner.Rows.{row_text}
use Rattle.obo_text.proofs.text.push_rows.Given as goal

abbrev pub invariant-loop-row : goal.invariant-loop-row
invariant-loop-row l = l.out.items ≡ l.fn.out.items ++ flat_map (row_text (look_in l.names) l.kind) (take l.row-index l.rows)
