use Rattle.std.proofs.Common.{◌≡◌, length, take}
use Rattle.el_numbers.specs.inner.Indexes.{IsIndexOf}
use Rattle.el_numbers.proofs.index.index_numbers.Given as goal

abbrev pub invariant-loop-key : goal.invariant-loop-key
invariant-loop-key l = record {
  long : length l.rows.items ≡ l.count;
  index : IsIndexOf (take l.key-index l.pairs) l.rows.items;
}
