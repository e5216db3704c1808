use Rattle.std.proofs.Common.{◌≡◌, length, take}
use Rattle.el_numbers.specs.inner.Indexes.{IsPairIndexOf}
use Rattle.el_numbers.proofs.index.index_pairs.Given as goal

abbrev pub invariant-loop-key : goal.invariant-loop-key
invariant-loop-key l = record {
  long : length l.rows.items ≡ l.count;
  index : IsPairIndexOf (take l.key-index l.triples) l.rows.items;
}
