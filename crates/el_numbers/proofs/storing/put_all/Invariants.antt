use Rattle.std.proofs.Common.{◌≤◌, take}
use Rattle.el_numbers.specs.inner.Storing.{Adds}
use Rattle.el_numbers.proofs.storing.put_all.Given as goal

abbrev pub invariant-loop-fact : goal.invariant-loop-fact
invariant-loop-fact l = record {
  adds : Adds l.initial.rows l.initial.waiting.items (take l.fact-index l.facts) l.rows l.waiting.items;
  few : l.rows.count ≤ l.limit;
}
