-- The groups so far have the clauses so far.
use Rattle.std.proofs.Common.{◌≡◌, ℕ, List, take}
use Rattle.std.specs.Str.{bytes_eq}
use Rattle.indexmap.specs.IndexMap.{IsUnique}
use Rattle.obo_statements.specs.Groups.{group_meant}
use Rattle.obo_to_owl.specs.inner.Grouping.{gather_all, group_in, group_rows}
use Rattle.obo_to_owl.proofs.groups.groups_of.Given as goal

abbrev pub invariant-loop-row : goal.invariant-loop-row
invariant-loop-row l = record {
  members : (x : List ℕ) → group_in l.groups x ≡ gather_all (group_rows (group_meant l.group) x (take l.row-index l.rows));
  unique : IsUnique bytes_eq l.groups;
}
