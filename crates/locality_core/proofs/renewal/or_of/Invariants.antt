use Rattle.std.proofs.Common.{◌≡◌, take, map}
use Rattle.std.specs.List.{list_any, list_all}
use Rattle.expr_pool.specs.declared.cell.Node.{Node}
use Rattle.locality_tables.specs.Verdict.{is_empty, is_full}
use Rattle.locality_core.specs.inner.Renewal.{known_at}
use Rattle.locality_core.proofs.renewal.or_of.Given as goal

abbrev pub invariant-operands : goal.invariant-operands
invariant-operands l = record {
  any : l.any_full ≡ list_any is_full (map (λ (n : Node). known_at l.found n.place) (take l.node-index l.nodes));
  all : l.all_empty ≡ list_all is_empty (map (λ (n : Node). known_at l.found n.place) (take l.node-index l.nodes));
}
