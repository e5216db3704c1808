-- What is known of the nodes of a cell is what a function tells of their trees.
use Rattle.std.proofs.Common.{◌≡◌, ◌<◌, ◌≤◌, true, List, [], ◌∷◌, Some, length, map, nat_lt, slice_get, refl, sym, ap, ◌∙◌, arith}
use Rattle.std.specs.List.{list_all}
use Rattle.std.proofs.lemmas.Option.{get_or_from_slice_get, slice_get-get_or}
use Rattle.owl_axioms.specs.declared.expr.ClassExpr.{ClassExpr, out-ClassExpr}
use Rattle.owl_axioms.specs.declared.expr.ClassExpr.TheOpen.{ClassExpr-F}
use Rattle.owl_axioms.specs.declared.expr.ClassExpr.TheFolds.{map-ClassExpr}
use Rattle.expr_pool.proofs.Lists.{and_true, both, lt_from}
use Rattle.expr_pool.specs.Pool.{IsBefore, nodes_of, tree_at, tree_of}
use Rattle.expr_pool.specs.declared.cell.Cell.{Cell}
use Rattle.expr_pool.specs.declared.cell.Cell.TheVariants as cell
use Rattle.expr_pool.specs.declared.cell.Node.{Node}
use Rattle.locality_tables.specs.declared.finding.Finding.{Finding}
use Rattle.locality_tables.specs.declared.finding.Finding.TheVariants.{Unknown}
use Rattle.locality_core.proofs.Cells.{layer_of, out_at}
use Rattle.locality_core.specs.inner.Renewal.{Reads, known_at, known_layer}

module _ (ts : List ClassExpr) (found : List Finding) (v : ClassExpr → Finding) (reads : Reads ts found v) (n : Node) (inside : n.place < length ts) (parts : n.place ≤ length found) where
  abbrev Agree : Node → Type 0
  Agree m = known_at found m.place ≡ v (tree_at ts m)

  agree : (m : Node) → nat_lt m.place n.place ≡ true → Agree m
  agree m b =
      let l : m.place < n.place = lt_from m.place n.place b in
      get_or_from_slice_get found m.place (v (tree_at ts m)) Unknown (reads m.place (tree_at ts m) (slice_get-get_or ts m.place _ (omega (arith, l, inside))) (omega (arith, l, parts)))

  agree_all : (ns : List Node) → list_all (λ (m : Node). nat_lt m.place n.place) ns ≡ true → map (λ (m : Node). known_at found m.place) ns ≡ map v (map (tree_at ts) ns)
  agree_all [] h = refl
  agree_all (m ∷ ns) h = let p = both (nat_lt m.place n.place) (list_all (λ (k : Node). nat_lt k.place n.place) ns) h in let first = agree m p.0 in let rest = agree_all ns p.1 in λ i. first i ∷ rest i

  layer_known : (c : Cell) → IsBefore n.place c → known_layer found c ≡ map-ClassExpr _ _ v (layer_of ts c)
  unfolding known_layer layer_of nodes_of
  layer_known cell.Thing b = refl
  layer_known cell.Nothing b = refl
  layer_known (cell.Class iri) b = refl
  layer_known (cell.And ns) b = λ i. ClassExpr-F.And (agree_all ns b i)
  layer_known (cell.Or ns) b = λ i. ClassExpr-F.Or (agree_all ns b i)
  layer_known (cell.Not m) b = λ i. ClassExpr-F.Not (agree m (and_true _ b) i)
  layer_known (cell.Some r m) b = λ i. ClassExpr-F.Some r (agree m (and_true _ b) i)
  layer_known (cell.All r m) b = λ i. ClassExpr-F.All r (agree m (and_true _ b) i)
  layer_known (cell.Min k r m) b = λ i. ClassExpr-F.Min k r (agree m (and_true _ b) i)
  layer_known (cell.Max k r m) b = λ i. ClassExpr-F.Max k r (agree m (and_true _ b) i)
  layer_known (cell.Exact k r m) b = λ i. ClassExpr-F.Exact k r (agree m (and_true _ b) i)

  pub known_is : (c : Cell) → slice_get ts n.place ≡ Some (tree_of ts c) → IsBefore n.place c → known_layer found c ≡ map-ClassExpr _ _ v (out-ClassExpr (tree_at ts n))
  known_is c here b = layer_known c b ∙ ap (map-ClassExpr _ _ v) (sym (out_at ts n c here c refl))
