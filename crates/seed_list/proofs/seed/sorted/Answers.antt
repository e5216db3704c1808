use Rattle.std.proofs.Common.{ℕ, List, ap, map, sym, ◌∙◌}
use Rattle.std.proofs.lemmas.List.Filters.{dedup_is}
use Rattle.text_sets.specs.Sorted.{sorted_by}
use Rattle.text_sets.proofs.OnceLemmas.{sorted_once_is}
use Rattle.seed_list.proofs.SameLemmas.{map_same}
use Rattle.seed_list.proofs.seed.sorted.Goals as goal

pub returns : goal.returns
returns c =
    let iris = c.args.iris.items in
    let itself : List ℕ → List ℕ = λ iri. iri in
    dedup_is _ _ _ c.dedup.ensures.filtered
    ∙ (sym (map_same _)
    ∙ sorted_once_is itself itself itself iris c.sort_unstable.new.self.items c.sort_unstable.ensures.permutation c.sort_unstable.ensures.sorted (ap (map itself) (sym (map_same iris))) (λ x y _ _ same. same)
    ∙ ap (sorted_by itself) (map_same iris))
