use Rattle.std.proofs.Common.{◌∙◌, ap}
use Rattle.std.proofs.lemmas.List.Filters.{dedup_is}
use Rattle.text_sets.specs.Keyed.{item_of, items_of, key_of}
use Rattle.text_sets.proofs.OnceLemmas.{sorted_once_is}
use Rattle.text_sets.proofs.keyed.sorted_once.Goals as goal

pub returns : goal.returns
returns g c =
    λ text keyed told. ap items_of (dedup_is _ _ _ c.dedup.ensures.filtered) ∙ sorted_once_is key_of item_of text _ _ c.sort_unstable.ensures.permutation c.sort_unstable.ensures.sorted keyed told
