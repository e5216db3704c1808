use Rattle.std.proofs.Common.{◌∙◌}
use Rattle.std.proofs.lemmas.List.Filters.{dedup_is}
use Rattle.owl_to_obo.specs.inner.Order.{key_of}
use Rattle.obo_text.proofs.OnceLemmas.{once_is}
use Rattle.owl_to_obo.proofs.given.sorted_given.Goals as goal

pub returns : goal.returns
returns c =
    λ told. dedup_is _ _ _ c.dedup.ensures.filtered ∙ once_is key_of _ _ c.sort_unstable.ensures.permutation c.sort_unstable.ensures.sorted told
