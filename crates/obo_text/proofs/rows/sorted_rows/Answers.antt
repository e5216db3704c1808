use Rattle.std.proofs.Common.{◌∙◌}
use Rattle.std.proofs.lemmas.List.Filters.{dedup_is}
use Rattle.obo_text.specs.inner.Rows.{row_key}
use Rattle.obo_text.proofs.OnceLemmas.{once_is}
use Rattle.obo_text.proofs.rows.sorted_rows.Goals as goal

pub returns : goal.returns
returns c =
    λ told. c.shrink_to_fit.ensures.items ∙ dedup_is _ _ _ c.dedup.ensures.filtered ∙ once_is row_key _ _ c.sort_unstable.ensures.permutation c.sort_unstable.ensures.sorted told
