-- Each rule over the table computes.
use Rattle.std.proofs.Common.{refl}
use Rattle.obo_tags.specs.inner.Rows.{row_tags}
use Rattle.obo_tags.specs.Table.{shape_of, tags_of}
use Rattle.obo_tags.proofs.table.rows.Goals as goal

pub returns-clause-told : goal.returns-clause-told
unfolding row_tags tags_of shape_of
returns-clause-told c = record { tags = refl; shapes = refl; headers = refl; terms = refl; typedefs = refl; instances = refl }
