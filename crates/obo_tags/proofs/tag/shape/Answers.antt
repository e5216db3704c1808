-- The tag is not foreign, so its row says the shape.
use Rattle.std.proofs.Common.{rules, ◌∙◌}
use Rattle.obo_tags.proofs.TableLemmas.{shape-at, shape_behind-known}
use Rattle.obo_tags.proofs.tag.shape.Goals as goal

pub returns : goal.returns
returns c =
    shape-at c.in-Some.tag c.rows.result.now c.rows.ensures.told c.from.result c.tag.inside.row _ c.from.ensures c.tag.invariant c.tag.view_is ∙ shape_behind-known c.args.kind c.args.tag c.in-Some.tag c.in-Some.is (search rules)
