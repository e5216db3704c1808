use Rattle.std.proofs.Common.{◌≡◌, false, not, ◌&&◌, codes, sym, ◌∙◌}
use Rattle.std.specs.Str.{bytes_eq}
use Rattle.obo_clause.proofs.ShapeLemmas.{shape_behind-found}
use Rattle.obo_clause.proofs.fit.shape_at.Goals as goal

pub returns : goal.returns
returns c =
    let early : (bytes_eq c.args.tag.now (codes "id") && not c.args.first) ≡ false = sym c.if-is_late_id.ensures in
    rw early (c.shape.ensures ∙ shape_behind-found c.args.kind c.args.tag.now c.tag_of.result c.tag_of.ensures)
