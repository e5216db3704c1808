use Rattle.std.proofs.Common.{sym}
use Rattle.std.proofs.lemmas.Bool.{false_from_ne_true}
use Rattle.obo_tags.proofs.ForeignLemmas.{raw_if_foreign}
use Rattle.obo_clause.proofs.ShapeLemmas.{shape_in-unknown}
use Rattle.owl_to_obo.proofs.given.tag_place.Goals as goal

pub returns-in-None : goal.returns-in-None
returns-in-None c =
    sym ((raw_if_foreign c.args.kind c.args.tag.now).0 (shape_in-unknown c.args.kind c.args.tag.now (false_from_ne_true _ c.in-None.ensures)))
