use Rattle.obo_tags.proofs.ForeignLemmas.{raw_if_foreign}
use Rattle.obo_tags.proofs.laws.raw_is_foreign.Goals as goal

pub returns : goal.returns
returns c = raw_if_foreign c.args.kind c.args.tag.now
