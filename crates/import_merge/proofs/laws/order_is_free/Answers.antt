use Rattle.import_merge.proofs.DecidingLemmas.{order_is_free}
use Rattle.import_merge.proofs.laws.order_is_free.Goals as goal

pub returns : goal.returns
returns c = order_is_free c.args.one.now c.args.other.now
