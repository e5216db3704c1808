use Rattle.import_merge.proofs.DecidingLemmas.{files_decide}
use Rattle.import_merge.proofs.laws.files_decide.Goals as goal

pub returns : goal.returns
returns c = files_decide c.args.one.now c.args.other.now
