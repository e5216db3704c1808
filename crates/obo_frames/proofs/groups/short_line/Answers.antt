use Rattle.std.proofs.lemmas.Result.{IfOk-weaker}
use Rattle.obo_frames.proofs.GroupLemmas.{both_tags}
use Rattle.obo_frames.proofs.groups.short_line.Goals as goal

pub returns : goal.returns
returns c =
    IfOk-weaker c.least_short-2.result _ _ (λ least is. both_tags c.in_ok-name.name c.args.placed.now _ least c.in_ok-name.ensures c.in_ok-least.ensures is) c.least_short-2.ensures
