use Rattle.std.proofs.Common.{ap, subst, ◌∙◌}
use Rattle.obo_frames.specs.Feeding.{IsAnswer, finished}
use Rattle.obo_frames.proofs.FeedingLemmas.{fed_is_read}
use Rattle.obo_frames.proofs.feeder.DocumentFeeder.finish.Goals as goal

pub returns-clause-document : goal.returns-clause-document
returns-clause-document c limit bytes fed =
    subst (λ wanted. IsAnswer wanted c.ended.result) (ap finished c.self.view_is ∙ fed_is_read limit bytes c.args.self fed) c.ended.ensures
