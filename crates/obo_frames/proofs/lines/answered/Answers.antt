use Rattle.obo_frames.proofs.AnswerLemmas.{item_is_answered}
use Rattle.obo_frames.proofs.lines.answered.Goals as goal

pub returns : goal.returns
returns c = item_is_answered c.args.place c.args.item c.read_item.result c.read_item.ensures.tells c.read_item.ensures.fails
