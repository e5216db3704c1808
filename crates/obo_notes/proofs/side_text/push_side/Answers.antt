use Rattle.obo_notes.proofs.SideTexts.{side_text_parts}
use Rattle.obo_notes.proofs.side_text.push_side.Goals as goal

pub returns : goal.returns
returns c = rw (side_text_parts c.args.side.now) c.push_parts.ensures
