use Rattle.obo_frames.proofs.LawLemmas.{lines_rise, lines_spell}
use Rattle.obo_frames.proofs.laws.lines_are_placed.Goals as goal

pub returns : goal.returns
returns c = record {
  rise = lines_rise c.args.line_limit c.args.bytes.now;
  spell = lines_spell c.args.line_limit c.args.bytes.now;
}
