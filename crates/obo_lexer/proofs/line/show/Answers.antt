-- One more byte is written as the text has it.
use Rattle.std.proofs.Common.{arith, get_or, length, ◌<◌}
use Rattle.std.proofs.lemmas.List.{get_or_default}
use Rattle.std.proofs.lemmas.List.Edits.{map_over_more}
use Rattle.obo_lexer.specs.Lines.{shown}
use Rattle.obo_lexer.proofs.line.show.Goals as goal

pub loop-byte-preserved : goal.loop-byte-preserved
loop-byte-preserved c =
    let text = c.loop-byte.text in
    let at = c.loop-byte.byte-index in
    let within : at < length text = omega arith in
    rw c.shown.ensures (map_over_more shown c.args.text.now text at (get_or text at 0) (omega arith) c.loop-byte.invariant (get_or_default text at 0 _ within))
