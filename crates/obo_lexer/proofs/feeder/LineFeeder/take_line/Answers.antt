-- What is taken from the front was among the texts that wait.
use Rattle.obo_lexer.proofs.TextLemmas.{HasLineText-taken}
use Rattle.obo_lexer.proofs.feeder.LineFeeder.take_line.Goals as goal

pub returns-clause-text : goal.returns-clause-text
returns-clause-text c =
    rw (← c.self.view_is) (HasLineText-taken c.self.inside.lines.limit c.pop_front.result c.self.inside.lines.waiting.items c.pop_front.new.self.items c.pop_front.ensures.items c.self.invariant.texts)
