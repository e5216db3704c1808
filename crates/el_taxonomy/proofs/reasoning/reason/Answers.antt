use Rattle.el_taxonomy.proofs.Entailed.{infers_keeps}
use Rattle.el_taxonomy.proofs.reasoning.reason.Goals as goal

pub returns-in-Ok-judged-clause-keeps : goal.returns-in-Ok-judged-clause-keeps
returns-in-Ok-judged-clause-keeps c = infers_keeps c.in_ok-part.ensures.part c.in-Ok-judged.ensures.infers
