use Rattle.el_numbers.proofs.MetLemmas.{noted}
use Rattle.el_numbers.proofs.met.Met.note.Goals as goal

pub returns : goal.returns
returns c = noted c.args.self.now (record { counts = c.insert.new.self }) c.args.c c.args.a c.args.count c.in_ok-insert.ensures.updates.0
