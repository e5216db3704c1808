use Rattle.std.proofs.Common.{refl}
use Rattle.el_numbers.proofs.PutLemmas.{puts_any}
use Rattle.el_numbers.proofs.storing.put_below.Goals as goal

pub returns : goal.returns
returns c = puts_any c.args.rows.now (record c.args.rows.now { below = c.insert_at.new.rows }) c.args.lower c.args.upper c.in_ok-is_new.is_new c.requires.linked c.requires.within c.in_ok-is_new.ensures.inserts refl refl refl
