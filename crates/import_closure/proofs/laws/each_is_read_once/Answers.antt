use Rattle.import_closure.specs.Closure.{setting}
use Rattle.import_closure.proofs.OnceLemmas.{read_once}
use Rattle.import_closure.proofs.laws.each_is_read_once.Goals as goal

pub returns : goal.returns
returns c files catalog = read_once (setting files catalog c.args.limits.now) c.args.inputs.now
