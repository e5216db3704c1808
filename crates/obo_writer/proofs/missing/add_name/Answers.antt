use Rattle.std.proofs.Common.{◌||◌, ap, ◌∙◌}
use Rattle.obo_to_owl.proofs.SpaceLemmas.{either_way, name_back}
use Rattle.obo_writer.specs.inner.Missing.{has_name, name_eq}
use Rattle.obo_writer.proofs.missing.add_name.Goals as goal

pub returns : goal.returns
returns c = λ x. c.in_ok-insert.ensures.updates.0 x ∙ either_way (name_eq c.args.name x) (has_name c.args.set.now x) ∙ ap (λ b. b || has_name c.args.set.now x) (name_back c.args.name x)
