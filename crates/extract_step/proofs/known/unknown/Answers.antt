use Rattle.std.proofs.Common.{ap, ◌∙◌}
use Rattle.extract_step.specs.Known.{missing_count}
use Rattle.extract_step.proofs.known.unknown.Goals as goal

pub returns : goal.returns
returns c = c.count_unknown-count.ensures ∙ ap (λ test. missing_count test c.args.iris.now) (λ i iri. c.in_ok-names.ensures iri i)
