use Rattle.std.proofs.Common.{refl}
use Rattle.release_chain.specs.Steps.{reduced_trace}
use Rattle.release_chain.proofs.StepLaws.{reduced_is_at}
use Rattle.release_chain.proofs.axioms.reduced.Goals as goal

pub returns-clause-answer : goal.returns-clause-answer
returns-clause-answer c trace at = record {
  state = reduced_trace c.args.keep trace;
  answered = refl;
  seen = reduced_is_at c.args.keep c.args.work _ trace (c.reduce.new.ontology, c.in_ok-removed.removed) at c.in_ok-removed.ensures.exact refl refl c.in_ok-entries.ensures.made c.in_ok-removed.ensures.keeps;
}
