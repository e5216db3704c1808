use Rattle.std.proofs.Common.{refl}
use Rattle.release_chain.specs.Steps.{relaxed_trace}
use Rattle.release_chain.proofs.StepLaws.{relaxed_is_at}
use Rattle.release_chain.proofs.axioms.relaxed.Goals as goal

pub returns-clause-answer : goal.returns-clause-answer
returns-clause-answer c trace at = record {
  state = relaxed_trace trace;
  answered = refl;
  seen = relaxed_is_at c.args.work _ trace (c.relax.new.ontology, c.in_ok-added.added) at c.in_ok-added.ensures.exact refl refl c.in_ok-entries.ensures.made c.in_ok-added.ensures.keeps;
}
