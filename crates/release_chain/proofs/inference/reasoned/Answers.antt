use Rattle.std.proofs.Common.{ap, refl, sym, subst, ◌∙◌}
use Rattle.rel_io.specs.declared.limits.Limits.{Limits}
use Rattle.el_taxonomy.specs.Reason.{IsRefused}
use Rattle.plain_reasoning.specs.Reason.{Reasoned}
use Rattle.release_report.specs.declared.entry.Entry.TheVariants as entry
use Rattle.release_chain.specs.Steps.{reasoned_trace}
use Rattle.release_chain.proofs.Reasonings.{is_within, refusal_answers, step_answers}
use Rattle.release_chain.proofs.StepLaws.{changed_is_at}
use Rattle.release_chain.proofs.inference.reasoned.Goals as goal

pub returns-in_ok-entries-in-Ok-clause-answer : goal.returns-in_ok-entries-in-Ok-clause-answer
returns-in_ok-entries-in-Ok-clause-answer c trace at =
    let said = c.in-Ok.said in
    let after = c.reason.new.ontology in
    record {
      state = reasoned_trace trace after said.added said.unused;
      answered = step_answers trace c.args.work.ontology c.release.result.facts (Reasoned after said.added said.unused) at.ontology (ap (λ (l : Limits). l.facts) c.release.ensures)
          ((c.reason_of_is_the_answer.ensures c.args.work.ontology c.release.result.facts (Reasoned after said.added said.unused)).0 c.in-Ok.ensures.reasoned);
      seen = changed_is_at c.args.work _ trace after (entry.Reasoned said.added said.unused) at refl refl c.in_ok-entries-in-Ok.ensures.made c.in-Ok.ensures.keeps;
    }

-- the refusal is one of the ontology as it was, which is the one that is there
pub refused-refusal-requires : goal.refused-refusal-requires
refused-refusal-requires c = record { within = is_within c.reason.new.ontology c.release.result.facts c.in-Err.fault (subst (λ o. IsRefused o c.release.result.facts c.in-Err.fault) (sym c.in-Err.ensures.unchanged) c.in-Err.ensures.refused) }

pub returns-in-Err-clause-answer : goal.returns-in-Err-clause-answer
returns-in-Err-clause-answer c trace at =
    refusal_answers trace c.as_slice.result.now c.reason.new.ontology c.release.result.facts c.in-Err.fault c.refused-refusal.result c.reason_of_is_the_answer.ensures (c.in-Err.ensures.unchanged ∙ at.ontology) (c.as_slice.ensures ∙ at.files)
    (ap (λ (l : Limits). l.facts) c.release.ensures) (subst (λ o. IsRefused o c.release.result.facts c.in-Err.fault) (sym c.in-Err.ensures.unchanged) c.in-Err.ensures.refused) c.refused-refusal.ensures
