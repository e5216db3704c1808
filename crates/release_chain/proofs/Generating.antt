-- How the parts of `generate` answer.
use Rattle.std.proofs.Common.{◌≡◌, ◌⊎◌, ℕ, List, true, None, Result, Ok, Err, sym, ap, subst, ◌∙◌, ⊎_elim}
use Rattle.obo_mapping.specs.TwoValues.{two_values}
use Rattle.owl_ontology.specs.Ontology.{OntologyState}
use Rattle.chain_words.specs.Word.{Name}
use Rattle.release_report.specs.Cause.{cause_of}
use Rattle.release_report.specs.declared.fault.Fault.{Fault}
use Rattle.release_report.specs.declared.fault.Fault.TheVariants as fault
use Rattle.release_chain.specs.Answer.{AnswersAs, FailsBy, then_answer}
use Rattle.release_chain.specs.Generated.{begun_or, printed_or, printed_trace, released_or}
use Rattle.release_chain.specs.Steps.{none_or}
use Rattle.release_chain.specs.Trace.{Trace}
use Rattle.release_chain.specs.declared.work.Work.{Work}
use Rattle.release_chain.specs.inner.Finish.{GeneratedEnds}
use Rattle.release_chain.specs.inner.Generating.{BegunEnds}
use Rattle.release_chain.specs.inner.Texts.{BlamesTwo}
use Rattle.release_chain.specs.inner.Work.{IsAt}
use Rattle.release_chain.proofs.Answering.{answered_then, refused_first}
use Rattle.release_chain.proofs.Outputs.{checked_refuses, refused_two}

-- ---- all of it

pub begun_fails : (size : ℕ) (one : Fault) → BegunEnds size (Err one) → GeneratedEnds size (Err one)
begun_fails size one begun = record {
  merged = begun.merged;
  order = begun.order;
  answers = refused_first IsAt IsAt (begun_or size begun.merged) (released_or size) one begun.answers;
}

pub begun_goes : (size : ℕ) (work : Work) (result : Result Work Fault) → BegunEnds size (Ok work) → ((trace : Trace) → IsAt work trace → AnswersAs IsAt (released_or size trace) result) → GeneratedEnds size result
begun_goes size work result begun later = record {
  merged = begun.merged;
  order = begun.order;
  answers = answered_then IsAt IsAt (begun_or size begun.merged) (released_or size) work result begun.answers later;
}

-- ---- the text

-- no text was made
pub text_refused : (files : List Name) (o : OntologyState) (trace : Trace) (one : Fault) → o ≡ trace.ontology → files ≡ trace.files → ((one ≡ fault.NoMemory) ⊎ BlamesTwo files o true one) → AnswersAs IsAt (printed_or trace) (Err one)
text_refused files o trace one is named told =
    ⊎_elim
    (λ none. subst (λ one. FailsBy (cause_of one) (printed_or trace) one) (sym none) tt)
    (λ blames.
    let refusal = refused_two files o true one blames in
    let here : none_or trace.files (two_values trace.ontology.name true trace.ontology.entries) ≡ Err one =
    (λ i. none_or (sym named i) (two_values (sym is i).name true (sym is i).entries)) ∙ refusal in
    subst (λ cause. FailsBy cause (printed_or trace) one) (sym (checked_refuses files o true one refusal)) (ap (λ told. then_answer told (λ _. Ok (printed_trace trace))) here))
    told

-- one was made
pub text_made : (o : OntologyState) (trace : Trace) (result : Result Work Fault) → o ≡ trace.ontology → two_values o.name true o.entries ≡ None → AnswersAs IsAt (Ok (printed_trace trace)) result → AnswersAs IsAt (printed_or trace) result
text_made o trace result is none answer =
    let here : none_or trace.files (two_values trace.ontology.name true trace.ontology.entries) ≡ Ok tt = ap (none_or trace.files) ((λ i. two_values (sym is i).name true (sym is i).entries) ∙ none) in
    subst (λ told. AnswersAs IsAt (then_answer told (λ _. Ok (printed_trace trace))) result) (sym here) answer
