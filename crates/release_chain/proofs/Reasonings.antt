-- How the step reason answers.
use Rattle.std.proofs.Common.{◌≡◌, ℕ, List, Option, Some, None, Result, Err, slice_get, refl, sym, ap, subst, ◌∙◌, ⊎_elim}
use Rattle.std.specs.Option.{option_map}
use Rattle.std.proofs.lemmas.Option.{same_Some, slice_get-map, slice_get_within}
use Rattle.rel_io.specs.Limits as limits
use Rattle.owl_axioms.specs.declared.body.Axiom.{Axiom}
use Rattle.owl_ontology.specs.Ontology.{Entry, OntologyState, axioms_of, origins_of}
use Rattle.owl_ontology.specs.declared.origin.Origin.{Origin}
use Rattle.chain_words.specs.Word.{Name}
use Rattle.el_taxonomy.specs.Reason.{IsRefused}
use Rattle.el_taxonomy.specs.declared.fault.ReasonFault.{ReasonFault}
use Rattle.el_taxonomy.specs.declared.fault.ReasonFault.TheVariants as reasons
use Rattle.plain_reasoning.specs.Laws.{ReasonOfIsTheAnswer}
use Rattle.plain_reasoning.specs.Reason.{Reasoning, TooManyFacts, Unsatisfiable, reason_of}
use Rattle.release_report.specs.Cause.{Refused, cause_of}
use Rattle.release_report.specs.declared.fault.Fault.{Fault}
use Rattle.release_report.specs.declared.fault.Fault.TheVariants as fault
use Rattle.release_chain.specs.Answer.{FailsBy}
use Rattle.release_chain.specs.Steps.{declared_name, fault_of_empty, file_at, reasoned_by, reasoned_or}
use Rattle.release_chain.specs.Trace.{Trace}
use Rattle.release_chain.specs.inner.Inference.{IsRefusal, IsWithin}

-- what the plain function answers is what the step comes to
pub step_answers : (trace : Trace) (before : OntologyState) (limit : ℕ) (told : Reasoning) → before ≡ trace.ontology → limit ≡ limits.facts → reason_of before limit ≡ told → reasoned_or trace ≡ reasoned_by trace told
step_answers trace before limit told is at plain = ap (reasoned_by trace) ((λ i. reason_of (sym is i) (sym at i)) ∙ plain)

-- the fault of an empty class is a refusal
empty_refused : (files : List Name) (one : Option Entry) → cause_of (fault_of_empty files one) ≡ Refused
empty_refused files None = refl
empty_refused files (Some entry) = refl

-- the place of a refusal is one of the ontology
pub is_within : (before : OntologyState) (limit : ℕ) (one : ReasonFault) → IsRefused before limit one → IsWithin before one
is_within before limit (reasons.Unsatisfiable at) is =
    let first = is.place.first in slice_get_within before.entries at first.entry first.declares.found
is_within before limit (reasons.TooManyFacts n) is = tt
is_within before limit reasons.NoMemory is = tt

no_memory : (told : Result Trace Fault) (one : Fault) → one ≡ fault.NoMemory → FailsBy (cause_of one) told one
no_memory told one is = subst (λ one. FailsBy (cause_of one) told one) (sym is) tt

-- a refusal of the step is that of the run
pub refusal_answers : (trace : Trace) (files : List Name) (before : OntologyState) (limit : ℕ) (reason : ReasonFault) (one : Fault)
    → ReasonOfIsTheAnswer → before ≡ trace.ontology → files ≡ trace.files → limit ≡ limits.facts → IsRefused before limit reason → IsRefusal files before reason one → FailsBy (cause_of one) (reasoned_or trace) one
refusal_answers trace files before limit (reasons.Unsatisfiable at) one plain is named bound refused told =
    ⊎_elim
    (no_memory (reasoned_or trace) one)
    (λ same.
    let empty = fault_of_empty files (slice_get before.entries at) in
    let answer : reasoned_or trace ≡ Err empty =
    step_answers trace before limit (Unsatisfiable at) is bound ((plain before limit (Unsatisfiable at)).0 refused) ∙ (λ i. Err (fault_of_empty (sym named i) (slice_get (sym is i).entries at))) in
    subst (λ one. FailsBy (cause_of one) (reasoned_or trace) one) (sym same)
    (subst (λ cause. FailsBy cause (reasoned_or trace) empty) (sym (empty_refused files (slice_get before.entries at))) answer))
    told
refusal_answers trace files before limit (reasons.TooManyFacts n) one plain is named bound refused told =
    subst (λ one. FailsBy (cause_of one) (reasoned_or trace) one) (sym told) (step_answers trace before limit (TooManyFacts n) is bound ((plain before limit (TooManyFacts n)).0 refused))
refusal_answers trace files before limit reasons.NoMemory one plain is named bound refused told = no_memory (reasoned_or trace) one told

-- what is told of a place is what its entry tells
pub tells_empty : (entries : List Entry) (at : ℕ) (files : List Name) (said : Axiom) (origin : Origin) (class : List ℕ) (file : Name)
    → slice_get (axioms_of entries) at ≡ Some said → slice_get (origins_of entries) at ≡ Some origin → class ≡ declared_name said.body → file ≡ file_at files origin
    → fault.Unsatisfiable class file origin.line ≡ fault_of_empty files (slice_get entries at)
tells_empty entries at files said origin class file axiom_there origin_there named filed =
    by_entry (slice_get entries at) (sym (slice_get-map (λ (e : Entry). e.«axiom») entries at) ∙ axiom_there) (sym (slice_get-map (λ (e : Entry). e.origin) entries at) ∙ origin_there)
  where
    by_entry : (one : Option Entry) → option_map (λ (e : Entry). e.«axiom») one ≡ Some said → option_map (λ (e : Entry). e.origin) one ≡ Some origin → fault.Unsatisfiable class file origin.line ≡ fault_of_empty files one
    by_entry None a o = absurd (let none : ◌≡◌ {A = Option Axiom} None (Some said) = a in cc)
    by_entry (Some e) a o =
        let same_axiom = same_Some (e.«axiom») said a in
        let same_origin = same_Some e.origin origin o in
        λ i. fault.Unsatisfiable ((named ∙ ap (λ (s : Axiom). declared_name s.body) (sym same_axiom)) i) ((filed ∙ ap (file_at files) (sym same_origin)) i) (sym same_origin i).line
