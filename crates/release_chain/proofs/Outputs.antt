-- How the writing of an output ends.
use Rattle.std.proofs.Common.{◌≡◌, ℕ, Bool, List, Option, Some, None, Result, Ok, Err, refl, sym, ap, subst, ◌∙◌, ⊎_elim}
use Rattle.rel_io.specs.FolderState.{Files, FolderState}
use Rattle.owl_ontology.specs.Ontology.{OntologyState}
use Rattle.chain_words.specs.declared.command.Format.{Format}
use Rattle.chain_words.specs.declared.command.Format.TheVariants.{Obo, Ofn}
use Rattle.chain_words.specs.declared.command.Output.{Output as Wanted}
use Rattle.obo_mapping.specs.TwoValues.{TwoGiven, two_values}
use Rattle.release_report.specs.Cause.{Refused, cause_of}
use Rattle.release_report.specs.declared.fault.Fault.{Fault}
use Rattle.release_report.specs.declared.fault.Fault.TheVariants as fault
use Rattle.release_chain.specs.Ending.{Caused, Counted, Ends, IsTold}
use Rattle.release_chain.specs.Outputs.{Fits, ReadsAgain, text_of}
use Rattle.release_chain.specs.Part.{Part, answers, gives, puts, then_do}
use Rattle.release_chain.specs.Trace.{Trace}
use Rattle.release_chain.specs.Steps.{checked, fault_of_two, made_of, none_or, output_of, with_written, write_part}
use Rattle.release_chain.specs.declared.work.Work.{Work}
use Rattle.release_chain.specs.inner.Texts.{BlamesTwo, IsTextFor, NoTextFor}
use Rattle.release_chain.specs.inner.Work.{IsAt}
use Rattle.release_chain.proofs.Parts.{answered_ends, first_fails, ran_out_first, some_trace, some_trace-is_at, then_ends}

abbrev failed : Fault → Result Work Fault
failed one = Err one

abbrev pub AnyUnit : Unit {0} → Unit {0} → Type 0
AnyUnit a b = Unit {0}

-- what is done behind the test
abbrev pub rest_of : Wanted → Trace → Part Trace
rest_of file trace = then_do (puts (output_of file trace)) (λ _. gives (with_written file trace))

-- the text that was made is one of what is to be written
pub fits : (file : Wanted) (work : Work) (trace : Trace) (bytes : List ℕ) → IsTextFor file work bytes → IsAt work trace → Fits (made_of file trace) bytes
fits file work trace bytes text at = record {
  text = subst (λ o. bytes ≡ text_of file.format o) at.ontology text.text;
  reads_back = subst (ReadsAgain file.format) at.ontology text.reads_again;
  keeps = at.keeps;
}

-- its bytes are the text of the axioms of the run
pub text_in : (file : Wanted) (work : Work) (trace : Trace) (bytes : List ℕ) → IsTextFor file work bytes → IsAt work trace → bytes ≡ text_of file.format trace.ontology
text_in file work trace bytes text at = (fits file work trace bytes text at).text

-- the file was written
pub put_ends : (file : Wanted) (trace : Trace) (result : Result Work Fault) (before mid now : Option Files)
    → checked file trace ≡ Ok tt → IsTold AnyUnit (puts (output_of file trace)) tt before mid
    → Ends IsAt (gives (with_written file trace)) result mid now → Ends IsAt (write_part file trace) result before now
put_ends file trace result before mid now free told ends =
    answered_ends IsAt (checked file trace) (λ _. rest_of file trace) tt result before now free
    (then_ends AnyUnit IsAt (puts (output_of file trace)) (λ _. gives (with_written file trace)) tt result before mid now told (λ _ _. ends))

-- it was not
pub put_fails : (file : Wanted) (trace : Trace) (one : Fault) (before now : Option Files)
    → checked file trace ≡ Ok tt → Ends AnyUnit (puts (output_of file trace)) (Err one) before now → Ends IsAt (write_part file trace) (Err one) before now
put_fails file trace one before now free ends =
    answered_ends IsAt (checked file trace) (λ _. rest_of file trace) tt (Err one) before now free
    (first_fails AnyUnit IsAt (puts (output_of file trace)) (λ _. gives (with_written file trace)) one before now ends)

-- a refusal of two values has the cause of a refusal
pub refused_two : (files : List (List ℕ)) (o : OntologyState) (check : Bool) (one : Fault) → BlamesTwo files o check one → none_or files (two_values o.name check o.entries) ≡ Err one
refused_two files o check one blames = ap (none_or files) blames.least ∙ ap (λ (f : Fault). Err f) (sym blames.same)

-- a fault that the test answers is a refusal
pub checked_refuses : (files : List (List ℕ)) (o : OntologyState) (check : Bool) (one : Fault) → none_or files (two_values o.name check o.entries) ≡ Err one → cause_of one ≡ Refused
checked_refuses files o check one is = by_two (two_values o.name check o.entries) is
  where
    by_two : (two : Option TwoGiven) → none_or files two ≡ Err one → cause_of one ≡ Refused
    by_two None e = absurd (let none : ◌≡◌ {A = Result (Unit {0}) Fault} (Ok tt) (Err one) = e in cc)
    by_two (Some two) e = let same : fault_of_two files two ≡ one = cc in ap cause_of (sym same)

format_refuses : (file : Wanted) (trace : Trace) (format : Format) (one : Fault) → file.format ≡ format → checked file trace ≡ Err one → cause_of one ≡ Refused
format_refuses file trace Obo one is e = checked_refuses trace.files trace.ontology file.check one (subst (λ f. checked (record file { format = f }) trace ≡ Err one) is e)
format_refuses file trace Ofn one is e = absurd (let none : ◌≡◌ {A = Result (Unit {0}) Fault} (Ok tt) (Err one) = subst (λ f. checked (record file { format = f }) trace ≡ Err one) is e in cc)

-- no text was made
pub text_fails : (file : Wanted) (work : Work) (trace : Trace) (one : Fault) (before : Option Files) → NoTextFor file work one → IsAt work trace → Ends IsAt (write_part file trace) (Err one) before before
text_fails file work trace one before none at =
    ⊎_elim
    (λ is. rw is (ran_out_first (write_part file trace) fault.NoMemory before before refl))
    (λ told.
    let refusal = told trace (sym at.ontology) (sym at.files) in
    first_fails AnyUnit IsAt (answers (checked file trace)) (λ _. rest_of file trace) one before before
    (subst (λ cause. Rattle.release_chain.specs.Ending.StopsBy cause (answers (checked file trace)) one before before) (sym (format_refuses file trace file.format one refl refusal))
    (record { answered = refusal; did = refl })))
    none

-- and nothing was counted
pub caused_text : (file : Wanted) (work : Work) (one : Fault) (before : FolderState) → NoTextFor file work one → Caused (failed one) before before
caused_text file work one before none =
    ⊎_elim
    (λ is. rw is tt)
    (λ told.
    let at = some_trace-is_at work in
    subst (λ cause. Counted cause before before) (sym (format_refuses file (some_trace work) file.format one refl (told (some_trace work) (sym at.ontology) (sym at.files)))) tt)
    none
