-- What the words ask for.
use Rattle.std.proofs.Common.{◌≡◌, None, Result, Ok, Err, refl, sym, subst, inl, inr}
use Rattle.rel_io.specs.FolderState.{FolderState}
use Rattle.chain_words.specs.Fault.{Reading}
use Rattle.chain_words.specs.declared.command.Command.{Command}
use Rattle.chain_words.specs.declared.command.Command.TheVariants.{Run, Generate}
use Rattle.release_report.specs.Cause.{Cause, Words, Refused, Absent, NotRead, NotWritten, NotReported, RanOut, cause_of}
use Rattle.release_report.specs.declared.fault.Fault.{Fault}
use Rattle.release_report.specs.declared.fault.Fault.TheVariants as fault
use Rattle.release_chain.specs.Steps.{chain_part}
use Rattle.release_chain.specs.Run.{asked_by}
use Rattle.release_chain.specs.inner.Finish.{AskFails, WordsEnd}
use Rattle.release_chain.proofs.Parts.{ran_out_first}

-- the one fault of want of memory
pub ran_out_is : (one : Fault) → cause_of one ≡ RanOut → one ≡ fault.NoMemory
ran_out_is fault.NoMemory e = refl
ran_out_is other e = absurd (cc)

-- the one fault of the report
pub not_reported_is : (one : Fault) → cause_of one ≡ NotReported → one ≡ fault.SinkFault
not_reported_is fault.SinkFault e = refl
not_reported_is other e = absurd (cc)

-- the words alone are refused before anything is done
pub asked_words : (reading : Reading Command) (refusal : Fault) → asked_by reading ≡ Err refusal → cause_of refusal ≡ Words
asked_words (Err bad) refusal e = let is : fault.BadWord bad.index bad.kind ≡ refusal = cc in subst (λ one. cause_of one ≡ Words) is refl
asked_words (Ok command) refusal e = absurd (let none : ◌≡◌ {A = Result Command Fault} (Ok command) (Err refusal) = e in cc)

no_memory : (told : Result Command Fault) (before : FolderState) → WordsEnd told before (Err fault.NoMemory) before
no_memory (Err refusal) before = record { untouched = refl; refused = inr refl }
no_memory (Ok (Generate size)) before = record { untouched = refl; ends = record { merged = None; order = tt; answers = tt } }
no_memory (Ok (Run chain)) before = record {
  caused = tt;
  once = tt;
  ends = λ files is. record { merged = None; order = tt; ends = ran_out_first (chain_part files None chain) fault.NoMemory before.holds before.holds refl };
}

-- the words were not read
pub ask_fails : (told : Result Command Fault) (one : Fault) (cause : Cause) → cause_of one ≡ cause → AskFails cause told one → (before : FolderState) → WordsEnd told before (Err one) before
ask_fails told one Words is fails before = subst (λ told. WordsEnd told before (Err one) before) (sym fails) (record { untouched = refl; refused = inl refl })
ask_fails told one RanOut is fails before = subst (λ (one : Fault). WordsEnd told before (Err one) before) (sym (ran_out_is one is)) (no_memory told before)
ask_fails told one Refused is fails before = absurd fails
ask_fails told one Absent is fails before = absurd fails
ask_fails told one (NotRead name) is fails before = absurd fails
ask_fails told one (NotWritten name) is fails before = absurd fails
ask_fails told one NotReported is fails before = absurd fails
