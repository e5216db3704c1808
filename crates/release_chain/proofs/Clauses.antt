-- The clauses of the top call, from how the run and its report ended.
use Rattle.std.proofs.Common.{◌≡◌, List, [], Option, Some, None, Result, Ok, Err, IfOk, IfErr, refl, sym, ap, subst, ◌∙◌, inl, inr, ◌⊎◌, ⊎_elim}
use Rattle.std.specs.Result.{result_err}
use Rattle.std.proofs.lemmas.List.{append-nil}
use Rattle.rel_io.specs.FolderState.{Files, FolderState}
use Rattle.rel_io.specs.Sink.{Appends}
use Rattle.chain_words.specs.Read.{chain}
use Rattle.chain_words.specs.Word.{Word}
use Rattle.chain_words.specs.declared.command.Chain.{Chain}
use Rattle.chain_words.specs.declared.command.Command.{Command}
use Rattle.chain_words.specs.declared.command.Command.TheVariants.{Run, Generate}
use Rattle.release_report.specs.Cause.{Cause, Words, Refused, Absent, NotRead, NotWritten, NotReported, RanOut, cause_of}
use Rattle.release_report.specs.EntryText.{report_text}
use Rattle.release_report.specs.declared.fault.Fault.{Fault}
use Rattle.release_report.specs.declared.fault.Fault.TheVariants as fault
use Rattle.release_chain.specs.Answer.{FailsBy}
use Rattle.release_chain.specs.Generated.{generated_answer}
use Rattle.release_chain.specs.Ending.{Counted, StopsBy}
use Rattle.release_chain.specs.Part.{Part, answers}
use Rattle.release_chain.specs.Release.{CauseCounted, Counts, EndsAs, IsWordsRefused, NothingFailed, OutBy, Outside, ReportIs, ReportedPart, Stopped, WordsRefused}
use Rattle.release_chain.specs.Trace.{Trace}
use Rattle.release_chain.specs.Steps.{chain_part}
use Rattle.release_chain.specs.Run.{OfChain, OfRun, OfTold, asked, generated_part}
use Rattle.release_chain.specs.declared.work.Work.{Work}
use Rattle.release_chain.specs.inner.Finish.{FinishFails, IsReported, WordsEnd}
use Rattle.release_chain.specs.inner.Work.{IsAt}
use Rattle.release_chain.proofs.Asked.{asked_words, ran_out_is}

-- ---- what is said of a run

-- it is said of a chain where it is said over told files
pub of_chain : (chain : Chain) (held : Option Files) (P : Part Trace → Type 0) → ((files : Files) → held ≡ Some files → OfChain files chain P) → OfTold (Ok (Run chain)) held P
of_chain chain None P h = tt
of_chain chain (Some files) P h = h files refl

-- what follows from it is said too
pub of_more : {P Q : Part Trace → Type 0} (told : Result Command Fault) (held : Option Files) → ((run : Part Trace) → P run → Q run) → OfTold told held P → OfTold told held Q
of_more (Err refusal) held more says = more (answers (Err refusal)) says
of_more (Ok (Generate size)) held more says = record { merged = says.merged; order = says.order; says = more (generated_part size says.merged) says.says }
of_more (Ok (Run chain)) None more says = tt
of_more (Ok (Run chain)) (Some files) more says = record { merged = says.merged; order = says.order; says = more (chain_part files says.merged chain) says.says }

-- ---- counts

counted_outside : (cause : Cause) (before now : Outside) → Counted cause before.folder now.folder → CauseCounted cause before now
counted_outside Words before now counted = tt
counted_outside Refused before now counted = tt
counted_outside Absent before now counted = counted
counted_outside (NotRead name) before now counted = counted
counted_outside (NotWritten name) before now counted = counted
counted_outside NotReported before now counted = absurd counted
counted_outside RanOut before now counted = tt

-- what is answered without the folder counts nothing
answered_counted : (cause : Cause) (answer : Result Trace Fault) (one : Fault) (before now : Outside) → FailsBy cause answer one → CauseCounted cause before now
answered_counted Words answer one before now fails = tt
answered_counted Refused answer one before now fails = tt
answered_counted Absent answer one before now fails = absurd fails
answered_counted (NotRead name) answer one before now fails = absurd fails
answered_counted (NotWritten name) answer one before now fails = absurd fails
answered_counted NotReported answer one before now fails = absurd fails
answered_counted RanOut answer one before now fails = tt

-- every refusal of words is one of words
abbrev pub OfWords : Result Command Fault → Type 0
OfWords told = (refusal : Fault) → told ≡ Err refusal → cause_of refusal ≡ Words

words_counted : (told : Result Command Fault) (one : Fault) (before now : Outside) → OfWords told → WordsEnd told before.folder (Err one) now.folder → CauseCounted (cause_of one) before now
words_counted (Ok (Generate size)) one before now words ends = answered_counted (cause_of one) (generated_answer size ends.ends.merged) one before now ends.ends.answers
words_counted (Ok (Run chain)) one before now words ends = counted_outside (cause_of one) before now ends.caused
words_counted (Err refusal) one before now words ends =
    ⊎_elim
    (λ is. let same : one ≡ refusal = cc in let cause : cause_of one ≡ Words = ap cause_of same ∙ words refusal refl in rw cause tt)
    (λ is. let same : one ≡ fault.NoMemory = cc in rw same tt)
    ends.refused

finish_counts : (told : Result Command Fault) (one : Fault) (cause : Cause) (before now : Outside) → OfWords told → cause_of one ≡ cause → FinishFails cause told one before.folder now.folder before.out now.out → CauseCounted (cause_of one) before now
finish_counts told one Words before now words is fails = words_counted told one before now words fails.1
finish_counts told one Refused before now words is fails = words_counted told one before now words fails.1
finish_counts told one Absent before now words is fails = words_counted told one before now words fails.1
finish_counts told one (NotRead name) before now words is fails = words_counted told one before now words fails.1
finish_counts told one (NotWritten name) before now words is fails = words_counted told one before now words fails.1
finish_counts told one NotReported before now words is fails = rw is fails.says.counted
finish_counts told one RanOut before now words is fails = rw is tt

-- ---- where the run stopped

stops_by : (cause : Cause) (part : Part Trace) (one : Fault) (before now : Outside) → StopsBy cause part one before.folder.holds now.folder.holds → Stopped cause one part before now
stops_by Words part one before now stops = absurd stops
stops_by Refused part one before now stops = record { refusal = ap result_err stops.answered; did = stops.did }
stops_by Absent part one before now stops = record { refusal = ap result_err stops.answered; did = stops.did }
stops_by (NotRead name) part one before now stops = stops
stops_by (NotWritten name) part one before now stops = stops
stops_by NotReported part one before now stops = absurd stops
stops_by RanOut part one before now stops = stops

-- where the folder was not touched
answered_stops : (cause : Cause) (answer : Result Trace Fault) (one : Fault) (before now : Outside) → now.folder ≡ before.folder → FailsBy cause answer one → Stopped cause one (answers answer) before now
answered_stops Words answer one before now same fails = absurd fails
answered_stops Refused answer one before now same fails = record { refusal = ap result_err fails; did = ap (λ (state : FolderState). state.holds) same }
answered_stops Absent answer one before now same fails = absurd fails
answered_stops (NotRead name) answer one before now same fails = absurd fails
answered_stops (NotWritten name) answer one before now same fails = absurd fails
answered_stops NotReported answer one before now same fails = absurd fails
answered_stops RanOut answer one before now same fails = record { done = []; rest = []; in_order = refl; did = ap (λ (state : FolderState). state.holds) same }

run_stops : (told : Result Command Fault) (one : Fault) (before now : Outside) → OfWords told → WordsEnd told before.folder (Err one) now.folder → OfTold told before.folder.holds (λ run. Stopped (cause_of one) one run before now)
run_stops (Ok (Generate size)) one before now words ends = record {
  merged = ends.ends.merged;
  order = ends.ends.order;
  says = answered_stops (cause_of one) (generated_answer size ends.ends.merged) one before now ends.untouched ends.ends.answers;
}
run_stops (Ok (Run chain)) one before now words ends =
    of_chain chain before.folder.holds (λ run. Stopped (cause_of one) one run before now) (λ files is.
    let told = ends.ends files is in
    record { merged = told.merged; order = told.order; says = stops_by (cause_of one) (chain_part files told.merged chain) one before now told.ends })
run_stops (Err refusal) one before now words ends =
    ⊎_elim
    (λ is.
    let same : one ≡ refusal = cc in
    let cause : cause_of one ≡ Words = ap cause_of same ∙ words refusal refl in
    rw cause (record { refusal = ap (λ (one : Fault). Some one) (sym same); did = ap (λ (state : FolderState). state.holds) ends.untouched }))
    (λ is.
    let same : one ≡ fault.NoMemory = cc in
    rw same (record { done = []; rest = []; in_order = refl; did = ap (λ (state : FolderState). state.holds) ends.untouched }))
    ends.refused

-- a run that is done, and the state at its end
pub record IsDoneRun (work : Work) (before now : Outside) (run : Part Trace) : Type 0 where
  pub ends : EndsAs run None before now
  pub at : IfOk run.answer (λ trace. IsAt work trace)

at_ok : (answer : Result Trace Fault) (state : Trace) (work : Work) → answer ≡ Ok state → IsAt work state → IfOk answer (λ trace. IsAt work trace)
at_ok answer state work is at = subst (λ answer. IfOk answer (λ trace. IsAt work trace)) (sym is) at

pub run_done : (told : Result Command Fault) (work : Work) (before now : Outside) → WordsEnd told before.folder (Ok work) now.folder → OfTold told before.folder.holds (IsDoneRun work before now)
run_done (Ok (Generate size)) work before now ends =
    let answer = generated_answer size ends.ends.merged in
    let end = ends.ends.answers in
    record {
      merged = ends.ends.merged;
      order = ends.ends.order;
      says = record {
        ends = record { refusal = ap result_err end.answered; did = ap (λ (state : FolderState). state.holds) ends.untouched };
        at = at_ok answer end.state work end.answered end.seen;
      };
    }
run_done (Ok (Run chain)) work before now ends =
    of_chain chain before.folder.holds (IsDoneRun work before now) (λ files is.
    let told = ends.ends files is in
    let end = told.ends in
    record {
      merged = told.merged;
      order = told.order;
      says = record {
        ends = record { refusal = ap result_err end.done.answered; did = end.done.did };
        at = at_ok (chain_part files told.merged chain).answer end.state work end.done.answered end.told;
      };
    })
run_done (Err refusal) work before now ends = absurd (⊎_elim (λ is. let none : ◌≡◌ {A = Result Work Fault} (Ok work) (Err refusal) = is in absurd (cc)) (λ is. let none : ◌≡◌ {A = Result Work Fault} (Ok work) (Err fault.NoMemory) = is in absurd (cc)) ends.refused)

finish_stops : (told : Result Command Fault) (one : Fault) (cause : Cause) (before now : Outside) → OfWords told → cause_of one ≡ cause → FinishFails cause told one before.folder now.folder before.out now.out → OfTold told before.folder.holds (λ run. Stopped (cause_of one) one run before now)
finish_stops told one Words before now words is fails = run_stops told one before now words fails.1
finish_stops told one Refused before now words is fails = run_stops told one before now words fails.1
finish_stops told one Absent before now words is fails = run_stops told one before now words fails.1
finish_stops told one (NotRead name) before now words is fails = run_stops told one before now words fails.1
finish_stops told one (NotWritten name) before now words is fails = run_stops told one before now words fails.1
finish_stops told one NotReported before now words is fails =
    rw is (of_more told before.folder.holds (λ run (done : IsDoneRun fails.work before now run). done.ends) (run_done told fails.work before now fails.ends))
finish_stops told one RanOut before now words is fails =
    ⊎_elim
    (λ ends. run_stops told one before now words ends)
    (λ (done : IsReported told before.folder now.folder (λ _. Unit {0})). rw is (of_more told before.folder.holds (λ run (is : IsDoneRun done.work before now run). record {
      done = run.acts;
      rest = [];
      in_order = sym (append-nil run.acts);
      did = is.ends.did;
    }) (run_done told done.work before now done.ends)))
    fails.1

-- ---- completeness

completes : (told : Result Command Fault) (held : Option Files) (one : Fault) (cause : Cause) (before now : Outside) → cause_of one ≡ cause → OfTold told held (λ run. Stopped cause one run before now) → CauseCounted cause before now → NothingFailed before now → ¬ (Some one ≡ Some fault.NoMemory) → OfTold told held (λ run. EndsAs run (Some one) before now)
completes told held one Words before now is stops counted failed memory = stops
completes told held one Refused before now is stops counted failed memory = stops
completes told held one Absent before now is stops counted failed memory = stops
completes told held one (NotRead name) before now is stops counted failed memory = absurd (failed.read counted)
completes told held one (NotWritten name) before now is stops counted failed memory = absurd (failed.write counted)
completes told held one NotReported before now is stops counted failed memory = absurd (failed.out counted)
completes told held one RanOut before now is stops counted failed memory = absurd (memory (ap (λ (one : Fault). Some one) (ran_out_is one is)))

-- ---- the report

out_by : (words : List Word) (one : Fault) (cause : Cause) (before now : Outside) → FinishFails cause (asked words) one before.folder now.folder before.out now.out → OutBy cause words before now
out_by words one Words before now fails = fails.0
out_by words one Refused before now fails = fails.0
out_by words one Absent before now fails = fails.0
out_by words one (NotRead name) before now fails = fails.0
out_by words one (NotWritten name) before now fails = fails.0
out_by words one RanOut before now fails = fails.0
out_by words one NotReported before now fails = record {
  text = report_text fails.work.entries;
  told = of_more (asked words) before.folder.holds (λ run (done : IsDoneRun fails.work before now run). report_is fails.work run.answer done.at) (run_done (asked words) fails.work before now fails.ends);
  written = fails.says;
}
  where
    report_is : (work : Work) (answer : Result Trace Fault) → IfOk answer (λ trace. IsAt work trace) → IfOk answer (λ trace. report_text work.entries ≡ report_text trace.entries)
    report_is work (Ok trace) at = ap report_text at.entries
    report_is work (Err other) at = tt

-- the report of a run that is done
abbrev pub Done : List Word → Outside → Outside → Type 0
Done words before now = IsReported (asked words) before.folder now.folder (λ report. Appends report before.out now.out)

pub reported : (words : List Word) (before now : Outside) → Done words before now → Rattle.release_chain.specs.Release.Reported words before now
reported words before now done = record {
  text = report_text done.work.entries;
  told = of_more (asked words) before.folder.holds (λ run (is : IsDoneRun done.work before now run). at_end done.work run.answer is.at) (run_done (asked words) done.work before now done.ends);
  written = done.says;
}
  where
    at_end : (work : Work) (answer : Result Trace Fault) → IfOk answer (λ trace. IsAt work trace) → IfOk answer (λ trace. report_text work.entries ≡ report_text trace.entries)
    at_end work (Ok trace) at = ap report_text at.entries
    at_end work (Err other) at = tt

pub nothing_else : (words : List Word) (before now : Outside) → Done words before now → OfRun words before.folder.holds (λ run. EndsAs run None before now)
nothing_else words before now done = of_more (asked words) before.folder.holds (λ run (is : IsDoneRun done.work before now run). is.ends) (run_done (asked words) done.work before now done.ends)

-- ---- the clauses for a run and its report that ended with a fault

abbrev pub Fails : List Word → Fault → Outside → Outside → Type 0
Fails words one before now = FinishFails (cause_of one) (asked words) one before.folder now.folder before.out now.out

of_words : (words : List Word) → OfWords (asked words)
of_words words refusal is = asked_words (chain words) refusal is

pub counts : (words : List Word) (one : Fault) (before now : Outside) → Fails words one before now → CauseCounted (cause_of one) before now
counts words one before now fails = finish_counts (asked words) one (cause_of one) before now (of_words words) refl fails

pub stops : (words : List Word) (one : Fault) (before now : Outside) → Fails words one before now → OfRun words before.folder.holds (λ run. Stopped (cause_of one) one run before now)
stops words one before now fails = finish_stops (asked words) one (cause_of one) before now (of_words words) refl fails

pub complete : (words : List Word) (one : Fault) (before now : Outside) → Fails words one before now → NothingFailed before now → ¬ (Some one ≡ Some fault.NoMemory) → OfRun words before.folder.holds (λ run. EndsAs run (Some one) before now)
complete words one before now fails failed memory =
    completes (asked words) before.folder.holds one (cause_of one) before now refl (stops words one before now fails) (counts words one before now fails) failed memory

pub out : (words : List Word) (one : Fault) (before now : Outside) → Fails words one before now → OutBy (cause_of one) words before now
out words one before now fails = out_by words one (cause_of one) before now fails

-- ---- the words

words_always : (told : Result Command Fault) (one : Fault) (before now : Outside) → WordsEnd told before.folder (Err one) now.folder → IfErr told (λ refusal. (Some one ≡ Some refusal) ⊎ (Some one ≡ Some fault.NoMemory))
words_always (Ok command) one before now ends = tt
words_always (Err refusal) one before now ends =
    ⊎_elim (λ is. let same : one ≡ refusal = cc in inl (ap (λ (one : Fault). Some one) same)) (λ is. let same : one ≡ fault.NoMemory = cc in inr (ap (λ (one : Fault). Some one) same)) ends.refused

words_untouched : (told : Result Command Fault) (result : Result Work Fault) (before now : Outside) → WordsEnd told before.folder result now.folder → IfErr told (λ _. now.folder ≡ before.folder)
words_untouched (Ok command) result before now ends = tt
words_untouched (Err refusal) result before now ends = ends.untouched

-- neither a chain nor `generate` ends with a fault of words
words_only : (told : Result Command Fault) (one : Fault) (before now : Outside) → WordsEnd told before.folder (Err one) now.folder → cause_of one ≡ Words → told ≡ Err one
words_only (Ok (Generate size)) one before now ends is = absurd (subst (λ cause. FailsBy cause (generated_answer size ends.ends.merged) one) is ends.ends.answers)
words_only (Ok (Run chain)) one before now ends is = absurd (subst (λ cause. Counted cause before.folder now.folder) is ends.caused)
words_only (Err refusal) one before now ends is =
    ⊎_elim
    (λ told. let same : one ≡ refusal = cc in ap (λ (one : Fault). Err one) (sym same))
    (λ told. let same : one ≡ fault.NoMemory = cc in absurd (let cause : RanOut ≡ Words = sym (ap cause_of same) ∙ is in cc))
    ends.refused

by_end : (told : Result Command Fault) (one : Fault) (before now : Outside) → WordsEnd told before.folder (Err one) now.folder → IsWordsRefused told before (Some one) now
by_end told one before now ends = record {
  always = words_always told one before now ends;
  only = λ other e is. let same : one ≡ other = cc in words_only told one before now ends (ap cause_of same ∙ is) ∙ ap (λ (one : Fault). Err one) same;
  untouched = words_untouched told (Err one) before now ends;
}

-- where a run is done, the words ask for it
by_done : (told : Result Command Fault) (one : Fault) (work : Work) (before now : Outside) → WordsEnd told before.folder (Ok work) now.folder → ¬ (cause_of one ≡ Words) → IsWordsRefused told before (Some one) now
by_done (Ok command) one work before now ends other = record {
  always = tt;
  only = λ that e is. absurd (let same : one ≡ that = cc in other (ap cause_of same ∙ is));
  untouched = tt;
}
by_done (Err refusal) one work before now ends other = absurd (⊎_elim (λ is. let none : ◌≡◌ {A = Result Work Fault} (Ok work) (Err refusal) = is in absurd (cc)) (λ is. let none : ◌≡◌ {A = Result Work Fault} (Ok work) (Err fault.NoMemory) = is in absurd (cc)) ends.refused)

words_by : (told : Result Command Fault) (one : Fault) (cause : Cause) (before now : Outside) → cause_of one ≡ cause → FinishFails cause told one before.folder now.folder before.out now.out → IsWordsRefused told before (Some one) now
words_by told one Words before now is fails = by_end told one before now fails.1
words_by told one Refused before now is fails = by_end told one before now fails.1
words_by told one Absent before now is fails = by_end told one before now fails.1
words_by told one (NotRead name) before now is fails = by_end told one before now fails.1
words_by told one (NotWritten name) before now is fails = by_end told one before now fails.1
words_by told one NotReported before now is fails = by_done told one fails.work before now fails.ends (λ e. let none : NotReported ≡ Words = sym is ∙ e in cc)
words_by told one RanOut before now is fails =
    ⊎_elim (λ ends. by_end told one before now ends) (λ (done : IsReported told before.folder now.folder (λ _. Unit {0})). by_done told one done.work before now done.ends (λ e. let none : RanOut ≡ Words = sym is ∙ e in cc)) fails.1

pub words_refused : (words : List Word) (one : Fault) (before now : Outside) → Fails words one before now → WordsRefused words before (Some one) now
words_refused words one before now fails = words_by (asked words) one (cause_of one) before now refl fails
