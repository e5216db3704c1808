-- The turn of a file that was fed whole.
use Rattle.std.proofs.Common.{◌≡◌, ℕ, ◌≤◌, Bool, false, List, Some, Result, Ok, Err, IfSome, inl, inr, length, nat_lt, sym, ap, subst, cond, ◌∙◌, arith}
use Rattle.std.proofs.lemmas.Bool.Decides.{nat_tests}
use Rattle.std.specs.FinMap.{get}
use Rattle.std.specs.Option.{option_map_or}
use Rattle.rel_io.specs.FolderState.{Files, FolderState}
use Rattle.rel_io.specs.declared.limits.Limits.{Limits}
use Rattle.obo_frames.specs.Answer.{document_of}
use Rattle.obo_frames.specs.Feeding.{finished}
use Rattle.obo_frames.specs.declared.fault.DocFault.{DocFault}
use Rattle.obo_frames.specs.declared.fault.DocFault.TheVariants as doc
use Rattle.obo_frames.specs.declared.placed.Placed.{Placed}
use Rattle.obo_frames.proofs.FeedingLemmas.{fed_is_read}
use Rattle.import_closure.specs.Closure.{document_answer, fault_in, file_answer, turn}
use Rattle.import_closure.specs.List.{Listed}
use Rattle.import_closure.specs.Loading.{FailsBy, IsRefusal, Loading, cause_of}
use Rattle.import_closure.specs.declared.fault.LoadFault.{LoadFault}
use Rattle.import_closure.specs.declared.fault.LoadFault.TheVariants as fault
use Rattle.import_closure.specs.declared.feed.Fed.{Fed}
use Rattle.import_closure.specs.declared.files.SourceFile.{SourceFile}
use Rattle.import_closure.specs.declared.files.Turn.{Turn}
use Rattle.import_closure.specs.inner.Feeding.{HasAll, HasFile}
use Rattle.import_closure.specs.inner.Turns.{IsSource, IsTurn, TakesTurn}
use Rattle.import_closure.proofs.LoadingLemmas.{if_told}

-- the turn of a file comes to what its feeder does
fed_answer : (limits : Limits) (left : ℕ) (one : Listed) (files : Files) (bytes : List ℕ) (fed : Fed) → fed.size ≤ left → get files one.name ≡ Some bytes → HasAll limits.line fed bytes → (turn files limits left one).answer ≡ document_answer one.name (finished fed.feeder)
fed_answer limits left one files bytes fed within held all =
    let size = all.size in
    let fits : nat_lt left (length bytes) ≡ false = grind (arith, nat_tests) in
    ap (file_answer limits left one) held
    ∙ (ap (λ (more : Bool). cond more (Err (fault.TooManyBytes one.name limits.bytes)) (document_answer one.name (document_of limits.line bytes))) fits
    ∙ ap (document_answer one.name) (sym (fed_is_read limits.line bytes fed.feeder all.feeder)))

turn_answers : (limits : Limits) (left : ℕ) (one : Listed) (before : FolderState) (fed : Fed) → HasFile limits.line one.name left before fed → IfSome before.holds (λ files. (turn files limits left one).answer ≡ document_answer one.name (finished fed.feeder))
turn_answers limits left one before fed has =
    if_told before.holds (λ files _ held. fed_answer limits left one files held.0 fed has.within held.1 held.2) has.held

turn_counts : (limits : Limits) (left : ℕ) (one : Listed) (before : FolderState) (fed : Fed) (taken : Turn) → HasFile limits.line one.name left before fed → document_answer one.name (finished fed.feeder) ≡ Ok taken.source → taken.size ≡ fed.size → IfSome before.holds (λ files. IsTurn files limits left one taken)
turn_counts limits left one before fed taken has is size =
    if_told before.holds (λ files _ held. record {
      answer = fed_answer limits left one files held.0 fed has.within held.1 held.2 ∙ is;
      size = size ∙ (held.2.size ∙ sym (ap (λ found. option_map_or length found 0) held.1));
    }) has.held

-- what is wrong with a document is a refusal
refuses_fault : (told : Files → Loading SourceFile) (before now : FolderState) (name : List ℕ) (one : DocFault) → IsRefusal told before (fault_in name one) → FailsBy (cause_of (fault_in name one)) told before (fault_in name one) now
refuses_fault told before now name (doc.NotUtf8 line) is = is
refuses_fault told before now name (doc.LineTooLong line) is = is
refuses_fault told before now name (doc.Syntax line kind) is = is
refuses_fault told before now name (doc.NoId line) is = is
refuses_fault told before now name (doc.ShortGroup line) is = is
refuses_fault told before now name doc.NoMemory is = tt

source_fails : (limits : Limits) (left : ℕ) (one : Listed) (before now : FolderState) (answer : Result (List Placed) DocFault) (failed : LoadFault) → document_answer one.name answer ≡ Err failed → IfSome before.holds (λ files. (turn files limits left one).answer ≡ document_answer one.name answer) → FailsBy (cause_of failed) (λ files. turn files limits left one) before failed now
source_fails limits left one before now (Ok placed) failed is turns = absurd (cc)
source_fails limits left one before now (Err wrong) failed is turns =
    let same : fault_in one.name wrong ≡ failed = cc in
    subst (λ (f : LoadFault). FailsBy (cause_of f) (λ files. turn files limits left one) before f now) same (refuses_fault (λ files. turn files limits left one) before now one.name wrong turns)

-- a file that was fed whole has had its turn
pub source_taken : (limits : Limits) (left : ℕ) (one : Listed) (before now : FolderState) (fed : Fed) (result : Result Turn LoadFault) → HasFile limits.line one.name left before fed → IsSource one.name (finished fed.feeder) fed.size result → TakesTurn limits left one before result now
source_taken limits left one before now fed (Ok taken) has is =
    let size = is.1 in let within = has.within in (omega arith, turn_counts limits left one before fed taken has is.0 is.1)
source_taken limits left one before now fed (Err failed) has (inl is) =
    source_fails limits left one before now (finished fed.feeder) failed is (turn_answers limits left one before fed has)
source_taken limits left one before now fed (Err failed) has (inr none) =
    subst (λ (f : LoadFault). FailsBy (cause_of f) (λ files. turn files limits left one) before f now) (sym none) tt
