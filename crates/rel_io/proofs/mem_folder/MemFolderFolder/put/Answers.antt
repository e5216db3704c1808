use Rattle.std.proofs.Common.{◌≡◌, Result, Ok, Err, Some, nat_eq, false, true, ap, refl, sym, ◌∙◌}
use Rattle.std.proofs.lemmas.Bool.{false≢true}
use Rattle.std.proofs.lemmas.Result.{err_from_is_err_and}
use Rattle.std.specs.FinMap.{insert}
use Rattle.std.specs.List.{list_any}
use Rattle.rel_io.specs.FileList.{files_of}
use Rattle.rel_io.specs.MemFolder.{MemFolderState, fails}
use Rattle.rel_io.specs.declared.folder.PutFault.{PutFault}
use Rattle.rel_io.specs.declared.folder.PutFault.TheVariants as fault
use Rattle.rel_io.proofs.Counts.{rose}
use Rattle.rel_io.proofs.Options.{none_there}
use Rattle.rel_io.proofs.mem_folder.MemFolderFolder.put.Goals as goal

-- want of memory is another fault than a failed write
other_fault : {T : Type 0} {r : Result T PutFault} → r ≡ Err fault.NoMemory → r ≡ Err fault.Failed → ⊥
other_fault no_memory failed = cc

-- what is done has not failed
not_failed : {T : Type 0} {x : T} {why : PutFault} → Ok x ≡ Err why → ⊥
not_failed e = cc

pub invariant_of-self : goal.invariant_of-self
invariant_of-self c = (c.self.invariant.0, λ _ none. absurd (none_there none))

pub returns-then-failing-clause-puts : goal.returns-then-failing-clause-puts
returns-then-failing-clause-puts c =
    rw (← c.self.view_is) (record {
      counted = rose _ _ c.saturating_add-self-inside-then-failing.ensures;
      others = record { told = refl; others = λ other differs. refl };
    })

pub returns-then-failing-clause-closed : goal.returns-then-failing-clause-closed
returns-then-failing-clause-closed c = refl

pub returns-then-failing-clause-fails : goal.returns-then-failing-clause-fails
returns-then-failing-clause-fails c =
    let failing : fails c.args.self.now ≡ true = ap fails (sym c.self.view_is) ∙ ap (list_any (λ number. nat_eq number c.self.inside.calls)) (sym c.deref.ensures.value) ∙ sym c.is_listed-failing.ensures ∙ c.if-failing.true in
    (λ _. failing, λ _. refl)

pub returns-then-failing-clause-failed : goal.returns-then-failing-clause-failed
returns-then-failing-clause-failed c =
    λ _. rw (← c.self.view_is, c.saturating_add-self-inside.ensures, c.saturating_add-self-inside-then-failing.ensures) refl

pub invariant_of-self-in_err-put_file : goal.invariant_of-self-in_err-put_file
invariant_of-self-in_err-put_file c = (c.self.invariant.0, λ _ none. absurd (none_there none))

pub returns-in_err-put_file-clause-puts : goal.returns-in_err-put_file-clause-puts
returns-in_err-put_file-clause-puts c =
    let p = err_from_is_err_and c.from_residual.result c.from_residual.ensures.1 in
    rw (p.1, p.2) (ap (λ files. Some (files_of files)) c.in_err-put_file.ensures.err ∙ ap (λ (m : MemFolderState). Some m.files) c.self.view_is)

pub returns-in_err-put_file-clause-closed : goal.returns-in_err-put_file-clause-closed
returns-in_err-put_file-clause-closed c = refl

pub returns-in_err-put_file-clause-fails : goal.returns-in_err-put_file-clause-fails
returns-in_err-put_file-clause-fails c =
    let p = err_from_is_err_and c.from_residual.result c.from_residual.ensures.1 in
    let works : fails c.args.self.now ≡ false = ap fails (sym c.self.view_is) ∙ ap (list_any (λ number. nat_eq number c.self.inside.calls)) (sym c.deref.ensures.value) ∙ sym c.is_listed-failing.ensures ∙ c.if-failing.false in
    (λ e. absurd (other_fault (p.1 ∙ ap Err p.2) e), λ t. absurd (false≢true (sym works ∙ t)))

pub returns-in_err-put_file-clause-done : goal.returns-in_err-put_file-clause-done
returns-in_err-put_file-clause-done c = rw ((err_from_is_err_and c.from_residual.result c.from_residual.ensures.1).1) tt

pub returns-in_err-put_file-clause-denied : goal.returns-in_err-put_file-clause-denied
returns-in_err-put_file-clause-denied c =
    λ _. rw (← c.self.view_is, c.saturating_add-self-inside.ensures, c.in_err-put_file.ensures.err) refl

pub invariant_of-self-2 : goal.invariant_of-self-2
invariant_of-self-2 c = (c.self.invariant.0, λ _ none. absurd (none_there none))

pub returns-clause-puts : goal.returns-clause-puts
returns-clause-puts c =
    ap Some c.in_ok-put_file.ensures.ok ∙ ap (λ (m : MemFolderState). Some (insert m.files c.args.name.now c.args.bytes.now)) c.self.view_is

pub returns-clause-closed : goal.returns-clause-closed
returns-clause-closed c = refl

pub returns-clause-fails : goal.returns-clause-fails
returns-clause-fails c =
    let works : fails c.args.self.now ≡ false = ap fails (sym c.self.view_is) ∙ ap (list_any (λ number. nat_eq number c.self.inside.calls)) (sym c.deref.ensures.value) ∙ sym c.is_listed-failing.ensures ∙ c.if-failing.false in
    (λ e. absurd (not_failed e), λ t. absurd (false≢true (sym works ∙ t)))

pub returns-clause-done : goal.returns-clause-done
returns-clause-done c = rw (← c.self.view_is, c.in_ok-put_file.ensures.ok, c.saturating_add-self-inside.ensures) refl
