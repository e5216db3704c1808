use Rattle.std.proofs.Common.{refl}
use Rattle.std.proofs.lemmas.Result.{err_from_is_err_and}
use Rattle.rel_io.specs.inner.Finding.{IsAbsent, IsFoundAt}
use Rattle.rel_io.proofs.mem_folder.put_file.Goals as goal

pub returns-in_err-from_slice-clause-ok : goal.returns-in_err-from_slice-clause-ok
returns-in_err-from_slice-clause-ok c = rw ((err_from_is_err_and c.from_residual.result c.from_residual.ensures.1).1) tt

pub returns-in_err-from_slice-clause-err : goal.returns-in_err-from_slice-clause-err
returns-in_err-from_slice-clause-err c = rw ((err_from_is_err_and c.from_residual.result c.from_residual.ensures.1).1) refl

pub returns-in_err-from_slice-2-clause-ok : goal.returns-in_err-from_slice-2-clause-ok
returns-in_err-from_slice-2-clause-ok c =
    rw ((err_from_is_err_and c.from_residual-in_err-from_slice-2.result c.from_residual-in_err-from_slice-2.ensures.1).1) tt

pub returns-in_err-from_slice-2-clause-err : goal.returns-in_err-from_slice-2-clause-err
returns-in_err-from_slice-2-clause-err c =
    rw ((err_from_is_err_and c.from_residual-in_err-from_slice-2.result c.from_residual-in_err-from_slice-2.ensures.1).1) refl

pub returns-in_err-push-in-None-clause-ok : goal.returns-in_err-push-in-None-clause-ok
returns-in_err-push-in-None-clause-ok c =
    rw ((err_from_is_err_and c.from_residual-in_err-push-in-None.result c.from_residual-in_err-push-in-None.ensures.1).1) tt

pub returns-in-Some-clause-ok : goal.returns-in-Some-clause-ok
returns-in-Some-clause-ok c =
    let found : IsFoundAt c.args.files.now.items c.args.name.now c.in-Some.at = rw c.deref.ensures.value at c.in-Some.ensures in
    rw (c.in_ok-from_slice.ensures, c.in_ok-from_slice-2.ensures) (found.replaced c.args.bytes.now)

pub returns-in_ok-push-in-None-clause-ok : goal.returns-in_ok-push-in-None-clause-ok
returns-in_ok-push-in-None-clause-ok c =
    let absent : IsAbsent c.args.files.now.items c.args.name.now = rw c.deref.ensures.value at c.in-None.ensures in
    rw (c.in_ok-push-in-None.ensures.items, c.in_ok-from_slice.ensures, c.in_ok-from_slice-2.ensures) (absent.added c.args.bytes.now)
