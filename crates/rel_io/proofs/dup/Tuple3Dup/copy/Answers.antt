use Rattle.std.proofs.lemmas.Result.{err_from_is_err_and}
use Rattle.rel_io.proofs.dup.Tuple3Dup.copy.Goals as goal

pub returns-in_err-first : goal.returns-in_err-first
returns-in_err-first g c = rw ((err_from_is_err_and c.from_residual.result c.from_residual.ensures.1).1) tt

pub returns-in_err-second : goal.returns-in_err-second
returns-in_err-second g c = rw ((err_from_is_err_and c.from_residual-in_err-second.result c.from_residual-in_err-second.ensures.1).1) tt

pub returns-in_err-third : goal.returns-in_err-third
returns-in_err-third g c = rw ((err_from_is_err_and c.from_residual-in_err-third.result c.from_residual-in_err-third.ensures.1).1) tt

pub returns : goal.returns
returns g c = λ i. (c.in_ok-first.ensures i, c.in_ok-second.ensures i, c.in_ok-third.ensures i)
