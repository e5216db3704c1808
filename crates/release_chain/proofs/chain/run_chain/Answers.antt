use Rattle.std.proofs.Common.{sym, subst}
use Rattle.std.proofs.lemmas.Result.{err_from_is_err_and}
use Rattle.release_chain.specs.inner.Names.{AreApart}
use Rattle.release_chain.proofs.Chains.{chain_apart, first_output_fails, load_stops, steps_end}
use Rattle.release_chain.proofs.chain.run_chain.Goals as goal

pub returns-in_err-work-clause-ends : goal.returns-in_err-work-clause-ends
returns-in_err-work-clause-ends g c files is =
    let p = err_from_is_err_and c.from_residual.result c.from_residual.ensures.1 in
    rw (p.1, p.2) (load_stops files c.args.chain.now _ _ _ (c.in_err-work.ensures.ends files is))

pub returns-in_err-work-2-clause-ends : goal.returns-in_err-work-2-clause-ends
returns-in_err-work-2-clause-ends g c files is =
    let p = err_from_is_err_and c.from_residual-in_err-work-2.result c.from_residual-in_err-work-2.ensures.1 in
    rw (p.1, p.2) (first_output_fails files c.args.chain.now c.in_ok-work.work _ _ (g.F.Folder.state c.load_inputs.new.folder).holds _ (c.in_ok-work.ensures.ends files is)
    (λ state told. c.in_err-work-2.ensures.ends state told))

pub do_steps-requires-clause-apart : goal.do_steps-requires-clause-apart
do_steps-requires-clause-apart g c = subst AreApart (sym c.as_slice.ensures) (chain_apart c.args.chain.now c.requires.apart)

pub returns-clause-ends : goal.returns-clause-ends
returns-clause-ends g c files is =
    steps_end files c.args.chain.now c.in_ok-work.work c.in_ok-work-2.work c.do_steps.result _ (g.F.Folder.state c.load_inputs.new.folder).holds (g.F.Folder.state c.put_output.new.folder).holds _
    c.requires.apart is (c.in_ok-work.ensures.ends files is) (λ state told. c.in_ok-work-2.ensures.ends state told)
    (rw c.as_slice.ensures at (c.do_steps.ensures.ends files))
