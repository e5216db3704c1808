use Rattle.std.proofs.Common.{refl, sym}
use Rattle.std.proofs.lemmas.Result.{err_from_is_err_and}
use Rattle.release_chain.specs.Steps.{made_of}
use Rattle.release_chain.specs.inner.Work.{IsAt}
use Rattle.release_chain.proofs.Outputs.{caused_text, fits, put_ends, put_fails, text_fails, text_in}
use Rattle.release_chain.proofs.Parts.{answer_caused, answer_ends, some_trace, some_trace-is_at}
use Rattle.release_chain.proofs.output.write_axioms.Goals as goal

pub returns-in_err-bytes-clause-caused : goal.returns-in_err-bytes-clause-caused
returns-in_err-bytes-clause-caused g c =
    let p = err_from_is_err_and c.from_residual.result c.from_residual.ensures.1 in
    rw (p.1, p.2) (caused_text c.args.file.now c.args.work _ (g.F.Folder.state c.args.folder.now) c.in_err-bytes.ensures)

pub returns-in_err-bytes-clause-ends : goal.returns-in_err-bytes-clause-ends
returns-in_err-bytes-clause-ends g c trace at =
    let p = err_from_is_err_and c.from_residual.result c.from_residual.ensures.1 in
    rw (p.1, p.2) (text_fails c.args.file.now c.args.work trace _ _ c.in_err-bytes.ensures at)

pub returns-in_err-put_file-clause-ends : goal.returns-in_err-put_file-clause-ends
returns-in_err-put_file-clause-ends g c trace at =
    let p = err_from_is_err_and c.from_residual-in_err-put_file.result c.from_residual-in_err-put_file.ensures.1 in
    let text = c.in_ok-bytes.ensures in
    rw (p.1, p.2) (put_fails c.args.file.now trace _ (g.F.Folder.state c.args.folder.now).holds (g.F.Folder.state c.put_file.new.folder).holds (text.told trace (sym at.ontology))
    (c.in_err-put_file.ensures.ends (made_of c.args.file.now trace) (rw c.as_slice.ensures (fits c.args.file.now c.args.work trace c.in_ok-bytes.bytes text at))))

pub returns-clause-caused : goal.returns-clause-caused
returns-clause-caused g c =
    let trace = some_trace c.args.work in
    answer_caused IsAt _ c.with_written.result _ _
    (c.with_written.ensures.answer trace c.args.file.now refl (text_in c.args.file.now c.args.work trace c.in_ok-bytes.bytes c.in_ok-bytes.ensures (some_trace-is_at c.args.work)) (some_trace-is_at c.args.work))

pub returns-clause-ends : goal.returns-clause-ends
returns-clause-ends g c trace at =
    let text = c.in_ok-bytes.ensures in
    put_ends c.args.file.now trace c.with_written.result _ (g.F.Folder.state c.put_file.new.folder).holds _ (text.told trace (sym at.ontology))
    (c.in_ok-put_file.ensures.ends (made_of c.args.file.now trace) (rw c.as_slice.ensures (fits c.args.file.now c.args.work trace c.in_ok-bytes.bytes text at)))
    (answer_ends IsAt _ c.with_written.result _ _ refl (c.with_written.ensures.answer trace c.args.file.now refl (text_in c.args.file.now c.args.work trace c.in_ok-bytes.bytes text at) at))
