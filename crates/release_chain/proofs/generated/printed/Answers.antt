use Rattle.std.proofs.Common.{ap, length, ◌∙◌}
use Rattle.std.proofs.lemmas.Result.{err_from_is_err_and}
use Rattle.release_chain.proofs.Generating.{text_made, text_refused}
use Rattle.release_chain.proofs.generated.printed.Goals as goal

pub returns-in_err-text : goal.returns-in_err-text
returns-in_err-text c trace at =
    let p = err_from_is_err_and c.from_residual.result c.from_residual.ensures.1 in
    rw (p.1, p.2) (text_refused c.as_slice.result.now c.args.work.ontology trace _ at.ontology (c.as_slice.ensures ∙ at.files) c.in_err-text.ensures)

pub returns : goal.returns
returns c trace at =
    text_made c.args.work.ontology trace c.with_printed.result at.ontology c.in_ok-text.ensures.none (c.with_printed.ensures trace at (ap length (c.as_slice-2.ensures ∙ c.in_ok-text.ensures.text)))
