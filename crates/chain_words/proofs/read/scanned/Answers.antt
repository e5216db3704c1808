use Rattle.std.proofs.Common.{◌<◌, length, arith}
use Rattle.std.specs.String.{string_bytes}
use Rattle.std.proofs.lemmas.Result.{err_from_is_err_and}
use Rattle.chain_words.proofs.ScanLemmas.{scan_fails, scan_goes_on}
use Rattle.chain_words.proofs.read.scanned.Goals as goal

pub returns-in_err-draft : goal.returns-in_err-draft
returns-in_err-draft c =
    let p = err_from_is_err_and c.from_residual.result c.from_residual.ensures.1 in
    let within : c.loop-index.index < length c.args.words.now = omega arith in
    let told = rw c.as_bytes.ensures.value at c.in_err-draft.ensures in
    rw (p.1, p.2) (scan_fails string_bytes c.loop-index.draft c.args.words.now c.loop-index.index c.index-words-index.result _ _ c.loop-index.invariant within c.index-words-index.is told)

pub loop-index-preserved : goal.loop-index-preserved
loop-index-preserved c =
    let within : c.loop-index.index < length c.args.words.now = omega arith in
    let told = rw c.as_bytes.ensures.value at c.in_ok-draft.ensures in
    scan_goes_on string_bytes c.loop-index.draft c.in_ok-draft.draft c.args.words.now c.loop-index.index c.index-words-index.result _ c.loop-index.invariant within c.index-words-index.is told
