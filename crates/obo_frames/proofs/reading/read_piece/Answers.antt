use Rattle.std.proofs.Common.{◌≡◌, ◌++◌, arith, sym, take-append-drop, ◌∙◌}
use Rattle.std.proofs.lemmas.Result.{err_from_is_err_and}
use Rattle.obo_frames.proofs.ReadingLemmas.{parts_count, parts_fail, parts_go_on}
use Rattle.obo_frames.proofs.reading.read_piece.Goals as goal

pub returns-in_err-reading : goal.returns-in_err-reading
returns-in_err-reading c =
    let p = err_from_is_err_and c.from_residual.result c.from_residual.ensures.1 in
    let left = c.loop-left.left.now in
    let split : left ≡ c.split_at.result.0.now ++ c.split_at.result.1.now = sym (take-append-drop 65536 left) ∙ (λ i. sym c.split_at.ensures.front i ++ sym c.split_at.ensures.back i) in
    rw (p.1, p.2) (parts_fail c.args.reading c.loop-left.reading c.args.piece.now left _ _ _ c.loop-left.invariant.same split c.in_err-reading.ensures)

pub loop-left-preserved : goal.loop-left-preserved
loop-left-preserved c =
    let left = c.loop-left.left.now in
    let split : left ≡ c.split_at.result.0.now ++ c.split_at.result.1.now = sym (take-append-drop 65536 left) ∙ (λ i. sym c.split_at.ensures.front i ++ sym c.split_at.ensures.back i) in
    record {
      same = parts_go_on c.args.reading c.loop-left.reading c.in_ok-reading.reading c.args.piece.now left _ _ c.loop-left.invariant.same split c.in_ok-reading.ensures;
      few = let count = parts_count c.loop-left.reading c.in_ok-reading.reading left _ _ split c.in_ok-reading.ensures in let few = c.loop-left.invariant.few in omega arith;
    }
