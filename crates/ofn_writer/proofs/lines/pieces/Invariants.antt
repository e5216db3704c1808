use Rattle.std.proofs.Common.{◌≡◌, ◌++◌, drop, map}
use Rattle.ofn_writer.specs.inner.Pieces.{Fit, pieces}
use Rattle.ofn_writer.proofs.lines.pieces.Given as goal

abbrev pub invariant-loop-length : goal.invariant-loop-length
invariant-loop-length l =
    let left = drop l.length-index l.lengths in
    (map (λ text. text.now) l.texts.items ++ pieces l.rest left ≡ pieces l.fn.buffer l.lengths) × Fit l.rest left
