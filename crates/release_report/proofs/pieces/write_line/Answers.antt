use Rattle.std.proofs.Common.{codes}
use Rattle.std.proofs.lemmas.Result.{err_from_is_err_and}
use Rattle.std.specs.List.{flat_map}
use Rattle.release_report.specs.inner.Piece.{piece_text}
use Rattle.release_report.proofs.Writing.{writes_first, writes_later}
use Rattle.release_report.proofs.pieces.write_line.Goals as goal

pub returns-in_err-write_pieces-clause-writes : goal.returns-in_err-write_pieces-clause-writes
returns-in_err-write_pieces-clause-writes g c =
    let p = err_from_is_err_and c.from_residual.result c.from_residual.ensures.1 in
    rw p.1 (writes_first (flat_map piece_text c.args.pieces.now) (codes "\n") (g.E.Sink.state c.args.sink.now) (g.E.Sink.state c.write_pieces.new.sink) _ c.in_err-write_pieces.ensures.writes)

pub returns-clause-writes : goal.returns-clause-writes
returns-clause-writes g c =
    writes_later (flat_map piece_text c.args.pieces.now) (codes "\n") (g.E.Sink.state c.args.sink.now) (g.E.Sink.state c.write_pieces.new.sink) (g.E.Sink.state c.write_all.new.self) c.write_all.result c.in_ok-write_pieces.ensures.counts c.in_ok-write_pieces.ensures.writes c.write_all.ensures.writes
