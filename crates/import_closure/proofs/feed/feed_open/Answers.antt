use Rattle.std.proofs.Common.{arith}
use Rattle.std.proofs.lemmas.Result.{err_from_is_err_and}
use Rattle.import_closure.proofs.FeedLemmas.{feed_ends, feed_fails, feed_goes_on, feed_within}
use Rattle.import_closure.proofs.feed.feed_open.Goals as goal

pub returns-in_err-feed_piece-clause-feeds : goal.returns-in_err-feed_piece-clause-feeds
returns-in_err-feed_piece-clause-feeds g c =
    let p = err_from_is_err_and c.from_residual-in_err-feed_piece.result c.from_residual-in_err-feed_piece.ensures.1 in
    rw (p.1, p.2) (feed_fails c.args.line_limit c.args.limit (g.F.Folder.state c.args.folder.now) (g.F.Folder.state c.pieces.folder) (g.F.Folder.state c.feed_piece.new.folder) c.pieces.fed c.feed_piece.new.fed _ c.pieces.invariant.0 c.in_err-feed_piece.ensures.feeds)

pub returns-then-not-branch-clause-feeds : goal.returns-then-not-branch-clause-feeds
returns-then-not-branch-clause-feeds g c =
    let feeds = rw c.if-not-branch.true at c.in_ok-feed_piece.ensures.feeds in
    let start = g.F.Folder.state c.args.folder.now in
    let now = g.F.Folder.state c.pieces.folder in
    let next = g.F.Folder.state c.feed_piece.new.folder in
    rw feeds.1 (feed_within c.args.line_limit c.args.limit start now c.pieces.fed c.pieces.invariant.0, feed_ends c.args.line_limit c.args.limit start now next c.pieces.fed c.pieces.invariant.0 feeds.0)

pub pieces-preserved : goal.pieces-preserved
pieces-preserved g c =
    let feeds = rw c.if-not-branch.false at c.in_ok-feed_piece.ensures.feeds in
    (feed_goes_on c.args.line_limit c.args.limit _ _ _ _ _ c.pieces.invariant.0 feeds c.in_ok-feed_piece.ensures.holds c.in_ok-feed_piece.ensures.counts, omega arith)
