use Rattle.std.proofs.Common.{◌∷◌, ◌++◌, [], subst, sym}
use Rattle.reduce_edges.specs.Edges.{Pair}
use Rattle.reduce_edges.specs.inner.Numbered.{AreMore, StandFor}
use Rattle.reduce_edges.proofs.Numbers.{stands_push}
use Rattle.reduce_edges.proofs.graph.push_edge.Goals as goal

pub returns : goal.returns
returns c pairs stands =
    let before = c.args.graph.now.names.keys in
    let after = c.number_of-2.new.names.keys in
    let es = c.args.graph.now.edges.items in
    let p : Pair = (c.args.sub.now, c.args.sup.now) in
    let more : AreMore before after = λ n a at. c.in_ok-to.ensures.more n a (c.in_ok-from.ensures.more n a at) in
    let first = c.in_ok-to.ensures.more c.in_ok-from.from c.args.sub.now c.in_ok-from.ensures.number in
    subst (λ edges. StandFor after edges (pairs ++ p ∷ [])) (sym c.in_ok-push.ensures.items)
    (stands_push before after es pairs (c.in_ok-from.from, c.in_ok-to.to) p more first c.in_ok-to.ensures.number stands)
