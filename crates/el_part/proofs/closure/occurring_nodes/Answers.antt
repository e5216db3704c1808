use Rattle.std.proofs.Common.{◌∷◌, ap, length, ◌∙◌}
use Rattle.el_part.proofs.Layers.{thing_is_not_nothing}
use Rattle.el_part.proofs.OccurLemmas.{occurring}
use Rattle.el_part.specs.inner.Reached.{is_other, others}
use Rattle.el_part.proofs.closure.occurring_nodes.Goals as goal

pub returns : goal.returns
returns c =
    occurring c.args.pool.now c.len-count.ensures.different c.parts_have_nodes.ensures c.args.roots.now c.requires.start c.in_ok-flags.flags.items c.in_ok-flags.ensures.long c.in_ok-flags.ensures.reached c.nth-thing.result c.nth-nothing.result c.nth-thing.ensures c.nth-nothing.ensures thing_is_not_nothing c.in_ok-nodes.nodes.items
    (c.in_ok-nodes.ensures ∙ ap (λ fs. c.nth-thing.result ∷ c.nth-nothing.result ∷ others (is_other fs c.nth-thing.result.place c.nth-nothing.result.place) (length c.args.pool.now)) c.as_slice.ensures.value)
