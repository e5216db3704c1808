use Rattle.std.proofs.Common.{false, ap, length, replicate, ◌∙◌}
use Rattle.expr_pool.proofs.PartLemmas.{flag_long}
use Rattle.expr_pool.specs.Part.{flag_nodes}
use Rattle.el_part.proofs.ReachLemmas.{long_replicate, reached}
use Rattle.el_part.proofs.closure.reached_from.Goals as goal

pub mark_parts-requires : goal.mark_parts-requires
mark_parts-requires c = record { long = ap length c.raise.ensures ∙ flag_long c.args.roots.now c.in_ok-flags.flags.items ∙ ap length c.in_ok-flags.ensures ∙ long_replicate c.len.result ∙ c.len.ensures.len }

pub returns-clause-reached : goal.returns-clause-reached
returns-clause-reached c =
    reached c.args.pool.now c.args.roots.now c.raise.new.flags.items c.mark_parts.new.flags.items c.len.ensures.different c.mark_parts.ensures.long c.requires
    (c.raise.ensures ∙ ap (λ fs. flag_nodes fs c.args.roots.now) (c.in_ok-flags.ensures ∙ ap (λ n. replicate n false) c.len.ensures.len))
    c.mark_parts.ensures.kept c.mark_parts.ensures.closed c.mark_parts.ensures.sound
