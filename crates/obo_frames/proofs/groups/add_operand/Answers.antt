use Rattle.std.proofs.Common.{Some, ap, cond, ◌∙◌}
use Rattle.std.specs.BTreeMap.{get}
use Rattle.std.specs.Cmp.Lexicographic.{slice_cmp}
use Rattle.std.specs.Ordering.{is_eq, nat_cmp}
use Rattle.obo_frames.specs.inner.Summary.{joined}
use Rattle.obo_frames.proofs.GroupLemmas.{joined_at, same_group}
use Rattle.obo_frames.proofs.groups.add_operand.Goals as goal

pub returns : goal.returns
returns c group =
    let old = get (slice_cmp nat_cmp) c.args.groups.now in
    let one = c.args.operand.now in
    c.in_ok-insert.ensures.updates.0 group
    ∙ (λ i. cond (is_eq (slice_cmp nat_cmp (c.in_ok-group.ensures i) group)) (Some ((c.in_ok-held.ensures ∙ ap (λ held. joined held one.expression) c.get.ensures.value) i)) (old group))
    ∙ joined_at (is_eq (slice_cmp nat_cmp one.group group)) (old one.group) (old group) one.expression (λ same. ap old (same_group one.group group same))
