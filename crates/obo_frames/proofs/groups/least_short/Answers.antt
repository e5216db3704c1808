use Rattle.std.proofs.Common.{None, ap, filter, map, ◌∙◌}
use Rattle.std.specs.BTreeMap.{get}
use Rattle.std.specs.Cmp.Lexicographic.{slice_cmp}
use Rattle.std.specs.Ordering.{nat_cmp}
use Rattle.obo_frames.specs.Documents.{least_line}
use Rattle.obo_frames.specs.Groups.{short_in}
use Rattle.obo_frames.specs.inner.Summary.{is_one, summary_of}
use Rattle.obo_frames.specs.declared.groups.Operand.{Operand}
use Rattle.obo_frames.proofs.GroupLemmas.{one_is_short}
use Rattle.obo_frames.proofs.groups.least_short.Goals as goal

pub returns : goal.returns
returns c =
    let sums = get (slice_cmp nat_cmp) c.in_ok-groups.groups in
    c.least_of_one.ensures
    ∙ ap (λ operands. least_line c.args.best (map (λ (one : Operand). one.line) (filter (λ (one : Operand). is_one (sums one.group)) operands))) c.as_slice-2.ensures.value
    ∙ ap (λ operands. least_line c.args.best (map (λ (one : Operand). one.line) operands)) (one_is_short sums c.in_ok-operands.operands.items (λ group. c.in_ok-groups.ensures group ∙ ap (summary_of group None) c.as_slice.ensures.value))
    ∙ ap (λ operands. least_line c.args.best (map (λ (one : Operand). one.line) (short_in operands))) c.in_ok-operands.ensures
