use Rattle.std.proofs.Common.{◌+◌, ◌++◌, ◌∷◌, [], ap, sym, ◌∙◌, append_assoc, drop}
use Rattle.std.specs.List.{cons_option}
use Rattle.obo_frames.specs.Groups.{operands_in}
use Rattle.obo_frames.proofs.ListLemmas.{left_is}
use Rattle.obo_frames.proofs.groups.operands_in.Goals as goal
use Rattle.obo_frames.proofs.groups.operands_in.Goals.{in-Some+in_ok-push, in_default}

pub loop-one-preserved : goal.loop-one-preserved
loop-one-preserved c =
    let tag = c.args.tag.now in
    let name = c.args.name.now in
    let placed = c.args.placed.now in
    let at = c.loop-one.one-index in
    let later = operands_in tag name (drop (at + 1) placed) in
    let left = left_is placed at c.one-item.result c.loop-one-test.true c.one-item.is in
    elim c.match-branch-2.branch [
      | in-Some+in_ok-push w ↦
          ap (λ operands. operands ++ later) (ap (λ operands. operands.items) w.operands-is ∙ w.in_ok-push.ensures.items)
          ∙ append_assoc c.loop-one.operands.items (w.in-Some.operand ∷ []) later
          ∙ (λ i. c.loop-one.operands.items ++ cons_option (sym (sym c.in_ok-operand.ensures ∙ w.in-Some.is) i) later)
          ∙ ap (λ left. c.loop-one.operands.items ++ operands_in tag name left) (sym left)
          ∙ c.loop-one.invariant
      | in_default w ↦
          ap (λ operands. operands.items ++ later) w.operands-is
          ∙ (λ i. c.loop-one.operands.items ++ cons_option (sym (sym c.in_ok-operand.ensures ∙ w.in_default.is) i) later)
          ∙ ap (λ left. c.loop-one.operands.items ++ operands_in tag name left) (sym left)
          ∙ c.loop-one.invariant
    ]
