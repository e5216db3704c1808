use Rattle.std.proofs.Common.{◌≡◌, ◌+◌, ◌++◌, ◌||◌, ◌==◌, ap, drop, get_or, refl, ◌∙◌}
use Rattle.clause_printer.specs.Printing as spec
use Rattle.clause_printer.proofs.LoopLemmas.{first_outer, last_outer, run_more}
use Rattle.clause_printer.proofs.printer.push_run.Goals as goal
use Rattle.clause_printer.proofs.printer.push_run.Goals.{then-index-eq0, else-index-eq0}

pub loop-index-init : goal.loop-index-init
loop-index-init c = refl

pub loop-index-preserved : goal.loop-index-preserved
loop-index-preserved c =
    let text = c.args.text.now in
    let at = c.loop-index.index in
    let held = c.loop-index.out.items in
    let byte = get_or text at 0 in
    let outer : c.if-index-eq0.is_outer ≡ ((at == 0) || spec.is_end (drop (at + 1) text)) = elim c.if-index-eq0.branch [
      | then-index-eq0 w ↦ w.is_outer-is ∙ first_outer at (drop (at + 1) text) w.if-index-eq0.true
      | else-index-eq0 w ↦ w.is_outer-is ∙ last_outer at text w.if-index-eq0.false c.loop-index-test.true
    ] in
    let pushed = c.in_ok-push_byte.ensures ∙ ap (λ is_escaped. held ++ spec.spelled_byte is_escaped byte) c.is_escaped_in_run.ensures in
    run_more text at c.if-index-eq0.is_outer _ held _ c.loop-index-test.true outer c.loop-index.invariant pushed
