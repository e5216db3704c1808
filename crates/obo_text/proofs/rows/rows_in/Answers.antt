use Rattle.std.proofs.Common.{◌+◌, ◌++◌, ◌∷◌, [], ap, sym, ◌∙◌, append_assoc, drop, map}
use Rattle.std.specs.List.{cons_option}
use Rattle.obo_frames.specs.Framed.{unlined}
use Rattle.obo_frames.proofs.ListLemmas.{left_is}
use Rattle.obo_text.specs.inner.Rows.{rows_in}
use Rattle.obo_text.proofs.rows.rows_in.Goals as goal
use Rattle.obo_text.proofs.rows.rows_in.Goals.{in-Some+in_ok-push, in_default}

pub loop-one-preserved : goal.loop-one-preserved
loop-one-preserved c =
    let placed = c.args.placed.now in
    let at = c.loop-one.one-index in
    let later = rows_in c.args.kind (map unlined (drop (at + 1) placed)) in
    let left = left_is placed at c.one-item.result c.loop-one-test.true c.one-item.is in
    elim c.match-branch-2.branch [
      | in-Some+in_ok-push w ↦
          ap (λ rows. rows ++ later) (ap (λ rows. rows.items) w.rows-is ∙ w.in_ok-push.ensures.items)
          ∙ append_assoc c.loop-one.rows.items (w.in-Some.row ∷ []) later
          ∙ (λ i. c.loop-one.rows.items ++ cons_option (sym (sym c.in_ok-row.ensures ∙ w.in-Some.is) i) later)
          ∙ ap (λ left. c.loop-one.rows.items ++ rows_in c.args.kind (map unlined left)) (sym left)
          ∙ c.loop-one.invariant
      | in_default w ↦
          ap (λ rows. rows.items ++ later) w.rows-is
          ∙ (λ i. c.loop-one.rows.items ++ cons_option (sym (sym c.in_ok-row.ensures ∙ w.in_default.is) i) later)
          ∙ ap (λ left. c.loop-one.rows.items ++ rows_in c.args.kind (map unlined left)) (sym left)
          ∙ c.loop-one.invariant
    ]
