use Rattle.std.proofs.Common.{ap, sym, ◌∙◌}
use Rattle.owl_ontology.specs.Ontology.{axioms_of}
use Rattle.ofn_writer.specs.Text.{told_text}
use Rattle.ofn_writer.specs.inner.Declared.{declared_scope}
use Rattle.ofn_writer.proofs.PartLemmas.{texts_of, texts_stay, texts_with}
use Rattle.ofn_writer.proofs.PieceLemmas.{moved, one_text_more}
use Rattle.ofn_writer.proofs.lines.print_part.Goals as goal
use Rattle.ofn_writer.proofs.lines.print_part.Goals.{then-is_in_part+in_ok-push_text, else-is_in_part}

pub loop-at-preserved : goal.loop-at-preserved
loop-at-preserved c =
    let axioms = axioms_of c.args.ontology.now.entries in
    let at = c.loop-at.at in
    let a = c.get-axiom.result.now in
    let scope = declared_scope c.args.declared.now in
    let texts = texts_of scope c.args.first at axioms in
    let here = c.get-axiom.ensures.found in
    elim c.if-is_in_part.branch [
      | then-is_in_part+in_ok-push_text w ↦
          moved _ _ _ _ _ _
          (texts_with scope c.args.first axioms at a here (sym c.is_in_part.ensures ∙ w.if-is_in_part.true))
          (ap (λ v. v.items) w.buffer-is ∙ w.in_ok-push_text.ensures.bytes)
          (ap (λ v. v.items) w.lengths-is ∙ w.in_ok-push_text.ensures.lengths)
          (one_text_more texts c.loop-at.buffer.items c.loop-at.lengths.items (told_text scope a) c.loop-at.invariant)
      | else-is_in_part w ↦
          moved _ _ _ _ _ _
          (texts_stay scope c.args.first axioms at a here (sym c.is_in_part.ensures ∙ w.if-is_in_part.false))
          (ap (λ v. v.items) w.buffer-is)
          (ap (λ v. v.items) w.lengths-is)
          c.loop-at.invariant
    ]
