use Rattle.std.proofs.Common.{◌++◌, map, sym, ap, subst, ◌∙◌}
use Rattle.std.specs.List.{flat_map}
use Rattle.owl_ontology.specs.Ontology.{axioms_of}
use Rattle.ofn_writer.specs.Sorted.{sorted}
use Rattle.ofn_writer.specs.Text.{axiom_lines, line, part, told_text}
use Rattle.ofn_writer.specs.inner.Declared.{declared_scope}
use Rattle.ofn_writer.specs.inner.Pieces.{Fit, pieces}
use Rattle.ofn_writer.proofs.PieceLemmas.{pieces_are, they_fit}
use Rattle.ofn_writer.proofs.lines.push_lines.Goals as goal

pub sorted_pieces-requires : goal.sorted_pieces-requires
sorted_pieces-requires c =
    let texts = map (told_text (declared_scope c.args.declared.now)) (part c.args.first (axioms_of c.args.ontology.now.entries)) in
    let buffer = c.in_ok-printed.printed.buffer.items in
    let lengths = c.in_ok-printed.printed.lengths.items in
    subst (λ bytes. Fit bytes c.as_slice-2.result.now) (sym c.as_slice.ensures.value)
    (subst (Fit buffer) (sym c.as_slice-2.ensures.value) (they_fit texts buffer lengths c.in_ok-printed.ensures))

pub returns : goal.returns
unfolding axiom_lines
returns c =
    let texts = map (told_text (declared_scope c.args.declared.now)) (part c.args.first (axioms_of c.args.ontology.now.entries)) in
    let buffer = c.in_ok-printed.printed.buffer.items in
    let lengths = c.in_ok-printed.printed.lengths.items in
    let before = c.args.out.now.items in
    let cut = (λ i. pieces (c.as_slice.ensures.value i) (c.as_slice-2.ensures.value i)) ∙ pieces_are texts buffer lengths c.in_ok-printed.ensures in
    c.in_ok-push_all.ensures
    ∙ ap (λ start. start ++ flat_map line (map (λ text. text.now) c.as_slice-3.result.now)) c.reserve_exact.ensures.items
    ∙ ap (λ lent. before ++ flat_map line (map (λ text. text.now) lent)) c.as_slice-3.ensures.value
    ∙ ap (λ ts. before ++ flat_map line ts) (c.in_ok-lines.ensures ∙ ap sorted cut)
