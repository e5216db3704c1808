use Rattle.std.proofs.Common.{◌≡◌, ◌++◌, Some, ap, map, slice_get, subst, sym, take, ◌∙◌, option_copied}
use Rattle.owl_axioms.proofs.Listed.{in_at}
use Rattle.owl_axioms.specs.Proper.{IsProper}
use Rattle.owl_ontology.specs.Ontology.{OntologyState, add_entry}
use Rattle.relax_axioms.specs.Relax.{step_entries, step_origin}
use Rattle.relax_axioms.specs.Relaxed.{plain}
use Rattle.relax_axioms.proofs.Missing.{with_next}
use Rattle.relax_axioms.proofs.adding.add_each.Goals as goal

pub add-requires : goal.add-requires
add-requires c =
    let keys = c.args.bodies.now.keys in
    let b = c.in_ok-body.body in
    let at : slice_get keys c.loop-at.at ≡ Some b = sym c.get_index.ensures.key ∙ ap option_copied c.unwrap.ensures ∙ ap Some (sym c.in_ok-body.ensures) in
    subst IsProper (sym c.plain_axiom.ensures) (c.requires.proper b (in_at keys c.loop-at.at b at))

pub loop-at-preserved : goal.loop-at-preserved
loop-at-preserved c =
    let keys = c.args.bodies.now.keys in
    let held = c.args.ontology.now.entries in
    let i = c.loop-at.at in
    let b = c.in_ok-body.body in
    let at : slice_get keys i ≡ Some b = sym c.get_index.ensures.key ∙ ap option_copied c.unwrap.ensures ∙ ap Some (sym c.in_ok-body.ensures) in
    let next = with_next held keys i b c.len-count.ensures.unique at (c.requires.absent b (in_at keys i b at)) in
    let made : OntologyState = record { name = c.args.ontology.now.name; entries = add_entry (plain b) step_origin (held ++ step_entries (map plain (take i keys))) } in
    let here : c.add.new.self ≡ made = c.in_ok-add.ensures.entries ∙ (λ j. record { name = (c.loop-at.invariant j).name; entries = add_entry (c.plain_axiom.ensures j) (c.step_origin.ensures j) (c.loop-at.invariant j).entries }) in
    here ∙ (λ j. record { name = c.args.ontology.now.name; entries = next j })
