use Rattle.std.proofs.Common.{◌||◌, ◌&&◌, ap, sym, take, ◌∙◌}
use Rattle.indexmap.specs.IndexSet.{contains}
use Rattle.owl_ontology.specs.Ontology.{axioms_of}
use Rattle.relax_axioms.specs.Implied.{is_said, same_body}
use Rattle.relax_axioms.proofs.Lists.{any_next, within}
use Rattle.relax_axioms.proofs.unsaid.said_of.Goals as goal

pub loop-at-preserved : goal.loop-at-preserved
loop-at-preserved c b =
    let axioms = axioms_of c.args.ontology.now.entries in
    let i = c.loop-at.at in
    let said = c.get.result.now.body in
    let has = contains same_body c.args.bodies.now b in
    c.in_ok-push_said.ensures b
    ∙ ap (λ t. t || (has && same_body said b)) (c.loop-at.invariant b)
    ∙ within has (is_said (take i axioms) b) (same_body said b)
    ∙ ap (λ t. has && t) (sym (any_next (λ a. same_body a.body b) axioms i c.get.result.now c.get.ensures.found))
