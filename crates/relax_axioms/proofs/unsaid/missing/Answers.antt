use Rattle.std.proofs.Common.{◌≡◌, subst, sym, ◌∙◌}
use Rattle.owl_ontology.specs.Ontology.{axioms_of}
use Rattle.relax_axioms.specs.Implied.{missing_of}
use Rattle.relax_axioms.proofs.Missing.{AreMissing, are_missing, key_absent, key_proper, left_missing}
use Rattle.relax_axioms.proofs.unsaid.missing.Goals as goal

pub returns-clause-exact : goal.returns-clause-exact
returns-clause-exact c =
    c.drop_said.ensures
    ∙ left_missing (axioms_of c.args.ontology.now.entries) c.in_ok-bodies.bodies.keys c.in_ok-said.said.keys c.in_ok-bodies.ensures c.in_ok-said.ensures

pub returns-clause-proper : goal.returns-clause-proper
returns-clause-proper c =
    let axioms = axioms_of c.args.ontology.now.entries in
    let keys = c.drop_said.new.bodies.keys in
    let is : keys ≡ missing_of axioms = c.drop_said.ensures ∙ left_missing axioms c.in_ok-bodies.bodies.keys c.in_ok-said.said.keys c.in_ok-bodies.ensures c.in_ok-said.ensures in
    key_proper axioms keys c.len-proper.ensures.proper (subst (AreMissing axioms) (sym is) (are_missing axioms))

pub returns-clause-absent : goal.returns-clause-absent
returns-clause-absent c =
    let axioms = axioms_of c.args.ontology.now.entries in
    let keys = c.drop_said.new.bodies.keys in
    let is : keys ≡ missing_of axioms = c.drop_said.ensures ∙ left_missing axioms c.in_ok-bodies.bodies.keys c.in_ok-said.said.keys c.in_ok-bodies.ensures c.in_ok-said.ensures in
    key_absent axioms keys (subst (AreMissing axioms) (sym is) (are_missing axioms))
