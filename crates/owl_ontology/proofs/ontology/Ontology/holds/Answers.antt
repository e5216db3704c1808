use Rattle.std.proofs.Common.{◌↔◌, IsTrue, sym, subst, ◌∙◌}
use Rattle.owl_ontology.specs.Ontology.{IsHeld, OntologyState}
use Rattle.owl_ontology.proofs.Entries.{IsHeld-lookup, lookup-IsHeld}
use Rattle.owl_ontology.proofs.ontology.Ontology.holds.Goals as goal

pub returns : goal.returns
returns c =
    let pairs = c.self.inside.axioms.entries in
    let found = c.contains_key.ensures in
    subst (λ (o : OntologyState). IsTrue c.contains_key.result ↔ IsHeld c.args.axiom.now o.entries) c.self.view_is
    (λ h. IsHeld-lookup pairs c.args.axiom.now (sym found ∙ h), λ h. found ∙ lookup-IsHeld pairs c.args.axiom.now h)
