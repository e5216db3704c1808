use Rattle.std.proofs.Common.{◌≡◌, ap, subst, sym, take, ◌∙◌}
use Rattle.std.specs.Map.{keys_of}
use Rattle.owl_axioms.specs.Proper.{AreProper}
use Rattle.owl_ontology.specs.Ontology.{OntologyState, entries_of}
use Rattle.owl_ontology.proofs.Keeping.{AreProper-take, entries_of-take}
use Rattle.owl_ontology.proofs.ontology.Ontology.cut.Goals as goal

pub invariant_of-self : goal.invariant_of-self
invariant_of-self c =
    (c.truncate.ensures.unique, subst (λ es. AreProper (keys_of es)) (sym c.truncate.ensures.entries) (AreProper-take c.args.len c.self.inside.axioms.entries c.self.invariant.1))

pub returns : goal.returns
returns c =
    let pairs = c.self.inside.axioms.entries in
    let after : OntologyState = record { name = c.self.inside.name; entries = entries_of c.truncate.new.self.entries } in
    let entries : entries_of c.truncate.new.self.entries ≡ take c.args.len (entries_of pairs) = ap entries_of c.truncate.ensures.entries ∙ entries_of-take c.args.len pairs in
    subst (λ (o : OntologyState). after ≡ record o { entries = take c.args.len o.entries }) c.self.view_is (λ i. record { name = c.self.inside.name; entries = entries i })
