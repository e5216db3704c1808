use Rattle.std.proofs.Common.{◌≡◌, Some, ap, slice_get, sym, subst, ◌∙◌}
use Rattle.std.specs.Map.{keys_of}
use Rattle.std.specs.Map.Iter.{deref_pair}
use Rattle.std.specs.Option.{option_map}
use Rattle.owl_ontology.specs.Ontology.{OntologyState, axioms_of}
use Rattle.owl_ontology.proofs.Entries.{axiom_at, key_at, proper_at}
use Rattle.owl_ontology.proofs.ontology.Ontology.get.Goals as goal

pub returns-clause-found : goal.returns-clause-found
returns-clause-found c =
    let pairs = c.self.inside.axioms.entries in
    subst (λ (o : OntologyState). slice_get (axioms_of o.entries) c.args.at ≡ Some c.unwrap.result.0.now) c.self.view_is
    (axiom_at pairs c.args.at c.unwrap.result.0.now c.unwrap.result.1.now (sym c.get_index.ensures.entry ∙ ap (option_map deref_pair) c.unwrap.ensures))

pub returns-clause-proper : goal.returns-clause-proper
returns-clause-proper c =
    let pairs = c.self.inside.axioms.entries in
    proper_at (keys_of pairs) c.args.at c.unwrap.result.0.now c.self.invariant.1
    (key_at pairs c.args.at c.unwrap.result.0.now c.unwrap.result.1.now (sym c.get_index.ensures.entry ∙ ap (option_map deref_pair) c.unwrap.ensures))
