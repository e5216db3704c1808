use Rattle.std.proofs.Common.{◌≡◌, Some, slice_get, subst}
use Rattle.owl_ontology.specs.Ontology.{OntologyState, origins_of}
use Rattle.owl_ontology.proofs.Entries.{origin_at}
use Rattle.owl_ontology.proofs.ontology.Ontology.origin.Goals as goal

pub returns : goal.returns
returns c = subst (λ (o : OntologyState). slice_get (origins_of o.entries) c.args.at ≡ Some c.index.result.now) c.self.view_is
    (origin_at c.self.inside.axioms.entries c.args.at c.index.result.now c.index.ensures)
