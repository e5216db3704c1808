use Rattle.std.proofs.Common.{ap, ◌∙◌}
use Rattle.std.proofs.lemmas.Result.{IfOk-weaker}
use Rattle.iri_map.specs.Ontology.{name_or_temp}
use Rattle.obo_notes.specs.Context.{writing_in}
use Rattle.owl_ontology.specs.Ontology.{axioms_of}
use Rattle.obo_spelling.specs.inner.Clauses.{are_formed, spelled_in}
use Rattle.obo_spelling.proofs.OntologyLemmas.{formed_by, spelled_by}
use Rattle.obo_spelling.proofs.ontology.spelled.Goals as goal

pub returns-clause-clauses : goal.returns-clause-clauses
returns-clause-clauses c =
    let axioms = axioms_of c.args.ontology.now.entries in
    IfOk-weaker c.all_spelled.result _ _ (λ made is. is ∙ ap (λ space. spelled_in (writing_in space) c.in_ok-declared.declared axioms) (c.in_ok-space.ensures ∙ ap name_or_temp c.name.ensures) ∙ spelled_by c.args.ontology.now.name axioms c.in_ok-declared.declared c.in_ok-declared.ensures) c.all_spelled.ensures.clauses

pub returns-clause-whole : goal.returns-clause-whole
returns-clause-whole c =
    let axioms = axioms_of c.args.ontology.now.entries in
    IfOk-weaker c.all_spelled.result _ _ (λ made is. is ∙ ap (λ space. are_formed (writing_in space) c.in_ok-declared.declared axioms) (c.in_ok-space.ensures ∙ ap name_or_temp c.name.ensures) ∙ formed_by c.args.ontology.now.name axioms c.in_ok-declared.declared c.in_ok-declared.ensures) c.all_spelled.ensures.whole
