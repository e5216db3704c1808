use Rattle.std.proofs.Common.{◌&&◌, ◌≤◌, [], ap, arith, is_some, length, unwrap_or, ◌∙◌}
use Rattle.owl_axioms.specs.declared.body.Axiom.{Axiom}
use Rattle.obo_notes.specs.Context.{writing_in}
use Rattle.owl_ontology.specs.Ontology.{axioms_of}
use Rattle.obo_mapping.specs.Documents.{clauses_for}
use Rattle.obo_spelling.specs.inner.Clauses.{are_formed, spelled_in}
use Rattle.obo_spelling.proofs.OntologyLemmas.{all_taken, formed_more, spelled_more}
use Rattle.obo_spelling.proofs.ontology.all_spelled.Goals as goal

pub loop-at-preserved : goal.loop-at-preserved
loop-at-preserved c =
    let writing = writing_in c.args.space.now in
    let axioms = axioms_of c.args.ontology.now.entries in (
      spelled_more (λ (one : Axiom). unwrap_or (clauses_for writing c.args.declared.now one) []) axioms c.loop-at.at c.get.result.now _ _ c.get.ensures.found c.loop-at.invariant.0 c.in_ok-has_form.ensures.clauses,
      formed_more (λ (one : Axiom). is_some (clauses_for writing c.args.declared.now one)) axioms c.loop-at.at c.get.result.now c.loop-at.is_whole _ c.get.ensures.found c.loop-at.invariant.1 (ap (λ b. c.loop-at.is_whole && b) c.in_ok-has_form.ensures.is_formed),
    )

pub returns-clause-clauses : goal.returns-clause-clauses
returns-clause-clauses c =
    let ended : length c.args.ontology.now.entries ≤ c.loop-at.at = omega (arith, c.loop-at-test.false, c.len-at-end.ensures.len) in
    c.loop-at.invariant.0 ∙ ap (spelled_in (writing_in c.args.space.now) c.args.declared.now) (all_taken c.args.ontology.now.entries c.loop-at.at ended)

pub returns-clause-whole : goal.returns-clause-whole
returns-clause-whole c =
    let ended : length c.args.ontology.now.entries ≤ c.loop-at.at = omega (arith, c.loop-at-test.false, c.len-at-end.ensures.len) in
    c.loop-at.invariant.1 ∙ ap (are_formed (writing_in c.args.space.now) c.args.declared.now) (all_taken c.args.ontology.now.entries c.loop-at.at ended)
