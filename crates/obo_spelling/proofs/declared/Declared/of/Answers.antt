use Rattle.std.proofs.Common.{◌≤◌, List, arith, length, subst}
use Rattle.std.specs.List.{filter_map}
use Rattle.owl_axioms.specs.declared.body.Axiom.{Axiom}
use Rattle.owl_ontology.specs.Ontology.{axioms_of}
use Rattle.text_sets.specs.Sets.{SameMembers}
use Rattle.obo_mapping.specs.Documents.{declared_in}
use Rattle.obo_spelling.proofs.DeclaredLemmas.{declared_more}
use Rattle.obo_spelling.proofs.OntologyLemmas.{all_taken}
use Rattle.obo_spelling.proofs.declared.Declared.of.Goals as goal

pub loop-at-preserved : goal.loop-at-preserved
loop-at-preserved c =
    declared_more (axioms_of c.args.ontology.now.entries) c.loop-at.at c.get.result.now c.loop-at.names.keys c.note.new.names.keys c.get.ensures.found c.loop-at.invariant c.in_ok-note.ensures

pub returns : goal.returns
returns c =
    let ended : length c.args.ontology.now.entries ≤ c.loop-at.at = omega (arith, c.loop-at-test.false, c.len-at-end.ensures.len) in
    subst (λ (axioms : List Axiom). SameMembers c.loop-at.names.keys (filter_map declared_in axioms)) (all_taken c.args.ontology.now.entries c.loop-at.at ended) c.loop-at.invariant
