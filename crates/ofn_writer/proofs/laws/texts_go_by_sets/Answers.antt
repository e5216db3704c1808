use Rattle.std.proofs.Common.{◌↔◌}
use Rattle.owl_axioms.proofs.Members.{Contains-in, In, In-contains}
use Rattle.owl_axioms.specs.declared.body.Axiom.{Axiom}
use Rattle.owl_ontology.specs.Ontology.{axioms_of}
use Rattle.ofn_writer.proofs.SetLemmas.{apart, same_text}
use Rattle.ofn_writer.proofs.laws.texts_go_by_sets.Goals as goal

pub returns : goal.returns
returns c same =
    let some = axioms_of c.args.one.now.entries in
    let others = axioms_of c.args.other.now.entries in
    let members : (a : Axiom) → In a some ↔ In a others = λ a. (
      (λ here. In-contains a others ((same.axioms a).0 (Contains-in a some here))),
      (λ here. In-contains a some ((same.axioms a).1 (Contains-in a others here))),
    ) in
    same_text c.args.one.now.name c.args.other.now.name some others same.name (apart some c.len-different.ensures.different) (apart others c.len-others_different.ensures.different) members
