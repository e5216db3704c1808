use Rattle.std.proofs.Common.{◌++◌, List, [], map, subst, sym, ◌∙◌}
use Rattle.std.proofs.lemmas.Result.{IfOk-weaker}
use Rattle.text_sets.specs.Sets.{SameMembers}
use Rattle.obo_frames.specs.Framed.{unlined}
use Rattle.obo_frames.specs.declared.placed.Placed.{Placed}
use Rattle.owl_ontology.specs.Ontology.{axioms_of}
use Rattle.obo_mapping.specs.Back.{back}
use Rattle.obo_mapping.specs.Documents.{spaced}
use Rattle.obo_writer.proofs.MissingLemmas.{with_none, with_one}
use Rattle.obo_writer.proofs.missing.missing_clauses.Goals as goal

pub returns-in-Some : goal.returns-in-Some
returns-in-Some c =
    let name = c.args.ontology.now.name in
    let axioms = axioms_of c.args.ontology.now.entries in
    IfOk-weaker c.with_default.result _ _ (λ made is. with_one name axioms c.in-Some.space (map unlined made.items) (sym c.in-Some.is ∙ c.in_ok-space.ensures) is) c.with_default.ensures

pub returns-in-None : goal.returns-in-None
returns-in-None c =
    let name = c.args.ontology.now.name in
    let axioms = axioms_of c.args.ontology.now.entries in
    subst (λ (made : List Placed). SameMembers (back name axioms ++ map unlined made) (back name (spaced [] [] axioms))) (sym c.new.ensures.items) (with_none name axioms (sym c.in-None.is ∙ c.in_ok-space.ensures))
