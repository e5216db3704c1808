use Rattle.std.proofs.Common.{◌∙◌}
use Rattle.std.proofs.lemmas.Result.{IfOk-weaker}
use Rattle.owl_ontology.specs.Ontology.{axioms_of}
use Rattle.ofn_writer.specs.Text.{text_with}
use Rattle.ofn_writer.proofs.text.ofn_text.Goals as goal

pub returns : goal.returns
returns c =
    let o = c.args.ontology.now in
    IfOk-weaker c.text_with.result _ _ (λ text h. h ∙ (λ i. text_with (λ k iri. c.in_ok-declared.ensures k iri i) o.name (axioms_of o.entries))) c.text_with.ensures
