use Rattle.std.proofs.Common.{Result, ap, subst, sym, ◌∙◌}
use Rattle.owl_ontology.specs.Ontology.{OntologyState}
use Rattle.release_report.specs.declared.fault.Fault.{Fault}
use Rattle.seed_list.specs.declared.seed.Seed.{Seed}
use Rattle.release_chain.specs.Answer.{AnswersAs}
use Rattle.release_chain.specs.Steps.{extracted_or, seed_in}
use Rattle.release_chain.specs.inner.Work.{IsAt}
use Rattle.release_chain.proofs.modules.extract_named.Goals as goal

pub returns-clause-answer : goal.returns-clause-answer
returns-clause-answer c trace at =
    let told = ap (λ (o : OntologyState). seed_in c.args.terms.now o c.args.bytes.now) (sym at.ontology) ∙ c.in_ok-seed.ensures in
    subst (λ (told : Result Seed Fault). AnswersAs IsAt (extracted_or c.args.method trace told) c.extract_seed.result) (sym told) (c.extract_seed.ensures.answer trace at)
