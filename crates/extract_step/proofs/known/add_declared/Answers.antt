use Rattle.std.proofs.Common.{◌||◌, ap, sym, ◌∙◌}
use Rattle.std.proofs.lemmas.Result.{on_ok_weaker}
use Rattle.extract_step.specs.Known.{has_iri}
use Rattle.owl_axioms.specs.Signature.{scope_of}
use Rattle.extract_step.proofs.Knowing.{of_iri, or_false}
use Rattle.extract_step.proofs.known.add_declared.Goals as goal

pub returns-in-None : goal.returns-in-None
returns-in-None c iri =
    let before = has_iri (scope_of c.args.names.now) iri in
    sym (or_false before) ∙ ap (λ b. before || b) (sym (c.in-None.ensures iri))

pub returns-in-Some : goal.returns-in-Some
returns-in-Some c =
    on_ok_weaker c.add_iri.result
    (λ is iri. ap (λ s. has_iri (scope_of s) iri) is ∙ of_iri c.args.names.now _ iri ∙ ap (λ b. has_iri (scope_of c.args.names.now) iri || b) (sym (c.in-Some.ensures iri)))
    c.add_iri.ensures
