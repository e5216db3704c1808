use Rattle.std.proofs.Common.{ap, sym, ◌∙◌}
use Rattle.std.proofs.lemmas.Result.{on_ok_weaker}
use Rattle.extract_step.specs.Known.{has_iri}
use Rattle.owl_axioms.specs.Signature.{scope_of}
use Rattle.extract_step.proofs.Knowing.{of_logical, of_other}
use Rattle.extract_step.proofs.known.add_known.Goals as goal

pub returns-then-is_logical : goal.returns-then-is_logical
returns-then-is_logical c =
    on_ok_weaker c.sig_of.result
    (λ is iri. ap (λ s. has_iri (scope_of s) iri) is ∙ of_logical c.args.names.now c.args.one.now.body iri (sym c.is_logical.ensures ∙ c.if-is_logical.true))
    c.sig_of.ensures.names

pub returns : goal.returns
returns c =
    on_ok_weaker c.add_declared.result
    (λ each iri. each iri ∙ of_other c.args.names.now c.args.one.now.body iri (sym c.is_logical.ensures ∙ c.if-is_logical.false))
    c.add_declared.ensures
