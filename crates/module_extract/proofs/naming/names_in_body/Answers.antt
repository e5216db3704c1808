use Rattle.std.proofs.Common.{[], ap, ◌∙◌}
use Rattle.owl_axioms.specs.Names.{body_names}
use Rattle.module_extract.proofs.Pushed.{pushed_is}
use Rattle.module_extract.specs.inner.Naming.{pushed}
use Rattle.module_extract.proofs.naming.names_in_body.Goals as goal

pub returns : goal.returns
returns c = c.in_ok-push_body.ensures ∙ ap (λ s. pushed s (body_names c.args.body.now)) c.new-names.ensures.items ∙ pushed_is [] (body_names c.args.body.now)
