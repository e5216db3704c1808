use Rattle.std.proofs.Common.{◌+◌, ap, nat_lt, ◌∙◌}
use Rattle.ofn_writer.specs.inner.Declared.{declared_scope, one_if}
use Rattle.ofn_writer.proofs.KindLemmas.{many_are_counted}
use Rattle.ofn_writer.proofs.declared.Declared.has_many_kinds.Goals as goal

pub returns : goal.returns
returns c =
    let class = c.one_if.ensures ∙ ap one_if c.has.ensures in
    let role = c.one_if-2.ensures ∙ ap one_if c.has-2.ensures in
    let individual = c.one_if-3.ensures ∙ ap one_if c.has-3.ensures in
    let property = c.one_if-4.ensures ∙ ap one_if c.has-4.ensures in
    (λ i. nat_lt 1 (class i + role i + individual i + property i)) ∙ many_are_counted (declared_scope c.args.self.now) c.args.iri.now
