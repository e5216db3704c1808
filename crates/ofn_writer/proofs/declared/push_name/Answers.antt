use Rattle.std.proofs.Common.{◌∙◌}
use Rattle.ofn_writer.specs.inner.Declared.{scope_in}
use Rattle.ofn_writer.proofs.KindLemmas.{one_name_more}
use Rattle.ofn_writer.proofs.declared.push_name.Goals as goal

pub returns : goal.returns
returns c k iri =
    let name = c.args.name.now in
    (λ i. scope_in (c.in_ok-add.ensures.names i) (c.in_ok-push_property.ensures i) k iri)
    ∙ one_name_more c.args.names.now c.args.properties.now.keys name.kind name.iri k iri
