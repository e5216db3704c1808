use Rattle.std.proofs.Common.{ap, ◌∙◌, take}
use Rattle.owl_axioms.proofs.Growth.{cut_back, more_self}
use Rattle.owl_axioms.proofs.naming.sig_of.Goals as goal

pub returns-in-Err-clause-unchanged : goal.returns-in-Err-clause-unchanged
returns-in-Err-clause-unchanged c =
    let n = c.add_body.new.sig in
    c.cut.ensures
    ∙ ap (λ z. record { classes = take z.classes n.classes; roles = take z.roles n.roles; individuals = take z.individuals n.individuals }) c.sizes-sizes.ensures
    ∙ cut_back c.args.into.now n (c.add_body.ensures.grows c.args.into.now (more_self c.args.into.now))
