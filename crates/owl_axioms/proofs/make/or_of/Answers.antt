use Rattle.std.proofs.Common.{◌∙◌, ap, length, sym}
use Rattle.owl_axioms.specs.declared.expr.ClassExpr.TheVariants as expr
use Rattle.owl_axioms.proofs.Making.{IsGroup-one, IsGroup-several, or_proper}
use Rattle.owl_axioms.proofs.make.or_of.Goals as goal

pub returns-in-Ok-clause-proper : goal.returns-in-Ok-clause-proper
returns-in-Ok-clause-proper c =
    let given = c.args.operands.items in
    or_proper given c.in-Ok.one c.requires.some c.requires.proper (IsGroup-one expr.Or given c.in_ok-operands.operands.items c.in-Ok.one c.in_ok-operands.ensures c.in-Ok.ensures.one)

pub returns-in-Err-clause-proper : goal.returns-in-Err-clause-proper
returns-in-Err-clause-proper c =
    let given = c.args.operands.items in
    or_proper given (expr.Or c.from_vec.result) c.requires.some c.requires.proper
    (IsGroup-several expr.Or given c.in_ok-operands.operands.items c.from_vec.result c.in_ok-operands.ensures (c.from_vec.ensures ∙ c.in-Err.ensures.all) (λ one. c.in-Err.ensures.several (ap length (sym c.from_vec.ensures) ∙ one)))
