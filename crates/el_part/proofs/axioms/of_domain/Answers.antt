use Rattle.std.proofs.Common.{ap, sym, ◌∙◌, ◌∷◌, []}
use Rattle.el_part.specs.declared.el_axiom.ElAxiom.TheVariants as el
use Rattle.el_part.proofs.Standing.{domain_made, domain_none}
use Rattle.el_part.proofs.axioms.of_domain.Goals as goal

pub returns-then-not-is_el-clause-made : goal.returns-then-not-is_el-clause-made
returns-then-not-is_el-clause-made c = domain_none c.args.pool.now c.args.role.now c.args.c.now c.in_ok-made.made.items (sym c.is_el.ensures ∙ c.if-not-is_el.true) c.in_ok-made.ensures

pub returns-clause-made : goal.returns-clause-made
returns-clause-made c =
    domain_made c.intern.new.self c.args.role.now c.args.c.now c.in_ok-class.class c.in_ok-made-2.made.items (sym c.is_el.ensures ∙ c.if-not-is_el.false) c.in_ok-class.ensures.node (c.in_ok-made-2.ensures ∙ ap (λ r. el.Domain r c.in_ok-class.class ∷ []) c.in_ok-role.ensures)
