use Rattle.std.proofs.Common.{◌≡◌, OnOk, sym, subst, ◌∙◌}
use Rattle.owl_axioms.proofs.Adding.{added_signed, added_unsigned}
use Rattle.owl_axioms.proofs.naming.add_subject.Goals as goal

pub returns-then-is_signed-clause-names : goal.returns-then-is_signed-clause-names
returns-then-is_signed-clause-names c =
    subst (λ s. OnOk c.add_one.result (c.add_one.new.sig ≡ s)) (sym (added_signed c.args.sig.now c.args.name.now (sym c.is_signed.ensures ∙ c.if-is_signed.true))) c.add_one.ensures.names

pub returns-else-is_signed-clause-names : goal.returns-else-is_signed-clause-names
returns-else-is_signed-clause-names c = sym (added_unsigned c.args.sig.now c.args.name.now (sym c.is_signed.ensures ∙ c.if-is_signed.false))
