use Rattle.std.proofs.Common.{◌≡◌, OnOk, sym, subst, ◌∙◌}
use Rattle.module_extract.proofs.Pushed.{pushed_signed, pushed_unsigned}
use Rattle.module_extract.proofs.naming.push_subject.Goals as goal

pub returns-then-is_signed : goal.returns-then-is_signed
returns-then-is_signed c =
    subst (λ s. OnOk c.push_one.result (c.push_one.new.names.items ≡ s)) (sym (pushed_signed c.args.names.now.items c.args.name.now (sym c.is_signed.ensures ∙ c.if-is_signed.true))) c.push_one.ensures

pub returns-else-is_signed : goal.returns-else-is_signed
returns-else-is_signed c = sym (pushed_unsigned c.args.names.now.items c.args.name.now (sym c.is_signed.ensures ∙ c.if-is_signed.false))
