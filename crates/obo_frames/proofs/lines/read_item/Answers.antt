use Rattle.std.proofs.Common.{inl, subst, sym}
use Rattle.obo_frames.specs.Telling.{BodyFails, not_utf8, syntax, too_long}
use Rattle.obo_frames.specs.declared.fault.DocFault.TheVariants as fault
use Rattle.obo_frames.proofs.lines.read_item.Goals as goal

pub returns-in-NotUtf8-clause-fails : goal.returns-in-NotUtf8-clause-fails
returns-in-NotUtf8-clause-fails c =
    inl (subst (λ body. BodyFails c.args.place c.args.item.number body (fault.NotUtf8 c.args.item.number)) (sym c.in-NotUtf8.is) not_utf8)

pub returns-in-TooLong-clause-fails : goal.returns-in-TooLong-clause-fails
returns-in-TooLong-clause-fails c =
    inl (subst (λ body. BodyFails c.args.place c.args.item.number body (fault.LineTooLong c.args.item.number)) (sym c.in-TooLong.is) too_long)

pub returns-in-Err-Syntax-clause-fails : goal.returns-in-Err-Syntax-clause-fails
returns-in-Err-Syntax-clause-fails c =
    inl (subst (λ body. BodyFails c.args.place c.args.item.number body (fault.Syntax c.args.item.number c.in-Err-Syntax.kind)) (sym c.in-Text.is) (syntax _ _ (rw c.in-Err-Syntax.field-0-is at c.in-Err-Syntax.ensures.fails)))
