use Rattle.std.proofs.Common.{subst, sym}
use Rattle.std.proofs.lemmas.Result.{on_ok_weaker}
use Rattle.el_taxonomy.specs.inner.Numbers.{TellsMore, exprs_of}
use Rattle.el_taxonomy.proofs.numbering.push_told.Goals as goal

pub returns-in-Some : goal.returns-in-Some
returns-in-Some c =
    on_ok_weaker c.push_pair.result
    (λ told trees ground. subst (λ p. TellsMore (exprs_of trees c.args.part.now) p c.args.told.now.items c.push_pair.new.told.items) (sym c.in-Some.ensures) (told trees ground))
    c.push_pair.ensures
