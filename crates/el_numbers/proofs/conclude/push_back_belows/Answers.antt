use Rattle.std.proofs.Common.{sym, ◌∙◌, length}
use Rattle.std.proofs.lemmas.Bool.{eqb-true}
use Rattle.el_numbers.proofs.NoneLemmas.{back_belows_none, same_end}
use Rattle.el_numbers.proofs.conclude.push_back_belows.Goals as goal

pub returns-then-is_empty : goal.returns-then-is_empty
returns-then-is_empty c = same_end c.args.out.now.items _ (back_belows_none c.args.somes.now c.args.back.now (eqb-true (length c.args.somes.now) 0 (sym c.is_empty.ensures ∙ c.if-is_empty.true)))
