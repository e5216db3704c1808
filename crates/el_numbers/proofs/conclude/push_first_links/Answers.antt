use Rattle.std.proofs.Common.{sym, ◌∙◌, length}
use Rattle.std.proofs.lemmas.Bool.{eqb-true}
use Rattle.el_numbers.proofs.NoneLemmas.{first_links_none, same_end}
use Rattle.el_numbers.proofs.conclude.push_first_links.Goals as goal

pub returns-then-is_empty : goal.returns-then-is_empty
returns-then-is_empty c = same_end c.args.out.now.items _ (first_links_none c.args.c c.args.first.now c.args.links.now (eqb-true (length c.args.first.now) 0 (sym c.is_empty.ensures ∙ c.if-is_empty.true)))
