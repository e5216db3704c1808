use Rattle.std.proofs.Common.{ap, sym, ◌∙◌}
use Rattle.std.proofs.lemmas.Result.{on_ok_weaker}
use Rattle.indexmap.specs.IndexSet.{insert_all}
use Rattle.relax_axioms.specs.Implied.{implied_in, same_body, wanted_by}
use Rattle.relax_axioms.proofs.implied.push_wanted.Goals as goal

pub returns-in-None : goal.returns-in-None
unfolding wanted_by
returns-in-None c = ap (λ said. insert_all same_body c.args.bodies.now.keys (implied_in said)) (sym c.in-None.ensures)

pub returns-in-Some : goal.returns-in-Some
unfolding wanted_by
returns-in-Some c =
    on_ok_weaker c.push_operands.result
    (λ is. is ∙ ap (λ said. insert_all same_body c.args.bodies.now.keys (implied_in said)) (sym c.in-Some.ensures))
    c.push_operands.ensures
