use Rattle.std.proofs.Common.{true, cond, ap, sym, ◌∙◌}
use Rattle.indexmap.specs.IndexSet.{contains}
use Rattle.relax_axioms.specs.Implied.{same_body}
use Rattle.relax_axioms.proofs.Once.{left_said, put_said}
use Rattle.relax_axioms.proofs.unsaid.push_said.Goals as goal

pub returns-in_ok-insert : goal.returns-in_ok-insert
returns-in_ok-insert c b =
    c.in_ok-insert.ensures.updates.0 b
    ∙ ap (λ one. cond (same_body one b) true (contains same_body c.args.said.now b)) c.in_ok-copy.ensures
    ∙ put_said c.args.bodies.now.keys c.args.said.now.keys c.args.one.now.body b (sym c.if-has_body.ensures)

pub returns-else-has_body : goal.returns-else-has_body
returns-else-has_body c b = left_said c.args.bodies.now.keys c.args.said.now.keys c.args.one.now.body b (sym c.if-has_body.ensures)
