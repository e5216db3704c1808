use Rattle.std.proofs.Common.{rules, not}
use Rattle.std.proofs.lemmas.Fn.{filter_same}
use Rattle.indexmap.specs.IndexSet.{contains}
use Rattle.relax_axioms.specs.Implied.{same_body}
use Rattle.relax_axioms.proofs.unsaid.drop_said.Goals as goal

pub returns : goal.returns
returns c = filter_same _ (λ b. not (contains same_body c.args.said.now b)) _ (λ x b f' k. search rules) _ _ c.retain.ensures.filtered
