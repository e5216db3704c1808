use Rattle.std.proofs.Common.{◌≡◌, true, subst}
use Rattle.owl_axioms.specs.Same.{same_axiom}
use Rattle.owl_axioms.specs.contracts.body.AxiomEq.TheImpl.Laws as laws
use Rattle.owl_axioms.proofs.Same.{same_axiom-true}
use Rattle.owl_axioms.proofs.laws.equality_is_sameness.Goals as goal

pub returns : goal.returns
returns c = (
  same_axiom-true c.args.one.now c.args.other.now,
  λ is. subst (λ x. same_axiom c.args.one.now x ≡ true) is (laws.laws-law.refl c.args.one.now),
)
