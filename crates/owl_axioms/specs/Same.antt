-- When two axioms are one. (Own.)
use Rattle.std.specs.Prelude.{Bool}
use Rattle.owl_axioms.specs.contracts.body.AxiomPartialEq.TheImpl as axiom_eq
use Rattle.owl_axioms.specs.declared.body.Axiom.{Axiom}

-- whether two axioms are one, as `==` tells it
abbrev pub same_axiom : Axiom → Axiom → Bool
same_axiom = axiom_eq.ghosts.eq
