-- What relaxing amounts to in models. (OWL 2 Direct Semantics, on finite domains; keeping: own.)
use Rattle.std.specs.Prelude.{ℕ, List, [], ◌∷◌, Contains}
use Rattle.owl_axioms.specs.declared.body.Axiom.{Axiom}
use Rattle.owl_axioms.specs.declared.expr.ClassExpr.{ClassExpr}
use Rattle.owl_ontology.specs.Ontology.{OntologyState, axioms_of}
use Rattle.owl_sem.specs.Laws.{KeepBoth}
use Rattle.owl_sem.specs.Models.{Entails}
use Rattle.relax_axioms.specs.Relax.{Relaxes, relax_of}
use Rattle.relax_axioms.specs.Relaxed.{Defines, IsMissing, below}

-- a definition alone entails that its class is a subclass of each operand
abbrev pub DefinitionEntails : Type 0
DefinitionEntails = (definition : Axiom) (class : List ℕ) (operands : List ClassExpr) (operand : ClassExpr) → Defines definition.body class operands → Contains operands operand → Entails (definition ∷ []) (below class operand)

-- each axiom that relaxing adds is entailed by those that are there
abbrev pub MissingIsEntailed : Type 0
MissingIsEntailed = (axioms : List Axiom) (added : Axiom) → IsMissing axioms added → Entails axioms added.body

-- before and after there are the same models: each keeps all names of the other
abbrev pub RelaxingKeeps : OntologyState → OntologyState → Type 0
RelaxingKeeps before after = (count : ℕ) → Relaxes before after count → KeepBoth (axioms_of before.entries) (axioms_of after.entries)

-- what the plain function makes of an ontology is that ontology after relaxing, with the number of what is added
abbrev pub RelaxOfRelaxes : OntologyState → Type 0
RelaxOfRelaxes before = Relaxes before (relax_of before).0 (relax_of before).1
