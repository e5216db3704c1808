-- What reasoning amounts to in models. (OWL 2 Direct Semantics, on finite domains; keeping: own.)
use Rattle.std.specs.Prelude.{ℕ, List}
use Rattle.owl_axioms.specs.declared.body.Axiom.{Axiom}
use Rattle.owl_ontology.specs.Ontology.{OntologyState, axioms_of}
use Rattle.owl_sem.specs.Laws.{KeepBoth}
use Rattle.owl_sem.specs.Models.{Entails}
use Rattle.el_rules.specs.Rules.{ElView, IsElPartOf}
use Rattle.el_taxonomy.specs.Reason.{IsInferred, Reasons}
use Rattle.el_taxonomy.specs.Taxonomy.{AreBelow}
use Rattle.reduce_edges.specs.Edges.{edge}

-- that a class is below another is entailed where it is derived
abbrev pub BelowIsEntailed : Type 0
BelowIsEntailed = (axioms : List Axiom) (view : ElView) → IsElPartOf axioms view → (sub super : List ℕ) → AreBelow view sub super → Entails axioms (edge sub super)

-- so each axiom that reasoning adds is entailed by those that are there
abbrev pub InferredIsEntailed : Type 0
InferredIsEntailed = (axioms : List Axiom) (view : ElView) → IsElPartOf axioms view → (added : Axiom) → IsInferred axioms view added → Entails axioms added.body

-- before and after there are the same models: each keeps all names of the other
abbrev pub ReasoningKeeps : OntologyState → OntologyState → Type 0
ReasoningKeeps before after = (limit count unused : ℕ) → Reasons before after limit count unused → KeepBoth (axioms_of before.entries) (axioms_of after.entries)
