-- What the plain functions amount to. (Own.)
use Rattle.std.specs.Prelude.{ℕ, ◌≡◌, ◌↔◌, List}
use Rattle.fact_rows.specs.Member.{In, NoRepeats}
use Rattle.owl_axioms.specs.declared.body.Axiom.{Axiom}
use Rattle.owl_ontology.specs.Ontology.{OntologyState}
use Rattle.el_rules.specs.Rules.{Derived, ElFact, ElView, IsElPartOf}
use Rattle.el_taxonomy.specs.Direct.{AreDirectEdges}
use Rattle.el_taxonomy.specs.Reason.{IsRefused, Reasons}
use Rattle.el_taxonomy.specs.declared.edge.Edge.{Edge}
use Rattle.el_taxonomy.specs.declared.fault.ReasonFault.TheVariants as fault
use Rattle.plain_reasoning.specs.Edges.{edges_of}
use Rattle.plain_reasoning.specs.Facts.{facts_of}
use Rattle.plain_reasoning.specs.Occurring.{view_of_axioms}
use Rattle.plain_reasoning.specs.Reason.{Reasoned, Reasoning, TooManyFacts, Unsatisfiable, reason_of}

-- the EL part as a function of axioms is that of the axioms
abbrev pub ViewIsElPart : Type 0
ViewIsElPart = (axioms : List Axiom) → IsElPartOf axioms (view_of_axioms axioms)

-- the facts as a function of axioms are those that are derived in their EL part, each once
abbrev pub FactsAreDerived : Type 0
FactsAreDerived = (axioms : List Axiom) (view : ElView) → IsElPartOf axioms view → ((fact : ElFact) → In fact (facts_of (view_of_axioms axioms)) ↔ Derived view fact) × NoRepeats (facts_of (view_of_axioms axioms))

-- the edges as a function of axioms are the list of the direct edges that are not stated, in the order of their names
abbrev pub EdgesOfAreDirect : Type 0
EdgesOfAreDirect = (axioms : List Axiom) (view : ElView) (edges : List Edge) → IsElPartOf axioms view → AreDirectEdges axioms view edges ↔ (edges ≡ edges_of axioms)

-- an answer of the step is right
abbrev pub IsAnswer : OntologyState → ℕ → Reasoning → Type 0
IsAnswer before limit (Reasoned after count unused) = Reasons before after limit count unused
IsAnswer before limit (Unsatisfiable at) = IsRefused before limit (fault.Unsatisfiable at)
IsAnswer before limit (TooManyFacts n) = IsRefused before limit (fault.TooManyFacts n)

-- that of the plain function is, and no other
abbrev pub ReasonOfIsTheAnswer : Type 0
ReasonOfIsTheAnswer = (before : OntologyState) (limit : ℕ) (answer : Reasoning) → IsAnswer before limit answer ↔ (reason_of before limit ≡ answer)
