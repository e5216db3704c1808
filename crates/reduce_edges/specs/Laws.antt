-- What reducing keeps. (Reachability in a directed graph; OWL 2 Direct Semantics, on finite domains.)
use Rattle.std.specs.Prelude.{ℕ, ◌↔◌, Bool, List, Contains, IsTrue}
use Rattle.owl_axioms.specs.declared.body.Axiom.{Axiom}
use Rattle.owl_ontology.specs.Ontology.{OntologyState}
use Rattle.owl_sem.specs.Models.{Entails}
use Rattle.reduce_edges.specs.Edges.{Reach, edge}
use Rattle.reduce_edges.specs.Going.{goes, reaches}
use Rattle.reduce_edges.specs.Reduce.{Reduces, reduce_of}
use Rattle.reduce_edges.specs.Redundant.{Goes}

-- each class reaches the same classes along the edges of either
abbrev pub ReachIsSame : List Axiom → List Axiom → Type 0
ReachIsSame axioms others = (a b : List ℕ) → Reach axioms a b ↔ Reach others a b

-- where a class reaches another, the axioms entail that it is a subclass of it
abbrev pub ReachEntails : Type 0
ReachEntails = (axioms : List Axiom) (a b : List ℕ) → Reach axioms a b → Entails axioms (edge a b)

-- each of the first axioms is among the others, or is entailed by them
abbrev pub AreEntailedBy : List Axiom → List Axiom → Type 0
AreEntailedBy axioms others = (one : Axiom) → Contains axioms one → Entails others one.body

-- the plain function tells where there is a walk
abbrev pub ReachesIsReach : Type 0
ReachesIsReach = (axioms : List Axiom) (a b : List ℕ) → IsTrue (reaches axioms a b) ↔ Reach axioms a b

-- and which axioms go
abbrev pub GoesIsGoes : Type 0
GoesIsGoes = (axioms : List Axiom) (keep_annotated : Bool) (one : Axiom) → IsTrue (goes axioms keep_annotated one) ↔ Goes axioms keep_annotated one

-- what the plain function makes of an ontology is that ontology after reducing, with the number of what is gone
abbrev pub ReduceOfReduces : OntologyState → Bool → Type 0
ReduceOfReduces before keep_annotated = Reduces before (reduce_of keep_annotated before).0 keep_annotated (reduce_of keep_annotated before).1
