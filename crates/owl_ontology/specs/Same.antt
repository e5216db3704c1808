-- When two ontologies say the same. (An ontology as a name and a set of axioms: OWL 2 Structural Specification and
-- Functional-Style Syntax, section 3.)
use Rattle.std.specs.Prelude.{◌≡◌, ◌↔◌, List}
use Rattle.owl_axioms.specs.declared.body.Axiom.{Axiom}
use Rattle.owl_ontology.specs.Ontology.{Entry, IsHeld, OntologyState}

-- the same axioms, wherever they come from, in whatever order, and however often they stand there
abbrev pub HoldTheSame : List Entry → List Entry → Type 0
HoldTheSame some others = (a : Axiom) → IsHeld a some ↔ IsHeld a others

-- one name and the same axioms
pub record SaysTheSame (one other : OntologyState) : Type 0 where
  pub name : one.name ≡ other.name
  pub axioms : HoldTheSame one.entries other.entries
