-- An ontology before relaxing and after. (Own.)
use Rattle.std.specs.Prelude.{ℕ, ◌≡◌, ◌↔◌, List, ◌++◌, Contains, length, map}
use Rattle.std.specs.List.{IsDistinct}
use Rattle.owl_axioms.specs.Same.{same_axiom}
use Rattle.owl_axioms.specs.declared.body.Axiom.{Axiom}
use Rattle.owl_ontology.specs.Ontology.{Entry, OntologyState, axioms_of, entry_of}
use Rattle.owl_ontology.specs.declared.origin.Origin.{Origin}
use Rattle.relax_axioms.specs.Implied.{missing_of}
use Rattle.relax_axioms.specs.Relaxed.{IsMissing, plain}

-- where an axiom comes from that a step added
abbrev pub step_origin : Origin
step_origin = record { file = 0; line = 0 }

-- the entries of axioms that a step added
abbrev pub step_entries : List Axiom → List Entry
step_entries added = map (λ a. entry_of a step_origin) added

-- what was there stays as it is and in its place; behind it come exactly the missing axioms, each once, and so many
pub record Relaxes (before after : OntologyState) (count : ℕ) : Type 0 where
  pub added : List Axiom
  pub name : after.name ≡ before.name
  pub entries : after.entries ≡ before.entries ++ step_entries added
  pub exactly : (a : Axiom) → Contains added a ↔ IsMissing (axioms_of before.entries) a
  pub once : IsDistinct same_axiom added
  pub counted : count ≡ length added

-- the ontology with the missing axioms behind its own, and how many these are
abbrev pub relax_of : OntologyState → OntologyState × ℕ
relax_of before =
    let added = map plain (missing_of (axioms_of before.entries)) in
    (record before { entries = before.entries ++ step_entries added }, length added)
