-- Why an ontology has no document. (Own.)
use Rattle.std.specs.Prelude.{◌≡◌, ◌⊎◌, ℕ, Bool, List, Option, Some}
use Rattle.owl_ontology.specs.Ontology.{Entry}
use Rattle.obo_mapping.specs.TwoValues.{TwoGiven, two_values}
use Rattle.owl_to_obo.specs.declared.answer.BackFault.{BackFault}
use Rattle.owl_to_obo.specs.declared.answer.BackFault.TheVariants as fault

-- the fault of two values: the entity of their frame, the tag, and each value with where it comes from
abbrev pub fault_of : TwoGiven → BackFault
fault_of two = fault.TwoValues two.first.iri two.first.tag two.first.text two.second.text two.first.origin two.second.origin

-- the fault names these two values
pub record Blames (name : Option (List ℕ)) (check : Bool) (entries : List Entry) (one : BackFault) : Type 0 where
  pub two : TwoGiven
  pub least : two_values name check entries ≡ Some two
  pub same : one ≡ fault_of two

-- no memory was left, or it names the least two values that one frame would have
abbrev pub IsFault : Option (List ℕ) → Bool → List Entry → BackFault → Type 0
IsFault name check entries one = (one ≡ fault.NoMemory) ⊎ Blames name check entries one
