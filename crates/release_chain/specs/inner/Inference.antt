-- What the step reason answers where it is refused. No public contract speaks of it.
use Rattle.std.specs.Prelude.{◌≡◌, ◌⊎◌, ◌<◌, List, length, slice_get}
use Rattle.owl_ontology.specs.Ontology.{OntologyState}
use Rattle.chain_words.specs.Word.{Name}
use Rattle.el_taxonomy.specs.declared.fault.ReasonFault.{ReasonFault}
use Rattle.el_taxonomy.specs.declared.fault.ReasonFault.TheVariants as reasons
use Rattle.release_report.specs.declared.fault.Fault.{Fault}
use Rattle.release_report.specs.declared.fault.Fault.TheVariants as fault
use Rattle.release_chain.specs.Steps.{fault_of_empty}

-- the place of a refusal is one of the ontology
abbrev pub IsWithin : OntologyState → ReasonFault → Type 0
IsWithin ontology (reasons.Unsatisfiable at) = at < length ontology.entries
IsWithin ontology other = Unit {0}

-- the fault names the class and the place of its declaration, or memory ran out
abbrev pub IsRefusal : List Name → OntologyState → ReasonFault → Fault → Type 0
IsRefusal files ontology (reasons.Unsatisfiable at) one = (one ≡ fault.NoMemory) ⊎ (one ≡ fault_of_empty files (slice_get ontology.entries at))
IsRefusal files ontology (reasons.TooManyFacts limit) one = one ≡ fault.TooManyFacts limit
IsRefusal files ontology reasons.NoMemory one = one ≡ fault.NoMemory
