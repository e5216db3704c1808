-- What an extract leaves is a part of what was there, and keeps it over the seed. (Own; keeping over a signature: JAIR 31
-- (2008), in its finite form.)
use Rattle.std.specs.Prelude.{◌≡◌, Bool, List, length}
use Rattle.chain_words.specs.declared.command.Method.{Method}
use Rattle.extract_step.specs.Extract.{chosen, extracted}
use Rattle.module_extract.specs.Module.{seed_and}
use Rattle.owl_axioms.specs.Signature.{scope_of}
use Rattle.owl_ontology.specs.Ontology.{OntologyState, axioms_of, flagged}
use Rattle.owl_sem.specs.Models.{Keeps}
use Rattle.seed_list.specs.declared.seed.Seed.{Seed}

-- some of the entries are left, each as it was, in their order; the name stays
pub record ExtractedIsPart (method : Method) (seed : Seed) (before : OntologyState) : Type 0 where
  pub flags : List Bool
  pub long : length flags ≡ length before.entries
  pub entries : (extracted method seed before).entries ≡ flagged flags before.entries
  pub name : (extracted method seed before).name ≡ before.name

-- what is left keeps what was there over the seed and the names of the chosen part, and so over the seed
pub record ExtractingKeeps (method : Method) (seed : Seed) (before : OntologyState) : Type 0 where
  pub names : Keeps (axioms_of before.entries) (axioms_of (extracted method seed before).entries)
      (seed_and (scope_of seed.sig) (axioms_of before.entries) (chosen method (scope_of seed.sig) (axioms_of before.entries)).0)
  pub seeds : Keeps (axioms_of before.entries) (axioms_of (extracted method seed before).entries) (scope_of seed.sig)
