-- The program's own state, and what of a run it stands for. No public contract speaks of it.
use Rattle.std.specs.Prelude.{◌≡◌}
use Rattle.owl_ontology.specs.Ontology.{axioms_of}
use Rattle.owl_sem.specs.Models.{Keeps}
use Rattle.obo_mapping.specs.Back.{IsSpellable}
use Rattle.release_chain.specs.Trace.{Trace}
use Rattle.release_chain.specs.declared.work.Work.{Work}

-- the program's own state is of this
pub record IsAt (work : Work) (trace : Trace) : Type 0 where
  pub ontology : work.ontology ≡ trace.ontology
  pub files : work.files ≡ trace.files
  pub entries : work.entries ≡ trace.entries
  pub keeps : Keeps (axioms_of trace.merged.entries) (axioms_of trace.ontology.entries) trace.scope

-- each axiom has a form in OBO
abbrev pub HasForms : Work → Type 0
HasForms work = IsSpellable work.ontology.name (axioms_of work.ontology.entries)
