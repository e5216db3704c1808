-- What holds while a module grows. (Own.)
use Rattle.std.specs.Prelude.{◌≡◌, Bool, List, length}
use Rattle.owl_axioms.specs.declared.body.Axiom.{Axiom}
use Rattle.owl_axioms.specs.Names.{Scope, meaningful}
use Rattle.owl_axioms.specs.Signature.{SigState, scope_of}
use Rattle.locality_tables.specs.Local.{is_local}
use Rattle.module_extract.specs.Module.{Fills, IsClosed, IsPart, seed_and}

abbrev pub tests_local : Fills → SigState → Axiom → Bool
tests_local k names a = is_local k.classes k.roles (scope_of names) a.body

-- a part of each closed part, with its names
pub record IsGrowing (k : Fills) (axioms : List Axiom) (part : List Bool) (seed : Scope) (kept : List Bool) (names : SigState) : Type 0 where
  pub same_length : length kept ≡ length axioms
  pub is_part : IsPart kept part
  pub names_are : scope_of names ≡ meaningful (seed_and seed axioms kept)
  pub least : (other : List Bool) → IsClosed k axioms part seed other → IsPart kept other
