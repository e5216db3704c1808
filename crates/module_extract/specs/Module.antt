-- Closed parts of axioms, and the module, which is the least of them. A part of a list of axioms is a list of flags, one for
-- each axiom. (After Cuenca Grau, Horrocks, Kazakov and Sattler, JAIR 31 (2008), section 6, where the module is what their
-- algorithm comes to; that it is the least closed part is our own.)
use Rattle.std.specs.Prelude.{ℕ, ◌+◌, ◌≡◌, Bool, true, false, if◌then◌else◌, List, [], ◌∷◌, Some, length, map, slice_get}
use Rattle.owl_axioms.specs.Names.{Scope, either, listed, names_of}
use Rattle.owl_axioms.specs.declared.body.Axiom.{Axiom}
use Rattle.owl_ontology.specs.Ontology.{flagged}
use Rattle.owl_sem.specs.Models.{is_logical}
use Rattle.locality_tables.specs.Local.{is_local}
use Rattle.locality_tables.specs.declared.fills.ClassFill.{ClassFill}
use Rattle.locality_tables.specs.declared.fills.RoleFill.{RoleFill}

-- a kind of locality: what outside classes and outside roles are
pub record Fills : Type 0 where
  pub classes : ClassFill
  pub roles : RoleFill

abbrev pub fills_of : ClassFill → RoleFill → Fills
fills_of classes roles = record { classes = classes; roles = roles }

-- the part of the logical axioms
abbrev pub logical_flags : List Axiom → List Bool
logical_flags axioms = map (λ a. is_logical a.body) axioms

-- how many axioms a part has
abbrev pub on_count : List Bool → ℕ
on_count [] = 0
on_count (f ∷ fs) = (if f then 1 else 0) + on_count fs

-- the seed together with the names of a part
abbrev pub seed_and : Scope → List Axiom → List Bool → Scope
seed_and seed axioms flags = either seed (listed (names_of (flagged flags axioms)))

-- what is of the one part is of the other
abbrev pub IsPart : List Bool → List Bool → Type 0
IsPart less more = (at : ℕ) → slice_get less at ≡ Some true → slice_get more at ≡ Some true

-- a part of a part, outside which each axiom of that is local for the seed and its own names
pub record IsClosed (k : Fills) (axioms : List Axiom) (part : List Bool) (seed : Scope) (kept : List Bool) : Type 0 where
  pub same_length : length kept ≡ length axioms
  pub is_part : IsPart kept part
  pub outside : (at : ℕ) (a : Axiom) → slice_get axioms at ≡ Some a → slice_get part at ≡ Some true → slice_get kept at ≡ Some false
      → is_local k.classes k.roles (seed_and seed axioms kept) a.body ≡ true

-- the closed part that every closed part contains
pub record IsModule (k : Fills) (axioms : List Axiom) (part : List Bool) (seed : Scope) (kept : List Bool) : Type 0 where
  pub closed : IsClosed k axioms part seed kept
  pub least : (other : List Bool) → IsClosed k axioms part seed other → IsPart kept other
