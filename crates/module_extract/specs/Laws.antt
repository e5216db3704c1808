-- What modules keep, and how they are told. (Model conservativity of locality-based modules: JAIR 31 (2008), section 6; the
-- rest is our own.)
use Rattle.std.specs.Prelude.{◌≡◌, Bool, true, List, length}
use Rattle.owl_axioms.specs.Names.{Scope, covers, listed, names_of}
use Rattle.owl_axioms.specs.declared.body.Axiom.{Axiom}
use Rattle.owl_axioms.specs.declared.name.Name.{Name}
use Rattle.owl_ontology.specs.Ontology.{flagged}
use Rattle.owl_sem.specs.Interp.{Interp}
use Rattle.owl_sem.specs.Models.{Agrees, IsModel, Keeps}
use Rattle.locality_tables.specs.Fill.{fill}
use Rattle.module_extract.specs.Least.{module_of}
use Rattle.module_extract.specs.Module.{Fills, IsClosed, IsModule, IsPart, logical_flags, seed_and}
use Rattle.module_extract.specs.Shipped.{shipped_flags}

-- for every model of what is kept, its fill outside the seed and the kept names, over any list with the names of the part,
-- is a model of the part, and agrees with it over the seed and the kept names
abbrev pub ModelsExtend : Fills → List Axiom → List Bool → Scope → List Bool → Type 0
ModelsExtend k axioms part seed kept =
    (names : List Name) → covers (listed names) (names_of (flagged part axioms)) ≡ true → (i : Interp) → IsModel i (flagged kept axioms)
    → IsModel (fill k.classes k.roles (seed_and seed axioms kept) names i) (flagged part axioms)
    × Agrees i (fill k.classes k.roles (seed_and seed axioms kept) names i) (seed_and seed axioms kept)

-- so it is for each closed part
abbrev pub ClosedExtends : Type 0
ClosedExtends = (k : Fills) (axioms : List Axiom) (part : List Bool) (seed : Scope) (kept : List Bool) → IsClosed k axioms part seed kept → ModelsExtend k axioms part seed kept

-- and so it keeps the part over the seed and its names
abbrev pub ClosedKeeps : Type 0
ClosedKeeps =
    (k : Fills) (axioms : List Axiom) (part : List Bool) (seed : Scope) (kept : List Bool) → IsClosed k axioms part seed kept
    → Keeps (flagged part axioms) (flagged kept axioms) (seed_and seed axioms kept)

-- the plain function gives the module, and nothing else is the module
abbrev pub ModuleIsTold : Type 0
ModuleIsTold =
    (k : Fills) (axioms : List Axiom) (part : List Bool) (seed : Scope) → length part ≡ length axioms
    → IsModule k axioms part seed (module_of k axioms part seed) × ((kept : List Bool) → IsModule k axioms part seed kept → kept ≡ module_of k axioms part seed)

-- the flags keep all axioms wherever the part, of logical axioms alone, keeps the logical ones
abbrev pub KeepsWith : List Axiom → List Bool → List Bool → Type 0
KeepsWith axioms kept flags =
    IsPart kept (logical_flags axioms) → (s : Scope) → Keeps (flagged (logical_flags axioms) axioms) (flagged kept axioms) s → Keeps axioms (flagged flags axioms) s

-- so it is with what is shipped
abbrev pub ShippedKeeps : Type 0
ShippedKeeps = (axioms : List Axiom) (seed : Scope) (kept : List Bool) → length kept ≡ length axioms → KeepsWith axioms kept (shipped_flags seed axioms kept)
