-- The seed of a term file. An IRI stands for the class, the role and the individual that it may name. (Own.)
use Rattle.std.specs.Prelude.{◌≡◌, ◌<◌, ℕ, List, [], ◌∷◌, length, Result, Ok, Err}
use Rattle.std.specs.List.{flat_map}
use Rattle.owl_axioms.specs.Names.{name_of}
use Rattle.owl_axioms.specs.Signature.{added, no_names}
use Rattle.owl_axioms.specs.declared.name.Kind.TheVariants as kind
use Rattle.owl_axioms.specs.declared.name.Name.{Name}
use Rattle.text_sets.specs.Sorted.{sorted_by}
use Rattle.seed_list.specs.Terms.{iris_of}
use Rattle.seed_list.specs.declared.seed.Seed.{Seed}
use Rattle.seed_list.specs.declared.seed.SeedFault.{SeedFault}
use Rattle.seed_list.specs.declared.seed.SeedFault.TheVariants.{EmptySeed, NoMemory, SeedLine}

-- what an IRI stands for
abbrev pub names_of : List ℕ → List Name
names_of iri = name_of kind.Class iri ∷ name_of kind.Role iri ∷ name_of kind.Individual iri ∷ []

-- the seed of these IRIs: they in the order of their bytes, each once, and their names
pub record IsSeedOf (read : List (List ℕ)) (seed : Seed) : Type 0 where
  pub iris : seed.iris ≡ sorted_by (λ iri. iri) read
  pub sig : seed.sig ≡ added no_names (flat_map names_of seed.iris)

-- a seed of a term or more
pub record HasSeed (ontology : List ℕ) (lines : ℕ) (bytes : List ℕ) (made : Seed) : Type 0 where
  pub read : List (List ℕ)
  pub file : iris_of ontology lines bytes ≡ Ok read
  pub some : 0 < length read
  pub seed : IsSeedOf read made

-- what an answer to reading a term file says
abbrev pub ReadsSeed : List ℕ → ℕ → List ℕ → Result Seed SeedFault → Type 0
ReadsSeed ontology lines bytes (Ok seed) = HasSeed ontology lines bytes seed
ReadsSeed ontology lines bytes (Err (SeedLine line)) = iris_of ontology lines bytes ≡ Err line
ReadsSeed ontology lines bytes (Err EmptySeed) = iris_of ontology lines bytes ≡ Ok []
ReadsSeed ontology lines bytes (Err NoMemory) = Unit {0}
