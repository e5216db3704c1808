-- What the reader of a term file does with a line. Only private functions speak of it. (Own.)
use Rattle.std.specs.Prelude.{◌≡◌, ℕ, List, [], ◌++◌, Option, None, Some, Result, Ok, Err, ⊤}
use Rattle.std.specs.Option.{option_map}
use Rattle.seed_list.specs.Terms.{iris_of}
use Rattle.seed_list.specs.declared.seed.SeedFault.{SeedFault}
use Rattle.seed_list.specs.declared.seed.SeedFault.TheVariants.{EmptySeed, NoMemory, SeedLine}

-- the IRI of a line stands behind those before it, or the line is refused
abbrev pub Adds : ℕ → Option (List (List ℕ)) → List (List ℕ) → Result ⊤ SeedFault → List (List ℕ) → Type 0
Adds number said old (Ok done) new = option_map (λ more. old ++ more) said ≡ Some new
Adds number said old (Err (SeedLine refused)) new = (said ≡ None) × (refused ≡ number)
Adds number said old (Err EmptySeed) new = ⊥
Adds number said old (Err NoMemory) new = Unit {0}

-- what an answer to reading the IRIs of a file says
abbrev pub ReadsIris : List ℕ → ℕ → List ℕ → Result (List (List ℕ)) SeedFault → Type 0
ReadsIris ontology lines bytes (Ok iris) = iris_of ontology lines bytes ≡ Ok iris
ReadsIris ontology lines bytes (Err (SeedLine line)) = iris_of ontology lines bytes ≡ Err line
ReadsIris ontology lines bytes (Err EmptySeed) = ⊥
ReadsIris ontology lines bytes (Err NoMemory) = Unit {0}
