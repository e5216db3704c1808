-- What the rounds keep, and how their end is told. (Own.)
use Rattle.std.specs.Prelude.{ℕ, ◌≡◌, Bool, List, length}
use Rattle.owl_axioms.specs.Names.{Scope}
use Rattle.owl_axioms.specs.declared.body.Axiom.{Axiom}
use Rattle.owl_ontology.specs.Ontology.{flagged}
use Rattle.owl_sem.specs.Models.{Keeps}
use Rattle.module_extract.specs.Module.{Fills, seed_and}
use Rattle.star_module.specs.Star.{IsEnd}
use Rattle.star_module.specs.StarOf.{star_of}

-- what the rounds end with keeps the axioms that they began with, over the seed and its own names
abbrev pub RoundsKeep : Type 0
RoundsKeep =
    (kinds : List Fills) (axioms : List Axiom) (seed : Scope) (part kept : List Bool) (rounds : ℕ) → IsEnd kinds axioms seed part rounds kept
    → Keeps (flagged part axioms) (flagged kept axioms) (seed_and seed axioms kept)

-- the plain function gives what the rounds end with, and they end with nothing else
abbrev pub StarIsTold : Type 0
StarIsTold =
    (kinds : List Fills) (axioms : List Axiom) (seed : Scope) (part : List Bool) → length part ≡ length axioms
    → IsEnd kinds axioms seed part (star_of kinds axioms seed part).1 (star_of kinds axioms seed part).0
    × ((kept : List Bool) (rounds : ℕ) → IsEnd kinds axioms seed part rounds kept → (kept, rounds) ≡ star_of kinds axioms seed part)
