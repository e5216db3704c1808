-- How many tests a module may take. (Own.)
use Rattle.std.specs.Prelude.{ℕ, ◌+◌, Bool, List, [], ◌∷◌, filter, length}
use Rattle.owl_axioms.specs.Names.{body_names}
use Rattle.owl_axioms.specs.Signature.{added, name_count, no_names}
use Rattle.owl_axioms.specs.declared.body.Axiom.{Axiom}
use Rattle.owl_ontology.specs.Ontology.{flagged}
use Rattle.owl_sem.specs.Models.{is_logical}

-- the logical axioms of a part
abbrev pub logical_part : List Axiom → List Bool → List Axiom
logical_part axioms part = filter (λ a. is_logical a.body) (flagged part axioms)

-- how many different names an axiom has
abbrev pub names_number : Axiom → ℕ
names_number a = name_count (added no_names (body_names a.body))

-- the sum over axioms
abbrev pub total : (Axiom → ℕ) → List Axiom → ℕ
total m [] = 0
total m (a ∷ axioms) = m a + total m axioms

-- the number of the part's logical axioms, and the sum of the numbers of different names in each
abbrev pub test_bound : List Axiom → List Bool → ℕ
test_bound axioms part = length (logical_part axioms part) + total names_number (logical_part axioms part)
