-- How many axioms there are, by what they say. (Own.)
use Rattle.std.specs.Prelude.{ℕ, Bool, true, false, List, filter, length}
use Rattle.owl_axioms.specs.declared.body.Axiom.{Axiom}
use Rattle.owl_axioms.specs.declared.body.Body.{Body}
use Rattle.owl_axioms.specs.declared.body.Body.TheVariants as body
use Rattle.owl_sem.specs.Models.{is_logical}
use Rattle.release_report.specs.declared.entry.Counts.{Counts}

unfoldable pub is_declaration : Body → Bool
is_declaration (body.Declaration name) = true
is_declaration _ = false

-- about a name, or about the ontology
unfoldable pub is_note : Body → Bool
is_note (body.Note subject property value) = true
is_note (body.OntologyNote property value) = true
is_note _ = false

abbrev pub number_of : (Body → Bool) → List Axiom → ℕ
number_of test axioms = length (filter (λ a. test a.body) axioms)

abbrev pub counts_of : List Axiom → Counts
counts_of axioms = record { logical = number_of is_logical axioms; declared = number_of is_declaration axioms; notes = number_of is_note axioms }
