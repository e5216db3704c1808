-- Axioms that are added one by one. (Own.)
use Rattle.std.specs.Prelude.{◌≡◌, ℕ, List, [], ◌∷◌, Option, map}
use Rattle.std.specs.Option.{option_map, option_to_list}
use Rattle.owl_axioms.specs.declared.body.Axiom.{Axiom}
use Rattle.owl_ontology.specs.Ontology.{Entry, OntologyState, add_entry, entry_of}
use Rattle.obo_mapping.specs.Axioms.{name_as, said_at}
use Rattle.obo_to_owl.specs.inner.Known.{has}
use Rattle.obo_to_owl.specs.inner.Rows.{of_row}
use Rattle.obo_to_owl.specs.inner.Saying.{kind_of, read_in}
use Rattle.obo_to_owl.specs.declared.rows.Row.{Row}
use Rattle.obo_to_owl.specs.declared.situation.Situation.{Situation}

-- an axiom with its place
abbrev pub entry_at : Axiom → ℕ → ℕ → Entry
entry_at said file line = entry_of said (record { file = file; line = line })

-- entries are added in their order
abbrev pub add_all : List Entry → List Entry → List Entry
add_all [] entries = entries
add_all (e ∷ es) entries = add_all es (add_entry e.axiom e.origin entries)

-- the ontology has these entries more, and its name
pub record AreAdded (before after : OntologyState) (added : List Entry) : Type 0 where
  pub name : after.name ≡ before.name
  pub entries : after.entries ≡ add_all added before.entries

-- what a clause says by itself
abbrev pub said_by : List ℕ → Situation → Row → Option Axiom
said_by space situation row =
    said_at (read_in space) (of_row row) (option_map (λ kind. name_as kind row.iri.now) (kind_of row.placed.now.frame (has situation.metadata row.iri.now)))

abbrev pub entries_said : List ℕ → ℕ → Situation → Row → List Entry
entries_said space file situation row = map (λ said. entry_at said file row.placed.now.line) (option_to_list (said_by space situation row))
