-- How a file joins the files before it. Only private functions speak of it. (Own.)
use Rattle.std.specs.Prelude.{◌≡◌, ◌++◌, ℕ, List, [], ◌∷◌, filter, length, not, reverse}
use Rattle.owl_ontology.specs.Ontology.{Entry, OntologyState, add_entries, axioms_of}
use Rattle.obo_frames.specs.declared.placed.Placed.{Placed}
use Rattle.import_closure.specs.declared.files.SourceFile.{SourceFile}
use Rattle.obo_mapping.specs.Back.{IsSpellable}
use Rattle.spelling_laws.specs.Laws.{is_ontology_note}
use Rattle.import_merge.specs.Merged.{IsMerged}

-- the entries that are no notes about the ontology, the last first
abbrev pub moved : List Entry → List Entry
moved entries = reverse (filter (λ (entry : Entry). not (is_ontology_note entry.axiom)) entries)

-- an ontology with those of another moved into it
abbrev pub with_moved : OntologyState → List Entry → OntologyState
with_moved o entries = record o { entries = add_entries o.entries (moved entries) }

-- the document of the file behind so many is merged into the ontology of these
abbrev pub Joins : ℕ → List Placed → OntologyState → OntologyState → Type 0
Joins place document old new =
    (sources : List SourceFile) (source : SourceFile) → length sources ≡ place → source.document ≡ document → IsMerged sources old → IsMerged (sources ++ source ∷ []) new

-- if the one can be written as a document, so can the other
abbrev pub KeepsSpelling : OntologyState → OntologyState → Type 0
KeepsSpelling old new = IsSpellable old.name (axioms_of old.entries) → IsSpellable new.name (axioms_of new.entries)
