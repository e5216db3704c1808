-- The ontology of a list of files: what each of them gives, and what all give together. (Own; that the axioms of an
-- ontology and of what it imports are taken together: OWL 2 Structural Specification and Functional-Style Syntax, section 3.4.)
use Rattle.std.specs.Prelude.{◌≡◌, ℕ, zero, suc, List, [], ◌∷◌, IsFalse, Option, None, Some, map, slice_get}
use Rattle.text_sets.specs.Sets.{In}
use Rattle.owl_axioms.specs.declared.body.Axiom.{Axiom}
use Rattle.owl_ontology.specs.Ontology.{Entry, OntologyState, axioms_of, entry_of}
use Rattle.owl_ontology.specs.Origins.{comes_before}
use Rattle.owl_ontology.specs.declared.origin.Origin.{Origin}
use Rattle.obo_frames.specs.Framed.{unlined}
use Rattle.obo_mapping.specs.Documents.{name_of, owl}
use Rattle.obo_mapping.specs.Lines.{line_of}
use Rattle.spelling_laws.specs.Laws.{without_ontology_notes}
use Rattle.import_closure.specs.declared.files.SourceFile.{SourceFile}

-- the axioms that a file says
abbrev pub said_in : SourceFile → List Axiom
said_in source = owl (map unlined source.document)

-- the axioms that a file gives, by its place in the list: of its notes about the ontology those of the first file alone
abbrev pub given_by : ℕ → SourceFile → List Axiom
given_by zero source = said_in source
given_by (suc place) source = without_ontology_notes (said_in source)

-- some file gives the axiom, and it stands there in this line
pub record IsGiven (sources : List SourceFile) (entry : Entry) : Type 0 where
  pub source : SourceFile
  pub there : slice_get sources entry.origin.file ≡ Some source
  pub given : In entry.axiom (given_by entry.origin.file source)
  pub line : line_of source.document entry.axiom ≡ Some entry.origin.line

-- the name of the first file
abbrev pub first_name : List SourceFile → Option (List ℕ)
first_name [] = None
first_name (source ∷ sources) = name_of (map unlined source.document)

-- the ontology of the files
pub record IsMerged (sources : List SourceFile) (o : OntologyState) : Type 0 where
  pub name : o.name ≡ first_name sources
  -- each axiom comes from a file and its line there
  pub given : (entry : Entry) → In entry o.entries → IsGiven sources entry
  -- from the first of the files that give it
  pub least : (entry : Entry) → In entry o.entries → (other : Origin) → IsGiven sources (entry_of entry.axiom other) → IsFalse (comes_before other entry.origin)
  -- and each axiom that a file gives is there
  pub all : (place : ℕ) (source : SourceFile) (one : Axiom) → slice_get sources place ≡ Some source → In one (given_by place source) → In one (axioms_of o.entries)
