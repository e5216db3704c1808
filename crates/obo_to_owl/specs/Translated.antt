-- What the translation of a document gives. (Own.)
use Rattle.std.specs.Prelude.{◌≡◌, ℕ, List, Some}
use Rattle.owl_ontology.specs.Ontology.{Entry}
use Rattle.obo_frames.specs.declared.placed.Placed.{Placed}
use Rattle.obo_mapping.specs.Lines.{line_of}

-- an axiom comes from the file, and from the least of its lines there
pub record IsPlaced (file : ℕ) (document : List Placed) (entry : Entry) : Type 0 where
  pub from : entry.origin.file ≡ file
  pub line : line_of document entry.axiom ≡ Some entry.origin.line
