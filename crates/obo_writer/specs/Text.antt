-- The OBO text of an ontology, and what it reads as. (Own.)
use Rattle.std.specs.Prelude.{◌≡◌, ℕ, List, [], Ok, map}
use Rattle.text_sets.specs.Sets.{SameMembers}
use Rattle.obo_frames.specs.Answer.{document_of}
use Rattle.obo_frames.specs.Framed.{unlined}
use Rattle.obo_frames.specs.declared.placed.Placed.{Placed}
use Rattle.obo_text.specs.Laws.{LinesFit}
use Rattle.owl_ontology.specs.Ontology.{OntologyState, axioms_of}
use Rattle.obo_mapping.specs.Back.{back}
use Rattle.obo_mapping.specs.Documents.{name_of, norm, owl, spaced}
use Rattle.obo_canonical.specs.Laws.{canonical}

-- the canonical text of the document that says the axioms
unfoldable pub obo_text : OntologyState → List ℕ
obo_text o = canonical (back o.name (axioms_of o.entries))

-- no line of that text is longer than this
unfoldable pub HasShortLines : ℕ → OntologyState → Type 0
HasShortLines limit o = LinesFit limit (norm (back o.name (axioms_of o.entries)))

-- the bytes are a document with this name and these axioms, and with the namespaces of frames that have none
pub record ReadsAs (limit : ℕ) (o : OntologyState) (bytes : List ℕ) : Type 0 where
  pub read : List Placed
  pub document : document_of limit bytes ≡ Ok read
  pub name : name_of (map unlined read) ≡ o.name
  pub axioms : SameMembers (owl (map unlined read)) (spaced [] [] (axioms_of o.entries))

-- so it is with the text, where no line of it is longer than the limit
abbrev pub ReadsBack : OntologyState → Type 0
ReadsBack o = (limit : ℕ) → HasShortLines limit o → ∥ ReadsAs limit o (obo_text o) ∥₁
