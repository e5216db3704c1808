-- What merging amounts to. (Own.)
use Rattle.std.specs.Prelude.{◌≡◌, ◌↔◌, List, [], ◌∷◌, IsTrue}
use Rattle.text_sets.specs.Sets.{In, SameMembers}
use Rattle.owl_axioms.specs.declared.body.Axiom.{Axiom}
use Rattle.owl_ontology.specs.Ontology.{OntologyState}
use Rattle.owl_ontology.specs.Same.{SaysTheSame}
use Rattle.import_closure.specs.declared.files.SourceFile.{SourceFile}
use Rattle.spelling_laws.specs.Laws.{is_ontology_note}
use Rattle.import_merge.specs.Merged.{IsMerged, first_name, said_in}

-- the files decide the axioms and where each comes from
abbrev pub FilesDecide : OntologyState → OntologyState → Type 0
FilesDecide one other =
    (sources : List SourceFile) → IsMerged sources one → IsMerged sources other → SameMembers one.entries other.entries

-- the notes about the ontology that the first file says
abbrev pub IsNoted : List SourceFile → Axiom → Type 0
IsNoted [] one = ⊥
IsNoted (source ∷ sources) one = IsTrue (is_ontology_note one) × In one (said_in source)

-- two lists have the same files, and their first files agree on the name of the ontology and the notes about it
pub record AreReordered (sources others : List SourceFile) : Type 0 where
  pub files : SameMembers sources others
  pub name : first_name sources ≡ first_name others
  pub notes : (one : Axiom) → IsNoted sources one ↔ IsNoted others one

-- in another order files come to the same axioms
abbrev pub OrderIsFree : OntologyState → OntologyState → Type 0
OrderIsFree one other =
    (sources others : List SourceFile) → AreReordered sources others → IsMerged sources one → IsMerged others other → SaysTheSame one other
