-- What files are made of, and which bytes fit that. (Own.)
use Rattle.std.specs.Prelude.{◌≡◌, ℕ, Bool, List}
use Rattle.owl_axioms.specs.Names.{Scope}
use Rattle.owl_ontology.specs.Ontology.{OntologyState, axioms_of}
use Rattle.owl_sem.specs.Models.{Keeps}
use Rattle.chain_words.specs.declared.command.Format.{Format}
use Rattle.chain_words.specs.declared.command.Format.TheVariants.{Obo, Ofn}
use Rattle.obo_writer.specs.Text.{ReadsBack, obo_text}
use Rattle.ofn_writer.specs.Text.{ofn_text}

-- what a file is made of: the axioms of the inputs, what the steps made of these, and how that is written
pub record Made : Type 0 where
  -- the merged axioms
  pub merged : OntologyState
  -- the axioms that are written
  pub ontology : OntologyState
  -- the names over which these keep the merged ones
  pub scope : Scope
  pub format : Format
  -- whether an OBO frame with two values where one is meant is refused
  pub check : Bool

-- the text of axioms
abbrev pub text_of : Format → OntologyState → List ℕ
text_of Obo ontology = obo_text ontology
text_of Ofn ontology = ofn_text ontology

-- an OBO text is read as the axioms
abbrev pub ReadsAgain : Format → OntologyState → Type 0
ReadsAgain Obo ontology = ReadsBack ontology
ReadsAgain Ofn ontology = Unit {0}

-- the bytes are the text of the axioms; OBO reads back; and the axioms follow from the merged ones, while each finite model of
-- them agrees over the scope with one of the merged ones
pub record Fits (made : Made) (bytes : List ℕ) : Type 0 where
  pub text : bytes ≡ text_of made.format made.ontology
  pub reads_back : ReadsAgain made.format made.ontology
  pub keeps : Keeps (axioms_of made.merged.entries) (axioms_of made.ontology.entries) made.scope
