-- Which lists of axioms can be written as a document: those that are read of one, and those that are put together. The name
-- and the order do not matter, and more declarations do no harm. (Own.)
use Rattle.std.specs.Prelude.{ℕ, ◌≡◌, Bool, true, false, not, ◌⊎◌, List, [], ◌++◌, Option, IsSome, filter, map}
use Rattle.std.specs.List.{filter_map}
use Rattle.iri_map.specs.Candidate.{id_of}
use Rattle.text_sets.specs.Sets.{In, SameMembers}
use Rattle.owl_axioms.specs.declared.body.Axiom.{Axiom}
use Rattle.owl_axioms.specs.declared.body.Body.{Body}
use Rattle.owl_axioms.specs.declared.body.Body.TheVariants as body
use Rattle.owl_axioms.specs.Names.{listed, names_of}
use Rattle.owl_axioms.specs.Proper.{IsProper, is_class_iri}
use Rattle.owl_axioms.specs.declared.expr.ClassExpr.{ClassExpr}
use Rattle.owl_axioms.specs.declared.expr.ClassExpr.TheVariants as expr
use Rattle.owl_axioms.specs.declared.name.Kind.TheVariants as kinds
use Rattle.owl_axioms.specs.declared.name.Name.{Name}
use Rattle.obo_frames.specs.Framed.{unlined}
use Rattle.obo_frames.specs.Soundness.{IsSound}
use Rattle.obo_frames.specs.declared.placed.Placed.{Placed}
use Rattle.obo_statements.specs.Anchors.{anchors, class_entity}
use Rattle.obo_statements.specs.Groups.{intersection, operand_worded}
use Rattle.obo_mapping.specs.Back.{IsSpellable, writing_of}
use Rattle.obo_mapping.specs.Documents.{declared_in, name_of, owl}

-- an IRI that has an id in an ontology of one name has one in an ontology of any name
abbrev pub IdsGoByNoName : Type 0
IdsGoByNoName = (iri one other : List ℕ) → IsSome (id_of iri one) → IsSome (id_of iri other)

-- the same axioms in any order, with any repeats
abbrev pub SpellableIsOfSet : Type 0
SpellableIsOfSet = (name : Option (List ℕ)) (axioms others : List Axiom) → SameMembers others axioms → IsSpellable name axioms → IsSpellable name others

-- under the name of a document, the axioms that it says, in any order and with any repeats
pub record IsRead (document : List Placed) (called : Option (List ℕ)) (axioms : List Axiom) : Type 0 where
  pub name : called ≡ name_of (map unlined document)
  pub says : SameMembers axioms (owl (map unlined document))

-- what is read can be written
abbrev pub ReadCanBeWritten : Type 0
ReadCanBeWritten = (document : List Placed) (name : Option (List ℕ)) (axioms : List Axiom) → IsSound document → IsRead document name axioms → IsSpellable name axioms

-- each axiom is of one of two lists, and all that either declares is declared
pub record IsGathered (some others gathered : List Axiom) : Type 0 where
  pub each : (one : Axiom) → In one gathered → In one some ⊎ In one others
  pub declared : (name : Name) → In name (filter_map declared_in (some ++ others)) → In name (filter_map declared_in gathered)

-- axioms of two ontologies, each of which can be written under its own name, can be written under the name of the first
abbrev pub GatheringKeepsSpelling : Type 0
GatheringKeepsSpelling = (name other : Option (List ℕ)) (some others gathered : List Axiom)
    → IsSpellable name some → IsSpellable other others → IsGathered some others gathered → IsSpellable name gathered

-- a note about the ontology itself
abbrev pub is_ontology_note : Axiom → Bool
is_ontology_note one = by_body one.body
  where
    by_body : Body → Bool
    by_body (body.OntologyNote property noted) = true
    by_body _ = false

-- the axioms that are no notes about the ontology
abbrev pub without_ontology_notes : List Axiom → List Axiom
without_ontology_notes axioms = filter (λ one. not (is_ontology_note one)) axioms

-- an ontology together with one more, of which the notes about the ontology are left out
abbrev pub MergingKeepsSpelling : Type 0
MergingKeepsSpelling = (name other : Option (List ℕ)) (some others merged : List Axiom)
    → IsSpellable name some → IsSpellable other others → SameMembers merged (some ++ without_ontology_notes others) → IsSpellable name merged

-- a part of the axioms: what an axiom of the part can be stated of stays declared
pub record IsRooted (axioms part : List Axiom) : Type 0 where
  pub each : (one : Axiom) → In one part → In one axioms
  pub declared : (one : Axiom) (entity : Name) → In one part → In entity (anchors one.body) → In entity (filter_map declared_in axioms) → In entity (filter_map declared_in part)

-- such a part of what can be written can be written
abbrev pub PartKeepsSpelling : Type 0
PartKeepsSpelling = (name : Option (List ℕ)) (axioms part : List Axiom) → IsSpellable name axioms → IsRooted axioms part → IsSpellable name part

-- an axiom without annotations that a declared class is a subclass of a class or a restriction that can be written
pub record IsInclusion (name : Option (List ℕ)) (axioms : List Axiom) (one : Axiom) : Type 0 where
  pub class : List ℕ
  pub super : ClassExpr
  pub is : one ≡ record { body = body.Sub (expr.Class class) super; sides = [] }
  pub declared : In (class_entity class) (filter_map declared_in axioms)
  pub has : IsSome (operand_worded (writing_of name) intersection super)
  pub proper : IsProper one

-- what can be written stays so with such inclusions
abbrev pub InclusionsKeepSpelling : Type 0
InclusionsKeepSpelling = (name : Option (List ℕ)) (axioms more : List Axiom) → IsSpellable name axioms
    → ((one : Axiom) → In one axioms → In one more) → ((one : Axiom) → In one more → In one axioms ⊎ IsInclusion name axioms one) → IsSpellable name more

-- where axioms can be written, each class that they name has an id, and is neither owl:Thing nor owl:Nothing
abbrev pub NamedClassesHaveIds : Type 0
NamedClassesHaveIds = (name : Option (List ℕ)) (axioms : List Axiom) → IsSpellable name axioms
    → (iri : List ℕ) → listed (names_of axioms) kinds.Class iri ≡ true → IsSome ((writing_of name).id iri) × (is_class_iri iri ≡ true)
