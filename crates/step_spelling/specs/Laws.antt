-- What can be written as a document stays so with each step: after relaxing, after reducing, as what a module is shipped
-- with, so after an extract, with more inclusions of classes in classes, and so after reasoning. (Own.)
use Rattle.std.specs.Prelude.{◌≡◌, ◌⊎◌, ℕ, Bool, true, List, length}
use Rattle.std.specs.List.{filter_map}
use Rattle.text_sets.specs.Sets.{In}
use Rattle.chain_words.specs.declared.command.Method.{Method}
use Rattle.owl_axioms.specs.Names.{Scope, listed, names_of}
use Rattle.owl_axioms.specs.Vocabulary.{owl_nothing, owl_thing}
use Rattle.owl_axioms.specs.declared.body.Axiom.{Axiom}
use Rattle.owl_axioms.specs.declared.name.Kind.TheVariants as kinds
use Rattle.owl_ontology.specs.Ontology.{OntologyState, axioms_of, flagged}
use Rattle.extract_step.specs.Extract.{extracted}
use Rattle.obo_statements.specs.Anchors.{class_entity}
use Rattle.obo_mapping.specs.Back.{IsSpellable}
use Rattle.obo_mapping.specs.Documents.{declared_in}
use Rattle.relax_axioms.specs.Relax.{Relaxes}
use Rattle.relax_axioms.specs.Relaxed.{plain}
use Rattle.reduce_edges.specs.Edges.{edge}
use Rattle.reduce_edges.specs.Reduce.{Reduces}
use Rattle.el_taxonomy.specs.Reason.{Reasons}
use Rattle.module_extract.specs.Shipped.{shipped_flags}
use Rattle.seed_list.specs.declared.seed.Seed.{Seed}

-- the ontology can be written as a document
abbrev pub CanBeWritten : OntologyState → Type 0
CanBeWritten ontology = IsSpellable ontology.name (axioms_of ontology.entries)

abbrev pub RelaxingKeepsSpelling : Type 0
RelaxingKeepsSpelling = (before after : OntologyState) (count : ℕ) → Relaxes before after count → CanBeWritten before → CanBeWritten after

abbrev pub ReducingKeepsSpelling : Type 0
ReducingKeepsSpelling = (before after : OntologyState) (keep_annotated : Bool) (count : ℕ) → Reduces before after keep_annotated count → CanBeWritten before → CanBeWritten after

-- what is shipped with any part of the axioms, for any seed
pub record Ships (before after : OntologyState) (seed : Scope) (kept : List Bool) : Type 0 where
  pub long : length kept ≡ length before.entries
  pub is : after ≡ record before { entries = flagged (shipped_flags seed (axioms_of before.entries) kept) before.entries }

abbrev pub ShippingKeepsSpelling : Type 0
ShippingKeepsSpelling = (before after : OntologyState) (seed : Scope) (kept : List Bool) → Ships before after seed kept → CanBeWritten before → CanBeWritten after

-- what an extract leaves, by any method and for any seed
abbrev pub ExtractingKeepsSpelling : Type 0
ExtractingKeepsSpelling = (before : OntologyState) (method : Method) (seed : Seed) → CanBeWritten before → CanBeWritten (extracted method seed before)

-- an axiom without annotations that a declared class is a subclass of a class that the axioms name, as they name each class
-- that they declare; owl:Thing and owl:Nothing are neither
pub record IsNewEdge (axioms : List Axiom) (one : Axiom) : Type 0 where
  pub sub : List ℕ
  pub super : List ℕ
  pub is : one ≡ plain (edge sub super)
  pub declared : In (class_entity sub) (filter_map declared_in axioms)
  pub no_thing : ¬ (sub ≡ owl_thing)
  pub no_nothing : ¬ (sub ≡ owl_nothing)
  pub named : listed (names_of axioms) kinds.Class super ≡ true

-- all that was there stays, under the same name, and no axioms but such ones are new
pub record AddsEdges (before after : OntologyState) : Type 0 where
  pub name : after.name ≡ before.name
  pub each : (one : Axiom) → In one (axioms_of before.entries) → In one (axioms_of after.entries)
  pub only : (one : Axiom) → In one (axioms_of after.entries) → In one (axioms_of before.entries) ⊎ IsNewEdge (axioms_of before.entries) one

abbrev pub EdgesKeepSpelling : Type 0
EdgesKeepSpelling = (before after : OntologyState) → AddsEdges before after → CanBeWritten before → CanBeWritten after

-- what reasoning adds are such axioms
abbrev pub ReasoningKeepsSpelling : Type 0
ReasoningKeepsSpelling = (before after : OntologyState) (limit count unused : ℕ) → Reasons before after limit count unused → CanBeWritten before → CanBeWritten after
