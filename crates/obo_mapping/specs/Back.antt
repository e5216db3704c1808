-- The document of an ontology, and what it says: the axioms, with the namespaces of frames that have none. (Own.)
use Rattle.std.specs.Prelude.{◌≡◌, ℕ, Bool, List, [], ◌++◌, Option, Some, is_some}
use Rattle.std.specs.List.{filter_map, list_all}
use Rattle.std.specs.Option.{IsSome, option_to_list}
use Rattle.iri_map.specs.Ontology.{name_or_temp, normalised}
use Rattle.obo_clause.specs.declared.clause.Clause.{Clause}
use Rattle.text_sets.specs.Sets.{In, SameMembers}
use Rattle.owl_axioms.specs.Proper.{IsProper}
use Rattle.owl_axioms.specs.declared.body.Axiom.{Axiom}
use Rattle.owl_axioms.specs.declared.name.Kind.TheVariants as kinds
use Rattle.obo_frames.specs.Framed.{Framed}
use Rattle.obo_mapping.specs.Axioms.{name_as}
use Rattle.obo_notes.specs.Context.{Writing, writing_in}
use Rattle.obo_mapping.specs.Documents.{clauses_for, declared_in, header_with, name_of, owl, spaced, spelled}
use Rattle.obo_mapping.specs.Sound.{IsSound}
use Rattle.obo_statements.specs.Groups.{Group, group_spelling}

abbrev pub writing_of : Option (List ℕ) → Writing
writing_of name = writing_in (name_or_temp name)

-- the document of an ontology: its header, and the clauses of its axioms
unfoldable pub back : Option (List ℕ) → List Axiom → List Framed
back name axioms = header_with (option_to_list name) ++ spelled (writing_of name) axioms

-- no IRI is declared as a relation and as an annotation property, and no class has two groups of one kind
pub record IsTold (writing : Writing) (axioms : List Axiom) : Type 0 where
  pub names : (iri : List ℕ) → In (name_as kinds.Role iri) (filter_map declared_in axioms) → In (name_as kinds.AnnotationProperty iri) (filter_map declared_in axioms) → ⊥
  pub groups : (x : List ℕ) (group : Group) (one other : Axiom) (some others : List Clause) → In one axioms → In other axioms
      → group_spelling writing x group one ≡ Some some → group_spelling writing x group other ≡ Some others → one ≡ other

-- the name is its own normalised value, and each axiom is proper and has a form
pub record IsSpellable (name : Option (List ℕ)) (axioms : List Axiom) : Type 0 where
  pub normal : (value : List ℕ) → In value (option_to_list name) → normalised value ≡ value
  pub proper : (one : Axiom) → In one axioms → IsProper one
  pub formed : (one : Axiom) → In one axioms → IsSome (clauses_for (writing_of name) (filter_map declared_in axioms) one)

-- each axiom has a form, and the entity in whose frame it stands is declared
unfoldable pub spellable : Option (List ℕ) → List Axiom → Bool
spellable name axioms = list_all (λ one. is_some (clauses_for (writing_of name) (filter_map declared_in axioms) one)) axioms

-- the document says the axioms, with their namespaces, under the same name
pub record SaysAgain (name : Option (List ℕ)) (axioms : List Axiom) : Type 0 where
  pub same_name : name_of (back name axioms) ≡ name
  pub says : SameMembers (owl (back name axioms)) (spaced [] [] axioms)

abbrev pub AxiomsReadBack : Type 0
AxiomsReadBack = (name : Option (List ℕ)) (axioms : List Axiom) → IsSpellable name axioms → IsTold (writing_of name) axioms → SaysAgain name axioms

-- the axioms of a document have forms, and no name stands for two
abbrev pub OwlIsSpellable : Type 0
OwlIsSpellable = (d : List Framed) → IsSound d → IsSpellable (name_of d) (owl d) × IsTold (writing_of (name_of d)) (owl d)
