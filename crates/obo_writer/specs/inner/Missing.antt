-- The namespaces of frames that have none, as the program finds them. (Own.)
use Rattle.std.specs.Prelude.{ℕ, Bool, not, ◌&&◌, List, [], codes, filter, unwrap_or}
use Rattle.std.specs.List.{filter_map, flat_map, list_any}
use Rattle.std.specs.Str.{bytes_eq}
use Rattle.indexmap.specs.IndexSet.{IndexSet}
use Rattle.owl_axioms.specs.contracts.name.KindPartialEq.TheImpl as kind_eq
use Rattle.owl_axioms.specs.declared.annotation.NoteValue.TheVariants as noted
use Rattle.owl_axioms.specs.declared.body.Axiom.{Axiom}
use Rattle.owl_axioms.specs.declared.body.Body.TheVariants as body
use Rattle.owl_axioms.specs.declared.name.Name.{Name}
use Rattle.obo_frames.specs.Framed.{Framed}
use Rattle.obo_notes.specs.Context.{Writing}
use Rattle.obo_notes.specs.Vocabulary.{own_property}
use Rattle.obo_mapping.specs.Documents.{clauses_for, declared_in, is_namespace}

-- two names are one, as the program compares them
abbrev pub name_eq : Name → Name → Bool
name_eq one other = kind_eq.ghosts.eq one.kind other.kind && bytes_eq one.iri other.iri

-- the name is in the set
abbrev pub has_name : {S : Type 0} → IndexSet Name S → Name → Bool
has_name set name = list_any (name_eq name) set.keys

-- the declared names without a namespace
abbrev pub names_without : List Axiom → List Name
names_without axioms = filter (λ (name : Name). not (list_any (name_eq name) (filter_map is_namespace axioms))) (filter_map declared_in axioms)

-- that a name has the namespace
abbrev pub spacing : List ℕ → Name → Axiom
spacing text name = record { body = body.Note name (own_property (codes "hasOBONamespace")) (noted.Text text); sides = [] }

-- the clauses that say so for each of the names, where these entities are declared
abbrev pub clauses_spaced : Writing → List Name → List ℕ → Name → List Framed
clauses_spaced writing declared text name = unwrap_or (clauses_for writing declared (spacing text name)) []

abbrev pub all_spaced : Writing → List Name → List ℕ → List Name → List Framed
all_spaced writing declared text names = flat_map (clauses_spaced writing declared text) names
