-- What an ontology gives frames, axiom by axiom. (Own.)
use Rattle.std.specs.Prelude.{ℕ, Bool, List, [], ◌∷◌, ◌++◌, Option, if◌then◌else◌}
use Rattle.std.specs.List.{filter_map, flat_map, list_any}
use Rattle.std.specs.Option.{option_to_list}
use Rattle.std.specs.Str.{bytes_eq}
use Rattle.owl_axioms.specs.declared.name.Name.{Name}
use Rattle.owl_ontology.specs.Ontology.{Entry}
use Rattle.owl_ontology.specs.declared.origin.Origin.{Origin}
use Rattle.obo_clause.specs.declared.clause.Clause.{Clause}
use Rattle.obo_notes.specs.Context.{Writing, where_true}
use Rattle.obo_statements.specs.Groups.{intersection, union}
use Rattle.obo_mapping.specs.TwoValues.{Given, given, group_given, kind_given, notes_given, printed, single_tags}

-- a frame has notes of this tag once
abbrev pub is_single : List ℕ → Bool
is_single tag = list_any (bytes_eq tag) single_tags

-- what a clause of a note gives
abbrev pub note_given : Writing → List Name → Name → Origin → Clause → Option Given
note_given writing declared subject origin clause = where_true (is_single clause.tag) (given writing declared subject clause.tag (printed clause) origin)

-- what an axiom gives
abbrev pub given_by : Writing → List Name → Bool → Entry → List Given
given_by writing declared check entry =
    (if check then notes_given writing declared entry else [])
    ++ (filter_map (group_given writing declared entry) (intersection ∷ union ∷ []) ++ option_to_list (kind_given writing declared entry))

-- what all axioms give, where these entities are declared
abbrev pub all_given : Writing → List Name → Bool → List Entry → List Given
all_given writing declared check entries = flat_map (given_by writing declared check) entries
