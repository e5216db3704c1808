-- The clauses of one axiom, case by case. (Own.)
use Rattle.std.specs.Prelude.{Bool, List, [], ◌∷◌, Option, None, map, is_some, unwrap_or}
use Rattle.std.specs.List.{flat_map, list_all}
use Rattle.std.specs.Option.{option_and_then, option_map, option_or}
use Rattle.obo_tags.specs.declared.kind.FrameKind.TheVariants.{Header, Term}
use Rattle.owl_axioms.specs.declared.annotation.Side.{Side}
use Rattle.owl_axioms.specs.declared.body.Axiom.{Axiom}
use Rattle.owl_axioms.specs.declared.name.Name.{Name}
use Rattle.obo_frames.specs.Framed.{Framed, framed}
use Rattle.obo_notes.specs.Context.{Writing}
use Rattle.obo_notes.specs.Notes.{spelling}
use Rattle.obo_notes.specs.declared.note.Note.{Note}
use Rattle.obo_statements.specs.Groups.{Group, group_spelling, intersection, union}
use Rattle.obo_statements.specs.Statements.{statement_spelling}
use Rattle.obo_mapping.specs.Axioms.{Home, at_home, declaring, frame_id, frame_kind}
use Rattle.obo_mapping.specs.Documents.{clauses_for}

-- the clauses of a declaration with these annotations
abbrev pub declared_by : Writing → Name → List Side → Option (List Framed)
declared_by writing name [] = option_map (declaring name) (frame_id writing name)
declared_by writing name (side ∷ sides) = None

-- the clause of a note about the entity of a frame
abbrev pub note_at : Writing → Option Home → Note → Option (List Framed)
note_at writing home note =
    option_and_then (λ (home : Home). option_map (at_home home) (spelling writing (frame_kind home.entity.kind) note)) home

-- the clause of a note about the ontology
abbrev pub header_spelled : Writing → Note → Option (List Framed)
header_spelled writing note = option_map (λ clause. framed Header [] clause ∷ []) (spelling writing Header note)

-- the clauses of a group in a frame
abbrev pub grouped_at : Writing → Axiom → Home → Group → Option (List Framed)
grouped_at writing one home group = option_map (map (framed Term home.id)) (group_spelling writing home.entity.iri group one)

-- the clauses of any other axiom in its frame
abbrev pub stated_at : Writing → Axiom → Home → Option (List Framed)
stated_at writing one home =
    option_or (option_map (at_home home) (statement_spelling writing (frame_kind home.entity.kind) home.entity.iri one))
    (option_or (grouped_at writing one home intersection) (grouped_at writing one home union))

-- the clauses of all axioms, where these entities are declared
abbrev pub spelled_in : Writing → List Name → List Axiom → List Framed
spelled_in writing declared axioms = flat_map (λ one. unwrap_or (clauses_for writing declared one) []) axioms

-- each axiom has some
abbrev pub are_formed : Writing → List Name → List Axiom → Bool
are_formed writing declared axioms = list_all (λ one. is_some (clauses_for writing declared one)) axioms
