-- One axiom and the clauses of its frame: what a clause in its frame says, and in which frame by which clauses an axiom
-- stands. Groups, whose clauses say one axiom together, stand apart. (Own.)
use Rattle.std.specs.Prelude.{ℕ, Bool, true, false, ◌&&◌, List, [], ◌∷◌, codes, if◌then◌else◌, Option, None, Some}
use Rattle.std.specs.Option.{option_and_then, option_map, option_or, option_to_list}
use Rattle.std.specs.Str.{bytes_eq}
use Rattle.std.specs.List.{filter_map, list_any}
use Rattle.obo_tags.specs.declared.kind.FrameKind.{FrameKind}
use Rattle.obo_tags.specs.declared.kind.FrameKind.TheVariants.{Header, Instance, Term, Typedef}
use Rattle.obo_clause.specs.declared.clause.Clause.{Clause}
use Rattle.obo_clause.specs.declared.clause.Value.TheVariants as value
use Rattle.obo_frames.specs.Framed.{Framed, framed, id_clause}
use Rattle.owl_axioms.specs.declared.annotation.Side.{Side}
use Rattle.owl_axioms.specs.declared.body.Axiom.{Axiom}
use Rattle.owl_axioms.specs.declared.body.Body.{Body}
use Rattle.owl_axioms.specs.declared.body.Body.TheVariants as body
use Rattle.owl_axioms.specs.declared.name.Kind.{Kind}
use Rattle.owl_axioms.specs.declared.name.Kind.TheVariants as kinds
use Rattle.owl_axioms.specs.declared.name.Name.{Name}
use Rattle.text_sets.specs.Sorted.{sorted_by}
use Rattle.obo_notes.specs.Context.{Reading, Writing, where_true}
use Rattle.obo_notes.specs.Forms.{first_part, note_of}
use Rattle.obo_notes.specs.declared.note.Note.{Note}
use Rattle.obo_notes.specs.Notes.{meaning, spelling}
use Rattle.obo_statements.specs.Statements.{statement_meaning, statement_spelling}
use Rattle.obo_statements.specs.Anchors.{anchors}

-- how ids are read in a document, and which IRIs name annotation properties there
pub record Situation : Type 0 where
  pub reading : Reading
  pub metadata : List (List ℕ)

abbrev pub name_as : Kind → List ℕ → Name
name_as kind iri = record { kind = kind; iri = iri }

abbrev pub is_metadata : Situation → List ℕ → Bool
is_metadata situation iri = list_any (bytes_eq iri) situation.metadata

-- the entity of a frame
abbrev pub entity_of : Situation → FrameKind → List ℕ → Option Name
entity_of situation Header id = None
entity_of situation Term id = Some (name_as kinds.Class (situation.reading.iri id))
entity_of situation Instance id = Some (name_as kinds.Individual (situation.reading.iri id))
entity_of situation Typedef id =
    Some (if is_metadata situation (situation.reading.iri id)
    then name_as kinds.AnnotationProperty (situation.reading.iri id)
    else name_as kinds.Role (situation.reading.role_iri id))

-- the frame kind of an entity, and the id of its frame
abbrev pub frame_kind : Kind → FrameKind
frame_kind kinds.Class = Term
frame_kind kinds.Role = Typedef
frame_kind kinds.Individual = Instance
frame_kind kinds.AnnotationProperty = Typedef

abbrev pub frame_id : Writing → Name → Option (List ℕ)
frame_id writing name = id_by writing name.kind name.iri
  where
    id_by : Writing → Kind → List ℕ → Option (List ℕ)
    id_by writing kinds.Class iri = writing.id iri
    id_by writing kinds.Role iri = writing.role_id iri
    id_by writing kinds.Individual iri = writing.id iri
    id_by writing kinds.AnnotationProperty iri = writing.id iri

abbrev pub note_axiom : Name → Note → Axiom
note_axiom name note = record { body = body.Note name note.property note.value; sides = note.sides }

abbrev pub ontology_axiom : Note → Axiom
ontology_axiom note = record { body = body.OntologyNote note.property note.value; sides = note.sides }

-- an `id` clause says that its entity is there
abbrev pub declared_by : Name → Clause → Option Axiom
declared_by name clause = where_true (bytes_eq clause.tag (codes "id")) (Some (record { body = body.Declaration name; sides = [] }))

-- statements are of entities that are no annotation properties
abbrev pub is_logical : Kind → Bool
is_logical kinds.AnnotationProperty = false
is_logical _ = true

-- what a clause says of the entity of its frame
abbrev pub said_of : Situation → FrameKind → Name → Clause → Option Axiom
said_of situation kind name clause =
    option_or (declared_by name clause)
    (option_or (option_map (note_axiom name) (meaning situation.reading clause))
    (where_true (is_logical name.kind) (statement_meaning situation.reading kind name.iri clause)))

-- what a clause says where its frame is that of an entity, or the header
abbrev pub said_at : Situation → Framed → Option Name → Option Axiom
said_at situation one None = option_map ontology_axiom (meaning situation.reading one.clause)
said_at situation one (Some name) = said_of situation one.frame name one.clause

-- what a clause says, if it says an axiom by itself
unfoldable pub axiom_said : Situation → Framed → Option Axiom
axiom_said situation one = said_at situation one (entity_of situation one.frame one.id)

-- all that a clause says by itself
unfoldable pub axioms_said : Situation → Framed → List Axiom
axioms_said situation one = option_to_list (axiom_said situation one)

-- ---- where an axiom stands

abbrev pub same_kind : Kind → Kind → Bool
same_kind kinds.Class kinds.Class = true
same_kind kinds.Role kinds.Role = true
same_kind kinds.Individual kinds.Individual = true
same_kind kinds.AnnotationProperty kinds.AnnotationProperty = true
same_kind _ _ = false

abbrev pub is_declared : List Name → Name → Bool
is_declared declared name = list_any (λ (one : Name). same_kind one.kind name.kind && bytes_eq one.iri name.iri) declared

-- an entity with the id of its frame
pub record Home : Type 0 where
  pub entity : Name
  pub id : List ℕ

abbrev pub home_at : Writing → List Name → Name → Option Home
home_at writing declared name = where_true (is_declared declared name) (option_map (λ id. record { entity = name; id = id }) (frame_id writing name))

-- the least of the ids of the declared anchors
abbrev pub home_of : Writing → List Name → Body → Option Home
home_of writing declared said = first_part (sorted_by (λ (h : Home). h.id) (filter_map (home_at writing declared) (anchors said)))

abbrev pub metadata_clause : Clause
metadata_clause = record { tag = codes "is_metadata_tag"; value = value.Bool true; qualifiers = [] }

-- the clauses that declare an entity
abbrev pub declaring : Name → List ℕ → List Framed
declaring name id = framed (frame_kind name.kind) id (id_clause id) ∷ metadata_of name.kind id
  where
    metadata_of : Kind → List ℕ → List Framed
    metadata_of kinds.AnnotationProperty id = framed Typedef id metadata_clause ∷ []
    metadata_of _ id = []

abbrev pub at_home : Home → Clause → List Framed
at_home home clause = framed (frame_kind home.entity.kind) home.id clause ∷ []

abbrev pub statement_spelled : Writing → List Name → Axiom → Option (List Framed)
statement_spelled writing declared one =
    option_and_then (λ (home : Home). option_map (at_home home) (statement_spelling writing (frame_kind home.entity.kind) home.entity.iri one)) (home_of writing declared one.body)

-- the clauses of an axiom that is no group
abbrev pub body_spelled : Writing → List Name → Axiom → Body → Option (List Framed)
body_spelled writing declared one (body.Declaration name) = where_true (has_none one.sides) (option_map (declaring name) (frame_id writing name))
  where
    has_none : List Side → Bool
    has_none [] = true
    has_none (side ∷ sides) = false
body_spelled writing declared one (body.Note subject property noted) =
    option_and_then (λ (home : Home). option_map (at_home home) (spelling writing (frame_kind subject.kind) (note_of property noted one.sides))) (home_at writing declared subject)
body_spelled writing declared one (body.OntologyNote property noted) =
    option_map (λ clause. framed Header [] clause ∷ []) (spelling writing Header (note_of property noted one.sides))
body_spelled writing declared one _ = statement_spelled writing declared one

unfoldable pub axiom_spelled : Writing → List Name → Axiom → Option (List Framed)
axiom_spelled writing declared one = body_spelled writing declared one one.body
