-- Ontologies of which no document can be written, since one frame would have two values of a tag that stands once: which
-- frame and tag, and which two values. (OBO Flat File Format 1.4, cardinality of tags; the order is our own.)
use Rattle.std.specs.Prelude.{ℕ, Bool, not, ◌==◌, ◌&&◌, List, [], ◌∷◌, ◌++◌, codes, if◌then◌else◌, Option, None, Some, filter, unwrap_or}
use Rattle.std.specs.List.{filter_map, flat_map, join_by, list_any}
use Rattle.std.specs.Option.{option_and_then, option_map, option_to_list}
use Rattle.std.specs.Str.{bytes_eq}
use Rattle.obo_tags.specs.Table.{place_of}
use Rattle.obo_tags.specs.Tags as tags
use Rattle.obo_tags.specs.declared.kind.FrameKind.{FrameKind}
use Rattle.obo_tags.specs.declared.kind.FrameKind.TheVariants.{Header, Instance, Term, Typedef}
use Rattle.clause_printer.specs.Printing.{behind_space, block_text, value_text}
use Rattle.obo_clause.specs.declared.clause.Clause.{Clause}
use Rattle.obo_frames.specs.Framed.{Framed}
use Rattle.owl_axioms.specs.declared.body.Body.{Body}
use Rattle.owl_axioms.specs.declared.body.Body.TheVariants as body
use Rattle.owl_axioms.specs.declared.name.Kind.{Kind}
use Rattle.owl_axioms.specs.declared.name.Kind.TheVariants as kinds
use Rattle.owl_axioms.specs.declared.name.Name.{Name}
use Rattle.owl_ontology.specs.Ontology.{Entry}
use Rattle.owl_ontology.specs.declared.origin.Origin.{Origin}
use Rattle.text_sets.specs.Sorted.{sorted_on, texts_cmp}
use Rattle.obo_notes.specs.Context.{Writing, where_true}
use Rattle.obo_notes.specs.Forms.{first_part}
use Rattle.obo_statements.specs.Groups.{Group, group_spelling, group_tag, intersection, union}
use Rattle.obo_mapping.specs.Axioms.{Home, frame_id, frame_kind, home_of, is_declared, name_as}
use Rattle.obo_mapping.specs.Back.{writing_of}
use Rattle.obo_mapping.specs.Documents.{clauses_for, declared_in}

-- what a frame has of a tag: the frame, the IRI of its entity, the tag, the value as it is printed, and where the axiom comes
-- from that gives it
pub record Given : Type 0 where
  pub frame : FrameKind
  pub id : List ℕ
  pub iri : List ℕ
  pub tag : List ℕ
  pub text : List ℕ
  pub origin : Origin

-- the tags of notes that a frame has once
abbrev pub single_tags : List (List ℕ)
single_tags = tags.name ∷ tags.namespace ∷ tags.def ∷ tags.comment ∷ tags.created_by ∷ tags.creation_date ∷ []

-- a value as it is printed, and behind it the block of qualifiers
abbrev pub printed : Clause → List ℕ
printed clause = value_text clause.value ++ behind_space (block_text clause.qualifiers)

-- the id of the frame of an entity: an IRI that is declared as a relation and as an annotation property has one frame, by the
-- id of the relation
abbrev pub frame_of : Writing → List Name → Name → Option (List ℕ)
frame_of writing declared name = by_kind writing declared name.kind name.iri
  where
    by_kind : Writing → List Name → Kind → List ℕ → Option (List ℕ)
    by_kind writing declared kinds.AnnotationProperty iri =
        if is_declared declared (name_as kinds.Role iri) then writing.role_id iri else writing.id iri
    by_kind writing declared kind iri = frame_id writing (name_as kind iri)

abbrev pub given : Writing → List Name → Name → List ℕ → List ℕ → Origin → Option Given
given writing declared name tag text origin =
    option_map (λ id. record { frame = frame_kind name.kind; id = id; iri = name.iri; tag = tag; text = text; origin = origin }) (frame_of writing declared name)

-- the entity that a note is about
abbrev pub subject_of : Body → Option Name
subject_of (body.Note subject property noted) = Some subject
subject_of _ = None

-- a note by a tag that stands once
abbrev pub notes_given : Writing → List Name → Entry → List Given
notes_given writing declared entry =
    flat_map (λ subject. filter_map (λ (one : Framed).
    where_true (list_any (bytes_eq one.clause.tag) single_tags) (given writing declared subject one.clause.tag (printed one.clause) entry.origin))
    (unwrap_or (clauses_for writing declared entry.«axiom») [])) (option_to_list (subject_of entry.«axiom».body))

-- a group: the values of its clauses
abbrev pub group_given : Writing → List Name → Entry → Group → Option Given
group_given writing declared entry group =
    option_and_then (λ (home : Home). option_and_then (λ clauses. given writing declared home.entity (group_tag group) (join_by printed (codes ", ") clauses) entry.origin)
    (group_spelling writing home.entity.iri group entry.«axiom»)) (home_of writing declared entry.«axiom».body)

-- a declaration of what a Typedef stands for: a relation, or an annotation property
abbrev pub kind_given : Writing → List Name → Entry → Option Given
kind_given writing declared entry = by_body writing declared entry.origin entry.«axiom».body
  where
    of_kind : Writing → List Name → Origin → Kind → List ℕ → Option Given
    of_kind writing declared origin kinds.Role iri = given writing declared (name_as kinds.Role iri) tags.is_metadata_tag (codes "false") origin
    of_kind writing declared origin kinds.AnnotationProperty iri = given writing declared (name_as kinds.AnnotationProperty iri) tags.is_metadata_tag (codes "true") origin
    of_kind writing declared origin _ iri = None

    by_body : Writing → List Name → Origin → Body → Option Given
    by_body writing declared origin (body.Declaration name) = of_kind writing declared origin name.kind name.iri
    by_body writing declared origin _ = None

-- all that an ontology gives frames of tags that stand once; notes are looked at only where that is asked for
abbrev pub all_given : Writing → Bool → List Entry → List Given
all_given writing check entries =
    let declared = filter_map (λ (one : Entry). declared_in one.«axiom») entries in
    flat_map (λ entry. (if check then notes_given writing declared entry else [])
    ++ (filter_map (group_given writing declared entry) (intersection ∷ union ∷ []) ++ option_to_list (kind_given writing declared entry))) entries

-- Terms come before Typedefs, and these before Instances
abbrev pub rank : FrameKind → ℕ
rank Header = 0
rank Term = 1
rank Typedef = 2
rank Instance = 3

-- the order: by frame, tag in printed order, value and origin
abbrev pub given_key : Given → List (List ℕ)
given_key one =
    (rank one.frame ∷ []) ∷ one.id ∷ option_to_list (place_of one.frame one.tag) ∷ one.tag ∷ one.text ∷ (one.origin.file ∷ one.origin.line ∷ []) ∷ []

-- two values of one tag of one frame
abbrev pub clash : Given → Given → Bool
clash one other =
    rank one.frame == rank other.frame && bytes_eq one.id other.id && bytes_eq one.tag other.tag && not (bytes_eq one.text other.text)

abbrev pub least_given : List Given → Option Given
least_given all = first_part (sorted_on texts_cmp given_key all)

-- two values that one frame would have
pub record TwoGiven : Type 0 where
  pub first : Given
  pub second : Given

-- the least that clashes with another, and the least with which it clashes
abbrev pub two_given : List Given → Option TwoGiven
two_given all =
    option_and_then (λ first. option_map (λ second. record { first = first; second = second }) (least_given (filter (clash first) all)))
    (least_given (filter (λ one. list_any (clash one) all) all))

unfoldable pub two_values : Option (List ℕ) → Bool → List Entry → Option TwoGiven
two_values name check entries = two_given (all_given (writing_of name) check entries)
