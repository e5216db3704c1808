-- Documents as sets of clauses in their frames, the axioms that they say, what of them says no axiom, and their normal
-- form: what says no axiom, and the clauses that stand for the axioms. Sets are lists up to their members. (Own.)
use Rattle.std.specs.Prelude.{ℕ, Bool, true, false, not, ◌&&◌, ◌||◌, List, [], ◌∷◌, ◌++◌, codes, if◌then◌else◌, Option, None, Some, map, filter, is_some, unwrap_or}
use Rattle.std.specs.Option.{option_and_then, option_map, option_map_or, option_or, option_to_list}
use Rattle.std.specs.List.{filter_map, flat_map, list_any}
use Rattle.std.specs.Str.{bytes_eq}
use Rattle.iri_map.specs.Ontology.{name_or_temp, normalised}
use Rattle.obo_tags.specs.declared.kind.FrameKind.{FrameKind}
use Rattle.obo_tags.specs.declared.kind.FrameKind.TheVariants.{Header, Term, Typedef}
use Rattle.clause_printer.specs.Printing.{qualifier_text, xref_text}
use Rattle.obo_clause.specs.declared.clause.Clause.{Clause}
use Rattle.obo_clause.specs.declared.clause.Qualifier.{Qualifier}
use Rattle.obo_clause.specs.declared.clause.Value.{Value}
use Rattle.obo_clause.specs.declared.clause.Value.TheVariants as value
use Rattle.owl_axioms.specs.declared.annotation.NoteValue.TheVariants as noted
use Rattle.owl_axioms.specs.declared.body.Axiom.{Axiom}
use Rattle.owl_axioms.specs.declared.body.Body.{Body}
use Rattle.owl_axioms.specs.declared.body.Body.TheVariants as body
use Rattle.owl_axioms.specs.declared.name.Name.{Name}
use Rattle.text_sets.specs.Parts.{first_some}
use Rattle.text_sets.specs.Sorted.{sorted_by}
use Rattle.obo_frames.specs.Framed.{Framed, framed}
use Rattle.obo_mapping.specs.Axioms.{Home, Situation, axiom_spelled, axioms_said, entity_of, frame_kind, home_of, is_metadata}
use Rattle.obo_notes.specs.Context.{Reading, Writing, datatype_iri, datatype_word, reading_in, where_true, writing_in}
use Rattle.obo_notes.specs.Forms.{first_part}
use Rattle.obo_notes.specs.Keys.{is_reserved_key, key_of, key_property}
use Rattle.obo_statements.specs.Statements.{statement_in, statements_of}
use Rattle.obo_statements.specs.Groups.{Group, group_meaning, group_spelling, group_tag, intersection, union}
use Rattle.obo_notes.specs.Vocabulary.{own_property}

-- ---- what a document says of names

abbrev pub is_header : Framed → Bool
is_header one = is_of_header one.frame
  where
    is_of_header : FrameKind → Bool
    is_of_header Header = true
    is_of_header _ = false

abbrev pub has_tag : List ℕ → Framed → Bool
has_tag tag one = bytes_eq one.clause.tag tag

-- the word of a value, and whether it is foreign, `false` and `true`
abbrev pub word_in : Value → Option (List ℕ)
word_in (value.Id word) = Some word
word_in _ = None

abbrev pub is_raw : Value → Bool
is_raw (value.Raw text) = true
is_raw _ = false

abbrev pub is_truth_value : Bool → Value → Bool
is_truth_value true (value.Bool true) = true
is_truth_value false (value.Bool false) = true
is_truth_value _ _ = false

-- the normalised names that the header gives
abbrev pub names_in : List Framed → List (List ℕ)
names_in d = filter_map (λ one. where_true (is_header one && has_tag (codes "ontology") one) (option_map normalised (word_in one.clause.value))) d

-- the least of them
abbrev pub name_of : List Framed → Option (List ℕ)
name_of d = first_part (sorted_by (λ (name : List ℕ). name) (names_in d))

abbrev pub space_of : List Framed → List ℕ
space_of d = name_or_temp (name_of d)

-- the frame is one of a kind
abbrev pub is_typedef : FrameKind → Bool
is_typedef Typedef = true
is_typedef _ = false

abbrev pub is_term : FrameKind → Bool
is_term Term = true
is_term _ = false

unfoldable pub situation_of : List Framed → Situation
situation_of d =
    let reading = reading_in (space_of d) in
    record {
      reading = reading;
      metadata = map (λ (one : Framed). reading.iri one.id) (filter (λ (one : Framed). is_typedef one.frame && has_tag (codes "is_metadata_tag") one && is_truth_value true one.clause.value) d);
    }

-- ---- clauses that have no axiom

abbrev pub has_reserved_key : Framed → Bool
has_reserved_key one = list_any (λ (q : Qualifier). is_reserved_key q.key) one.clause.qualifiers

abbrev pub is_import : Framed → Bool
is_import one = is_header one && has_tag (codes "import") one && not (is_raw one.clause.value)

-- foreign, or with a key that has a meaning of its own (the rule that counts and general inclusions will change)
abbrev pub is_misfit : Framed → Bool
is_misfit one = is_raw one.clause.value || (has_reserved_key one && not (is_import one || is_truth_value false one.clause.value))

-- the group that a clause stands in
abbrev pub group_with : List ℕ → Option Group
group_with tag = if bytes_eq tag (codes "intersection_of") then Some intersection else (if bytes_eq tag (codes "union_of") then Some union else None)

abbrev pub group_of : Framed → Option Group
group_of one = where_true (is_term one.frame && not (is_raw one.clause.value)) (group_with one.clause.tag)

-- all clauses of a group
abbrev pub group_in : Situation → List Framed → List ℕ → Group → List Framed
group_in situation d x group =
    filter (λ (one : Framed). is_term one.frame && not (is_raw one.clause.value) && bytes_eq (situation.reading.iri one.id) x && has_tag (group_tag group) one) d

-- some clause of the group is a misfit
abbrev pub is_broken : Situation → List Framed → List ℕ → Group → Bool
is_broken situation d x group = list_any is_misfit (group_in situation d x group)

-- a logical clause of an annotation property
abbrev pub is_of_metadata : Situation → Framed → Bool
is_of_metadata situation one =
    is_typedef one.frame && is_metadata situation (situation.reading.iri one.id) && is_some (first_some (statement_in one.clause.tag) (statements_of Typedef))
    && not (is_truth_value false one.clause.value)

abbrev pub is_other_name : List Framed → Framed → Bool
is_other_name d one =
    is_header one && has_tag (codes "ontology") one
    && option_map_or (λ word. not (option_map_or (bytes_eq (normalised word)) (name_of d) false)) (word_in one.clause.value) false

-- the clause is reported as not translated
unfoldable pub is_untranslatable : List Framed → Framed → Bool
is_untranslatable d one =
    let situation = situation_of d in
    is_misfit one || option_map_or (is_broken situation d (situation.reading.iri one.id)) (group_of one) false || is_of_metadata situation one || is_other_name d one

-- ---- the axioms

-- the axiom of the group of a clause
abbrev pub group_said : Situation → List Framed → Framed → Option Axiom
group_said situation d one =
    let x = situation.reading.iri one.id in
    option_and_then (λ group. group_meaning situation.reading x group (map (λ (each : Framed). each.clause) (group_in situation d x group))) (group_of one)

-- the namespace of a frame without one: the least value of `default-namespace`, of which an untranslatable clause counts too
abbrev pub is_namespace : Axiom → Option Name
is_namespace one = subject_of one.body
  where
    subject_of : Body → Option Name
    subject_of (body.Note subject property (noted.Text text)) = where_true (bytes_eq property (own_property (codes "hasOBONamespace"))) (Some subject)
    subject_of _ = None

abbrev pub default_in : Axiom → Option (List ℕ)
default_in one = text_of one.body
  where
    text_of : Body → Option (List ℕ)
    text_of (body.OntologyNote property (noted.Text text)) = where_true (bytes_eq property (own_property (codes "default-namespace"))) (Some text)
    text_of _ = None

abbrev pub declared_in : Axiom → Option Name
declared_in one = entity_in one.body
  where
    entity_in : Body → Option Name
    entity_in (body.Declaration name) = Some name
    entity_in _ = None

abbrev pub same_name : Name → Name → Bool
same_name one other = Rattle.obo_mapping.specs.Axioms.same_kind one.kind other.kind && bytes_eq one.iri other.iri

-- the axioms with the namespaces of the frames that have none; `kept_for` are the frames, and `kept_defaults` the values, of
-- namespaces that are written and not translated
unfoldable pub spaced : List Name → List (List ℕ) → List Axiom → List Axiom
spaced kept_for kept_defaults axioms =
    axioms ++ flat_map (λ value. map (λ (name : Name). record { body = body.Note name (own_property (codes "hasOBONamespace")) (noted.Text value); sides = [] })
    (filter (λ (name : Name). not (list_any (same_name name) (kept_for ++ filter_map is_namespace axioms))) (filter_map declared_in axioms)))
    (option_to_list (first_part (sorted_by (λ (text : List ℕ). text) (kept_defaults ++ filter_map default_in axioms))))

abbrev pub text_in : Value → Option (List ℕ)
text_in (value.Text text) = Some text
text_in _ = None

-- what untranslatable clauses of a tag still say
abbrev pub kept_with : List Framed → List ℕ → List Framed
kept_with d tag = filter (λ (one : Framed). has_tag tag one && not (is_raw one.clause.value) && is_untranslatable d one) d

unfoldable pub owl : List Framed → List Axiom
owl d =
    let situation = situation_of d in
    let translated = filter (λ one. not (is_untranslatable d one)) d in
    spaced
    (filter_map (λ (one : Framed). entity_of situation one.frame one.id) (kept_with d (codes "namespace")))
    (filter_map (λ (one : Framed). text_in one.clause.value) (kept_with d (codes "default-namespace")))
    (flat_map (axioms_said situation) translated ++ filter_map (group_said situation d) translated)

-- ---- what is kept

abbrev pub settled : (List ℕ → List ℕ) → (List ℕ → Option (List ℕ)) → List ℕ → List ℕ
settled read write id = unwrap_or (write (read id)) id

-- a value with the ids of their IRIs; `alt_id` and `import` stay as they are
unfoldable pub settled_value : Reading → Writing → Bool → Bool → Value → Value
settled_value reading writing is_role is_literal_id one = value_with (settled reading.iri writing.id) (settled reading.role_iri writing.role_id) is_role is_literal_id one
  where
    value_with : (List ℕ → List ℕ) → (List ℕ → List ℕ) → Bool → Bool → Value → Value
    value_with id role is_role is_literal_id (value.Id word) = value.Id (if is_literal_id then word else (if is_role then role word else id word))
    value_with id role is_role is_literal_id (value.Pair first second) = value.Pair (role first) (if is_role then role second else id second)
    value_with id role is_role is_literal_id (value.Def text xrefs) = value.Def text (sorted_by xref_text xrefs)
    value_with id role is_role is_literal_id (value.Synonym text scope type xrefs) = value.Synonym text scope (option_map id type) (sorted_by xref_text xrefs)
    value_with id role is_role is_literal_id (value.Literal relation text datatype) =
        value.Literal (id relation) text (unwrap_or (datatype_word writing (datatype_iri reading datatype)) datatype)
    value_with id role is_role is_literal_id (value.Link relation target) = value.Link (id relation) (id target)
    value_with id role is_role is_literal_id (value.SubsetDef word text) = value.SubsetDef (id word) text
    value_with id role is_role is_literal_id (value.SynonymDef word text scope) = value.SynonymDef (id word) text scope
    value_with id role is_role is_literal_id other = other

abbrev pub settled_qualifier : Qualifier → Qualifier
settled_qualifier q = if is_reserved_key q.key then q else record q { key = unwrap_or (key_of (key_property q.key)) q.key }

-- the id of a frame
abbrev pub settled_id : Situation → Writing → Framed → List ℕ
settled_id situation writing one =
    if is_header one then one.id
    else (if is_typedef one.frame && not (is_metadata situation (situation.reading.iri one.id))
    then settled situation.reading.role_iri writing.role_id one.id
    else settled situation.reading.iri writing.id one.id)

abbrev pub settled_clause : Situation → Writing → Framed → Clause
settled_clause situation writing one =
    let is_role = is_typedef one.frame && not (is_metadata situation (situation.reading.iri one.id)) && not (has_tag (codes "domain") one || has_tag (codes "range") one
    || has_tag (codes "subset") one || has_tag (codes "consider") one || has_tag (codes "replaced_by") one) in
    record {
      tag = one.clause.tag;
      value = settled_value situation.reading writing is_role (has_tag (codes "alt_id") one || has_tag (codes "import") one) one.clause.value;
      qualifiers = sorted_by qualifier_text (map settled_qualifier one.clause.qualifiers);
    }

abbrev pub as_kept : Situation → Writing → Framed → Framed
as_kept situation writing one =
    framed one.frame (settled_id situation writing one) (if is_raw one.clause.value then one.clause else settled_clause situation writing one)

-- the clauses of the header that are no notes, and `is_metadata_tag`, which a declaration says
abbrev pub is_said_elsewhere : Framed → Bool
is_said_elsewhere one = not (is_raw one.clause.value) && (has_tag (codes "is_metadata_tag") one || (is_header one && (has_tag (codes "format-version") one || has_tag (codes "ontology") one)))

unfoldable pub kept : List Framed → List Framed
kept d =
    let situation = situation_of d in
    let writing = writing_in (space_of d) in
    map (as_kept situation writing) (filter (λ one. (is_import one || is_untranslatable d one) && not (is_said_elsewhere one)) d)

-- the header
abbrev pub header_with : List (List ℕ) → List Framed
header_with names =
    framed Header [] (record { tag = codes "format-version"; value = value.Text (codes "1.4"); qualifiers = [] })
    ∷ map (λ name. framed Header [] (record { tag = codes "ontology"; value = value.Id name; qualifiers = [] })) names

-- ---- what stands for axioms

abbrev pub group_spelled : Writing → List Name → Axiom → Group → Option (List Framed)
group_spelled writing declared one group =
    option_and_then (λ (home : Home). option_map (map (framed Term home.id)) (group_spelling writing home.entity.iri group one)) (home_of writing declared one.body)

-- the clauses of an axiom, if it has a form
unfoldable pub clauses_for : Writing → List Name → Axiom → Option (List Framed)
clauses_for writing declared one =
    option_or (axiom_spelled writing declared one) (first_some (group_spelled writing declared one) (intersection ∷ union ∷ []))

unfoldable pub spelled : Writing → List Axiom → List Framed
spelled writing axioms =
    flat_map (λ one. unwrap_or (clauses_for writing (filter_map declared_in axioms) one) []) axioms

-- the normal form
unfoldable pub norm : List Framed → List Framed
norm d = header_with (names_in d) ++ (kept d ++ spelled (writing_in (space_of d)) (owl d))
