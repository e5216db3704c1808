-- The clauses of one axiom, case by case; and of all, axiom by axiom.
use Rattle.std.proofs.Common.{◌≡◌, ℕ, Bool, true, false, List, [], ◌∷◌, Option, None, Some, map, refl, ap, ◌∙◌}
use Rattle.std.specs.Option.{option_and_then, option_map, option_or}
use Rattle.obo_tags.specs.declared.kind.FrameKind.TheVariants.{Term}
use Rattle.owl_axioms.specs.declared.annotation.NoteValue.{NoteValue}
use Rattle.owl_axioms.specs.declared.annotation.Side.{Side}
use Rattle.owl_axioms.specs.declared.body.Axiom.{Axiom}
use Rattle.owl_axioms.specs.declared.body.Body.{Body}
use Rattle.owl_axioms.specs.declared.body.Body.TheVariants as body
use Rattle.owl_axioms.specs.declared.name.Name.{Name}
use Rattle.text_sets.specs.Parts.{first_some}
use Rattle.obo_frames.specs.Framed.{framed}
use Rattle.obo_notes.specs.Context.{Writing, where_true}
use Rattle.obo_notes.specs.Forms.{note_of}
use Rattle.obo_notes.specs.Notes.{spelling}
use Rattle.obo_notes.specs.declared.note.Note.{Note}
use Rattle.obo_statements.specs.Groups.{Group, group_spelling, intersection, union}
use Rattle.obo_statements.specs.Statements.{statement_spelling}
use Rattle.obo_mapping.specs.Axioms.{Home, at_home, axiom_spelled, body_spelled, frame_id, frame_kind, home_at, home_of, is_declared, statement_spelled}
use Rattle.obo_mapping.specs.Documents.{clauses_for, group_spelled}
use Rattle.obo_spelling.specs.inner.Clauses.{declared_by, grouped_at, header_spelled, note_at, stated_at}

or_none : {X : Type 0} (o : Option X) → option_or o None ≡ o
or_none None = refl
or_none (Some x) = refl

never : {X Y : Type 0} (o : Option X) → option_and_then (λ (x : X). let none : Option Y = None in none) o ≡ None
never None = refl
never (Some x) = refl

module _ (writing : Writing) (declared : List Name) where
  -- what is no pair of classes is no group
  abbrev no_group : Axiom → Type 0
  no_group one = (x : List ℕ) (group : Group) → group_spelling writing x group one ≡ None

  alone : (one : Axiom) → no_group one → clauses_for writing declared one ≡ axiom_spelled writing declared one
  unfolding clauses_for
  alone one none =
      let empty : (group : Group) → group_spelled writing declared one group ≡ None = λ group. (λ i. option_and_then (λ (home : Home). option_map (map (framed Term home.id)) (none home.entity.iri group i)) (home_of writing declared one.body)) ∙ never (home_of writing declared one.body) in
      (λ i. option_or (axiom_spelled writing declared one) (option_or (empty intersection i) (option_or (empty union i) None))) ∙ or_none (axiom_spelled writing declared one)

  by_sides : (name : Name) (sides : List Side) → clauses_for writing declared (record { body = body.Declaration name; sides = sides }) ≡ declared_by writing name sides
  unfolding axiom_spelled group_spelling
  by_sides name [] = alone (record { body = body.Declaration name; sides = [] }) (λ x group. refl)
  by_sides name (side ∷ sides) = alone (record { body = body.Declaration name; sides = side ∷ sides }) (λ x group. refl)

  pub said_declaration : (one : Axiom) (name : Name) → one.body ≡ body.Declaration name → clauses_for writing declared one ≡ declared_by writing name one.sides
  said_declaration one name is = ap (λ (said : Body). clauses_for writing declared (record { body = said; sides = one.sides })) is ∙ by_sides name one.sides

  note_home : (subject : Name) (note : Note) (test : Bool) (id : Option (List ℕ))
      → option_and_then (λ (home : Home). option_map (at_home home) (spelling writing (frame_kind subject.kind) note)) (where_true test (option_map (λ id. let home : Home = record { entity = subject; id = id } in home) id))
      ≡ note_at writing (where_true test (option_map (λ id. let home : Home = record { entity = subject; id = id } in home) id)) note
  note_home subject note true None = refl
  note_home subject note true (Some id) = refl
  note_home subject note false id = refl

  pub said_note : (one : Axiom) (subject : Name) (property : List ℕ) (value : NoteValue) → one.body ≡ body.Note subject property value → clauses_for writing declared one ≡ note_at writing (home_at writing declared subject) (note_of property value one.sides)
  unfolding axiom_spelled group_spelling
  said_note one subject property value is =
      ap (λ (said : Body). clauses_for writing declared (record { body = said; sides = one.sides })) is ∙ alone (record { body = body.Note subject property value; sides = one.sides }) (λ x group. refl)
      ∙ note_home subject (note_of property value one.sides) (is_declared declared subject) (frame_id writing subject)

  pub said_remark : (one : Axiom) (property : List ℕ) (value : NoteValue) → one.body ≡ body.OntologyNote property value → clauses_for writing declared one ≡ header_spelled writing (note_of property value one.sides)
  unfolding axiom_spelled group_spelling
  said_remark one property value is =
      ap (λ (said : Body). clauses_for writing declared (record { body = said; sides = one.sides })) is ∙ alone (record { body = body.OntologyNote property value; sides = one.sides }) (λ x group. refl)

  -- any other axiom
  by_home : (one : Axiom) (o : Option Home) → option_or (option_and_then (λ (home : Home). option_map (at_home home) (statement_spelling writing (frame_kind home.entity.kind) home.entity.iri one)) o)
      (option_or (option_and_then (λ (home : Home). grouped_at writing one home intersection) o) (option_or (option_and_then (λ (home : Home). grouped_at writing one home union) o) None))
      ≡ option_and_then (stated_at writing one) o
  by_home one None = refl
  by_home one (Some home) = ap (λ more. option_or (option_map (at_home home) (statement_spelling writing (frame_kind home.entity.kind) home.entity.iri one)) (option_or (grouped_at writing one home intersection) more)) (or_none (grouped_at writing one home union))

  -- it is no note and no declaration
  pub record IsOther (said : Body) : Type 0 where
    pub declaration : (name : Name) → said ≡ body.Declaration name → ⊥
    pub note : (subject : Name) (property : List ℕ) (value : NoteValue) → said ≡ body.Note subject property value → ⊥
    pub remark : (property : List ℕ) (value : NoteValue) → said ≡ body.OntologyNote property value → ⊥

  other_body : (one : Axiom) (said : Body) → IsOther said → body_spelled writing declared one said ≡ statement_spelled writing declared one
  other_body one (body.Declaration name) is = absurd (is.declaration name refl)
  other_body one (body.Note subject property value) is = absurd (is.note subject property value refl)
  other_body one (body.OntologyNote property value) is = absurd (is.remark property value refl)
  other_body one _ is = refl

  pub said_otherwise : (one : Axiom) → IsOther one.body → clauses_for writing declared one ≡ option_and_then (stated_at writing one) (home_of writing declared one.body)
  unfolding clauses_for axiom_spelled
  said_otherwise one is =
      ap (λ o. option_or o (first_some (group_spelled writing declared one) (intersection ∷ union ∷ []))) (other_body one one.body is) ∙ by_home one (home_of writing declared one.body)
