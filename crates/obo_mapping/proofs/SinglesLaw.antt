-- The clauses that stand for axioms say these axioms, all of them and no other: all but the groups.
use Rattle.std.proofs.Common.{◌≡◌, ℕ, true, List, [], ◌∷◌, ◌++◌, codes, Option, None, Some, inl, inr, ⊎_elim, refl, sym, ap, subst, ◌∙◌}
use Rattle.std.specs.List.{filter_map, flat_map}
use Rattle.std.specs.Option.{option_and_then, option_map, option_or, unwrap_or}
use Rattle.std.proofs.lemmas.Option.{none-some, same_Some}
use Rattle.obo_tags.specs.declared.kind.FrameKind.TheVariants.{Header, Instance, Term, Typedef}
use Rattle.text_sets.proofs.SetLemmas.{In-append, In-from_filter_map}
use Rattle.text_sets.specs.Sets.{In, SameMembers}
use Rattle.owl_axioms.specs.Proper.{is_proper_body}
use Rattle.owl_axioms.specs.Text.{side_text}
use Rattle.owl_axioms.specs.declared.annotation.Side.{Side}
use Rattle.owl_axioms.specs.declared.body.Axiom.{Axiom}
use Rattle.owl_axioms.specs.declared.body.Body.{Body}
use Rattle.owl_axioms.specs.declared.body.Body.TheVariants as body
use Rattle.owl_axioms.specs.declared.expr.ClassExpr.{ClassExpr}
use Rattle.owl_axioms.specs.declared.expr.ClassExpr.TheVariants as expr
use Rattle.owl_axioms.specs.declared.name.Kind.{Kind}
use Rattle.owl_axioms.specs.declared.name.Kind.TheVariants as kinds
use Rattle.owl_axioms.specs.declared.name.Name.{Name}
use Rattle.text_sets.specs.Sorted.{Rises, sorted_by}
use Rattle.text_sets.proofs.PartLemmas.{option_and_then_some, option_map_some}
use Rattle.text_sets.proofs.SortedLemmas.{sorted_by-only}
use Rattle.obo_frames.specs.Framed.{Framed, framed, id_clause}
use Rattle.obo_mapping.specs.Axioms.{Home, Situation, at_home, axiom_said, axiom_spelled, body_spelled, declaring, frame_id, frame_kind, home_at, home_of, is_declared, is_logical, metadata_clause, name_as, note_axiom, ontology_axiom, said_at, statement_spelled}
use Rattle.obo_notes.specs.Context.{Agree, Reading, Writing}
use Rattle.obo_notes.specs.Forms.{first_part, note_of, said}
use Rattle.obo_notes.specs.declared.note.Note.{Note}
use Rattle.obo_notes.specs.Notes.{form_of, meaning, rows, spelling, with_qualifiers}
use Rattle.obo_clause.specs.declared.clause.Value.TheVariants as value
use Rattle.obo_statements.specs.Statements.{statement_spelling}
use Rattle.obo_statements.specs.Anchors.{anchors, class_anchor}
use Rattle.obo_mapping.proofs.AxiomLaws.{Knows, frame_back, note_said, ontology_note_said, statement_said}
use Rattle.obo_notes.proofs.Guards.{where_true_some}
use Rattle.obo_mapping.proofs.SetLaws.{EachSays, singles_said}

pub first_part-among : {X : Type 0} (xs : List X) (x : X) → first_part xs ≡ Some x → In x xs
first_part-among [] x is = absurd (none-some x is)
first_part-among (y ∷ xs) x is = inl (same_Some y x is)

-- ---- the home of an axiom

pub record IsHome (writing : Writing) (known : List Name) (names : List Name) (home : Home) : Type 0 where
  pub among : In home.entity names
  pub declared : is_declared known home.entity ≡ true
  pub id : frame_id writing home.entity ≡ Some home.id

pub home_at-is : (writing : Writing) (declared : List Name) (name : Name) (home : Home) → home_at writing declared name ≡ Some home → (name ≡ home.entity) × (is_declared declared home.entity ≡ true) × (frame_id writing home.entity ≡ Some home.id)
home_at-is writing declared name home is =
    let found = where_true_some (is_declared declared name) _ home is in
    let id = option_map_some (λ (id : List ℕ). let h : Home = record { entity = name; id = id } in h) (frame_id writing name) home found.1 in
    subst (λ (h : Home). (name ≡ h.entity) × (is_declared declared h.entity ≡ true) × (frame_id writing h.entity ≡ Some h.id)) id.2 (refl, found.0, id.1)

pub home_is : (writing : Writing) (declared : List Name) (said : Body) (home : Home) → home_of writing declared said ≡ Some home → IsHome writing declared (anchors said) home
home_is writing declared said home is =
    let among = sorted_by-only (λ (h : Home). h.id) (filter_map (home_at writing declared) (anchors said)) home (first_part-among (sorted_by (λ (h : Home). h.id) (filter_map (home_at writing declared) (anchors said))) home is) in
    let name = In-from_filter_map (home_at writing declared) home (anchors said) among in
    let parts = home_at-is writing declared name.0 home name.2 in
    record { among = subst (λ n. In n (anchors said)) parts.0 name.1; declared = parts.1; id = parts.2 }

-- ---- anchors of statements are logical

abbrev AreLogical : List Name → Type 0
AreLogical names = (name : Name) → In name names → is_logical name.kind ≡ true

one_logical : (name : Name) → is_logical name.kind ≡ true → AreLogical (name ∷ [])
one_logical name is other (inl same) = subst (λ (n : Name). is_logical n.kind ≡ true) same is
one_logical name is other (inr none) = absurd none

two_logical : (some others : List Name) → AreLogical some → AreLogical others → AreLogical (some ++ others)
two_logical some others one two name here = ⊎_elim (one name) (two name) (In-append name some others here)

class_logical : (c : ClassExpr) → AreLogical (class_anchor c)
class_logical expr.Thing = one_logical _ refl
class_logical expr.Nothing = one_logical _ refl
class_logical (expr.Class iri) = one_logical _ refl
class_logical _ = λ name here. absurd here

abbrev pub IsStatement : Body → Type 0
IsStatement (body.Declaration name) = ⊥
IsStatement (body.Note subject property noted) = ⊥
IsStatement (body.OntologyNote property noted) = ⊥
IsStatement _ = Unit {0}

roles_logical : (r s : List ℕ) → AreLogical (name_as kinds.Role r ∷ name_as kinds.Role s ∷ [])
roles_logical r s name (inl same) = subst (λ (n : Name). is_logical n.kind ≡ true) same refl
roles_logical r s name (inr later) = one_logical (name_as kinds.Role s) refl name later

pub anchors_logical : (said : Body) → IsStatement said → AreLogical (anchors said)
unfolding anchors
anchors_logical (body.Sub c d) is = class_logical c
anchors_logical (body.Equiv c d) is = two_logical (class_anchor c) (class_anchor d) (class_logical c) (class_logical d)
anchors_logical (body.Disjoint c d) is = two_logical (class_anchor c) (class_anchor d) (class_logical c) (class_logical d)
anchors_logical (body.EquivRoles r s) is = roles_logical r s
anchors_logical (body.DisjointRoles r s) is = roles_logical r s
anchors_logical (body.Inverse r s) is = roles_logical r s
anchors_logical (body.Declaration name) is = absurd is
anchors_logical (body.Note subject property noted) is = absurd is
anchors_logical (body.OntologyNote property noted) is = absurd is
anchors_logical (body.SubRole r s) is = one_logical (name_as kinds.Role r) refl
anchors_logical (body.Chain r s t) is = one_logical (name_as kinds.Role t) refl
anchors_logical (body.Transitive r) is = one_logical (name_as kinds.Role r) refl
anchors_logical (body.Reflexive r) is = one_logical (name_as kinds.Role r) refl
anchors_logical (body.Symmetric r) is = one_logical (name_as kinds.Role r) refl
anchors_logical (body.Asymmetric r) is = one_logical (name_as kinds.Role r) refl
anchors_logical (body.Functional r) is = one_logical (name_as kinds.Role r) refl
anchors_logical (body.InverseFunctional r) is = one_logical (name_as kinds.Role r) refl
anchors_logical (body.Domain r c) is = one_logical (name_as kinds.Role r) refl
anchors_logical (body.Range r c) is = one_logical (name_as kinds.Role r) refl
anchors_logical (body.ClassAssertion c i) is = one_logical (name_as kinds.Individual i) refl
anchors_logical (body.RoleAssertion r i j) is = one_logical (name_as kinds.Individual i) refl

-- ---- one clause

pub metadata_has_no_form : form_of (codes "is_metadata_tag") ≡ None
unfolding form_of rows
metadata_has_no_form = refl

metadata_has_no_note : (reading : Reading) → meaning reading metadata_clause ≡ None
unfolding meaning
metadata_has_no_note reading = ap (λ o. option_map (with_qualifiers []) (option_and_then (λ form. said reading form (value.Bool true)) o)) metadata_has_no_form

pub one_says : (say : Framed → Option Axiom) (one : Framed) (a : Axiom) → say one ≡ Some a → EachSays say (one ∷ []) a
one_says say one a is = record {
  only = λ c here. ⊎_elim (λ same. inl (ap say (sym same) ∙ is)) (λ none. absurd none) here;
  one = one;
  among = inl refl;
  says = is;
}

module _ (situation : Situation) (writing : Writing) (agree : Agree situation.reading writing) (declared : List Name) (knows : Knows situation writing declared) where
  abbrev Says : List Framed → Axiom → Type 0
  Says cs a = EachSays (axiom_said situation) cs a

  statement_says : (a : Axiom) (cs : List Framed) → IsStatement a.body → is_proper_body a.body ≡ true → Rises side_text a.sides → statement_spelled writing declared a ≡ Some cs → Says cs a
  statement_says a cs logical proper rises is =
      let home = option_and_then_some (λ (home : Home). option_map (at_home home) (statement_spelling writing (frame_kind home.entity.kind) home.entity.iri a)) (home_of writing declared a.body) cs is in
      let clause = option_map_some (at_home home.0) (statement_spelling writing (frame_kind home.0.entity.kind) home.0.entity.iri a) cs home.2 in
      let at = home_is writing declared a.body home.0 home.1 in
      let entity = home.0.entity in
      subst (λ x. Says x a) clause.2
      (one_says (axiom_said situation) (framed (frame_kind entity.kind) home.0.id clause.0) a
      (statement_said situation writing agree declared knows entity.kind entity.iri home.0.id a clause.0 proper rises (anchors_logical a.body logical entity at.among) at.declared at.id clause.1))

  note_says : (subject : Name) (note : Note) (cs : List Framed) → Rises side_text note.sides
      → option_and_then (λ (home : Home). option_map (at_home home) (spelling writing (frame_kind subject.kind) note)) (home_at writing declared subject) ≡ Some cs → Says cs (note_axiom subject note)
  note_says subject note cs rises is =
      let home = option_and_then_some (λ (home : Home). option_map (at_home home) (spelling writing (frame_kind subject.kind) note)) (home_at writing declared subject) cs is in
      let clause = option_map_some (at_home home.0) (spelling writing (frame_kind subject.kind) note) cs home.2 in
      let at = home_at-is writing declared subject home.0 home.1 in
      let entity = home.0.entity in
      let spelled = ap (λ (n : Name). spelling writing (frame_kind n.kind) note) (sym at.0) ∙ clause.1 in
      subst (λ n. Says cs (note_axiom n note)) (sym at.0)
      (subst (λ x. Says x (note_axiom entity note)) clause.2
      (one_says (axiom_said situation) (framed (frame_kind entity.kind) home.0.id clause.0) (note_axiom entity note)
      (note_said situation writing agree declared knows entity.kind entity.iri home.0.id note clause.0 rises at.1 at.2 spelled)))

  ontology_note_says : (note : Note) (cs : List Framed) → Rises side_text note.sides → option_map (λ clause. framed Header [] clause ∷ []) (spelling writing Header note) ≡ Some cs → Says cs (ontology_axiom note)
  ontology_note_says note cs rises is =
      let clause = option_map_some (λ clause. framed Header [] clause ∷ []) (spelling writing Header note) cs is in
      subst (λ x. Says x (ontology_axiom note)) clause.2
      (one_says (axiom_said situation) (framed Header [] clause.0) (ontology_axiom note) (ontology_note_said situation writing agree declared knows note clause.0 rises clause.1))

  -- ---- declarations

  declared_says : (kind : Kind) (iri id : List ℕ) → is_declared declared (name_as kind iri) ≡ true → frame_id writing (name_as kind iri) ≡ Some id
      → axiom_said situation (framed (frame_kind kind) id (id_clause id)) ≡ Some (record { body = body.Declaration (name_as kind iri); sides = [] })
  unfolding axiom_said
  declared_says kind iri id is found =
      ap (said_at situation (framed (frame_kind kind) id (id_clause id))) (frame_back situation writing agree declared knows kind iri id is found)

  metadata_is_silent : (iri id : List ℕ) → is_declared declared (name_as kinds.AnnotationProperty iri) ≡ true → writing.id iri ≡ Some id → axiom_said situation (framed Typedef id metadata_clause) ≡ None
  unfolding axiom_said
  metadata_is_silent iri id is found =
      ap (said_at situation (framed Typedef id metadata_clause)) (frame_back situation writing agree declared knows kinds.AnnotationProperty iri id is found)
      ∙ ap (λ o. option_or (option_map (note_axiom (name_as kinds.AnnotationProperty iri)) o) None) (metadata_has_no_note situation.reading)

  declaration_says : (kind : Kind) (iri id : List ℕ) → is_declared declared (name_as kind iri) ≡ true → frame_id writing (name_as kind iri) ≡ Some id
      → Says (declaring (name_as kind iri) id) (record { body = body.Declaration (name_as kind iri); sides = [] })
  declaration_says kinds.Class iri id is found = one_says (axiom_said situation) (framed Term id (id_clause id)) _ (declared_says kinds.Class iri id is found)
  declaration_says kinds.Role iri id is found = one_says (axiom_said situation) (framed Typedef id (id_clause id)) _ (declared_says kinds.Role iri id is found)
  declaration_says kinds.Individual iri id is found = one_says (axiom_said situation) (framed Instance id (id_clause id)) _ (declared_says kinds.Individual iri id is found)
  declaration_says kinds.AnnotationProperty iri id is found =
      let head = declared_says kinds.AnnotationProperty iri id is found in
      record {
        only = λ c here. ⊎_elim
            (λ same. inl (ap (axiom_said situation) (sym same) ∙ head))
            (λ more. ⊎_elim (λ same. inr (ap (axiom_said situation) (sym same) ∙ metadata_is_silent iri id is found)) (λ none. absurd none) more) here;
        one = framed Typedef id (id_clause id);
        among = inl refl;
        says = head;
      }

  -- ---- all axioms but groups

  pub record IsSpellable (a : Axiom) : Type 0 where
    pub clauses : List Framed
    pub spelled : axiom_spelled writing declared a ≡ Some clauses
    pub proper : IsStatement a.body → is_proper_body a.body ≡ true
    pub rises : Rises side_text a.sides
    pub known : (name : Name) → a.body ≡ body.Declaration name → is_declared declared name ≡ true

  pub body_says : (said : Body) (sides : List Side) (cs : List Framed) → let a : Axiom = record { body = said; sides = sides } in
      body_spelled writing declared a said ≡ Some cs → (IsStatement said → is_proper_body said ≡ true) → Rises side_text sides → ((name : Name) → said ≡ body.Declaration name → is_declared declared name ≡ true) → Says cs a
  body_says (body.Declaration name) [] cs is proper rises known =
      let id = option_map_some (declaring name) (frame_id writing name) cs is in
      subst (λ x. Says x (record { body = body.Declaration name; sides = [] })) id.2 (declaration_says name.kind name.iri id.0 (known name refl) id.1)
  body_says (body.Declaration name) (side ∷ sides) cs is proper rises known = absurd (none-some cs is)
  body_says (body.Note subject property noted) sides cs is proper rises known = note_says subject (note_of property noted sides) cs rises is
  body_says (body.OntologyNote property noted) sides cs is proper rises known = ontology_note_says (note_of property noted sides) cs rises is
  body_says said sides cs is proper rises known = statement_says (record { body = said; sides = sides }) cs tt (proper tt) rises is

  pub axioms_said : (axioms : List Axiom) → ((a : Axiom) → In a axioms → IsSpellable a)
      → SameMembers (filter_map (axiom_said situation) (flat_map (λ (a : Axiom). unwrap_or (axiom_spelled writing declared a) []) axioms)) axioms
  unfolding axiom_spelled
  axioms_said axioms each =
      singles_said (axiom_said situation) (λ (a : Axiom). unwrap_or (axiom_spelled writing declared a) []) axioms (λ a here.
      let s = each a here in
      subst (λ cs. Says cs a) (sym (ap (λ (o : Option (List Framed)). unwrap_or o []) s.spelled)) (body_says a.body a.sides s.clauses s.spelled s.proper s.rises s.known))
