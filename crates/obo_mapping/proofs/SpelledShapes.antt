-- What the clauses are like that stand for an axiom.
use Rattle.std.proofs.Common.{◌≡◌, ◌⊎◌, ℕ, true, false, List, [], ◌∷◌, map, Option, Some, inl, inr, ⊎_elim, refl, sym, ap, subst, ◌∙◌}
use Rattle.std.specs.List.{list_any}
use Rattle.std.specs.Option.{option_and_then, option_map}
use Rattle.std.proofs.lemmas.Option.{none-some}
use Rattle.obo_tags.specs.declared.kind.FrameKind.{FrameKind}
use Rattle.obo_tags.specs.declared.kind.FrameKind.TheVariants.{Header, Term, Typedef}
use Rattle.obo_clause.specs.declared.clause.Clause.{Clause}
use Rattle.obo_clause.specs.declared.clause.Qualifier.{Qualifier}
use Rattle.obo_clause.specs.declared.clause.Value.{Value}
use Rattle.obo_clause.specs.declared.clause.Value.TheVariants as value
use Rattle.clause_printer.specs.Printing.{value_text}
use Rattle.text_sets.proofs.SetLemmas.{In-append, In-from_map}
use Rattle.text_sets.specs.Sets.{In}
use Rattle.owl_axioms.specs.Proper.{is_proper_body}
use Rattle.owl_axioms.specs.Text.{side_text}
use Rattle.owl_axioms.specs.declared.annotation.Side.{Side}
use Rattle.owl_axioms.specs.declared.body.Axiom.{Axiom}
use Rattle.owl_axioms.specs.declared.body.Body.{Body}
use Rattle.owl_axioms.specs.declared.body.Body.TheVariants as body
use Rattle.owl_axioms.specs.declared.expr.ClassExpr.{ClassExpr}
use Rattle.owl_axioms.specs.declared.expr.ClassExpr.TheVariants as expr
use Rattle.owl_axioms.specs.declared.name.Kind.{Kind}
use Rattle.owl_axioms.specs.declared.name.Kind.TheVariants as kinds
use Rattle.owl_axioms.specs.declared.name.Name.{Name}
use Rattle.text_sets.specs.Parts.{each_some, first_some}
use Rattle.text_sets.specs.Sorted.{Rises, sorted_by}
use Rattle.text_sets.proofs.PartLemmas.{each_some-parts, first_some-found, option_and_then_some, option_map_some, option_or_some}
use Rattle.text_sets.proofs.SortedLemmas.{sorted_by-only}
use Rattle.obo_frames.specs.Framed.{Framed, framed, id_clause}
use Rattle.obo_mapping.specs.Axioms.{Home, at_home, axiom_spelled, body_spelled, declaring, frame_id, frame_kind, home_at, home_of, is_declared, is_logical, metadata_clause, name_as, statement_spelled}
use Rattle.obo_notes.specs.Context.{Agree, Reading, Writing}
use Rattle.obo_mapping.specs.Documents.{clauses_for, group_spelled, has_reserved_key, is_raw}
use Rattle.obo_notes.specs.Forms.{note_of}
use Rattle.obo_clause.specs.Fits.{Fits}
use Rattle.obo_notes.specs.declared.note.Note.{Note}
use Rattle.obo_notes.specs.Keys.{is_reserved_key}
use Rattle.obo_notes.specs.Notes.{qualifiers_of, spelling}
use Rattle.obo_statements.specs.Statements.{statement_spelling}
use Rattle.obo_statements.specs.Anchors.{anchors, class_anchor}
use Rattle.obo_statements.specs.Groups.{Group, group_operands, group_spelling, group_tag, intersection, operand_value, other_expr, union}
use Rattle.obo_statements.specs.inner.PlainGroups.{plain_clauses_with, plain_group_clauses, plain_group_in_body}
use Rattle.obo_statements.proofs.PlainGroups.{group_is_spelled_plainly}
use Rattle.obo_notes.specs.Laws.{IsInPrintedOrder}
use Rattle.obo_notes.proofs.PrintedOrder.{spelled_note_is_in_order}
use Rattle.obo_statements.proofs.PrintedLists.{statement_in_order}
use Rattle.obo_statements.proofs.StatementsBack.{statement_reads_back}
use Rattle.obo_notes.proofs.NoteLaws.{note_reads_back}
use Rattle.obo_mapping.proofs.PlainClauses.{IsNote, IsStatementIn, is_note, is_statement, note_no_reserved, statement_no_reserved}
use Rattle.obo_statements.proofs.PlainMeaning.{no_reserved}
use Rattle.obo_notes.proofs.NoteFits.{spelled_note_fits}
use Rattle.obo_statements.proofs.SpelledFits.{spelled_group_fits, spelled_statement_fits}
use Rattle.obo_mapping.proofs.SinglesLaw.{IsStatement, anchors_logical, home_at-is, home_is}

abbrev HasNoSix : Clause → Type 0
HasNoSix clause = list_any (λ (q : Qualifier). is_reserved_key q.key) clause.qualifiers ≡ false

-- ---- groups

pub record OfGroup (group : Group) (clause : Clause) : Type 0 where
  pub raw : is_raw clause.value ≡ false
  pub six : list_any (λ (q : Qualifier). is_reserved_key q.key) clause.qualifiers ≡ false
  pub tag : clause.tag ≡ group_tag group

id_not_raw : (o : Option (List ℕ)) (v : Value) → option_map value.Id o ≡ Some v → is_raw v ≡ false
id_not_raw o v is = let id = option_map_some value.Id o v is in subst (λ x. is_raw x ≡ false) id.2 refl

words_not_raw : (writing : Writing) (c : ClassExpr) (v : Value) → Rattle.obo_statements.specs.Restrictions.restriction_words writing c ≡ Some v → is_raw v ≡ false
unfolding Rattle.obo_statements.specs.Restrictions.restriction_words
words_not_raw writing c v is = by_layer (Rattle.owl_axioms.specs.declared.expr.ClassExpr.TheViews.out-ClassExpr c) is
  where
    by_layer : (layer : Rattle.owl_axioms.specs.declared.expr.ClassExpr.TheOpen.ClassExpr-F ClassExpr) → Rattle.obo_statements.specs.Restrictions.words_of writing layer ≡ Some v → is_raw v ≡ false
    by_layer (Rattle.owl_axioms.specs.declared.expr.ClassExpr.TheOpen.ClassExpr-F.Some role part) is =
        let r = option_and_then_some (λ r. option_map (λ c. value.Pair r c) (Rattle.obo_statements.specs.Classes.class_id writing part)) (writing.role_id role) v is in
        let f = option_map_some (λ c. value.Pair r.0 c) (Rattle.obo_statements.specs.Classes.class_id writing part) v r.2 in
        subst (λ x. is_raw x ≡ false) f.2 refl
    by_layer _ is = absurd (none-some v is)

operand_not_raw : (writing : Writing) (group : Group) (c : ClassExpr) (v : Value) → operand_value writing group c ≡ Some v → is_raw v ≡ false
operand_not_raw writing union c v is = id_not_raw (Rattle.obo_statements.specs.Classes.class_id writing c) v is
operand_not_raw writing intersection c v is =
    ⊎_elim (λ one. id_not_raw (Rattle.obo_statements.specs.Classes.class_id writing c) v one) (λ two. words_not_raw writing c v two)
    (option_or_some (Rattle.obo_statements.specs.Classes.as_id (Rattle.obo_statements.specs.Classes.class_id writing c)) (Rattle.obo_statements.specs.Restrictions.restriction_words writing c) v is)

clauses_of_group : (group : Group) (qs : List Qualifier) (values : List Value) → list_any (λ (q : Qualifier). is_reserved_key q.key) qs ≡ false → ((v : Value) → In v values → is_raw v ≡ false) → (clause : Clause) → In clause (plain_group_clauses group qs values) → OfGroup group clause
clauses_of_group group qs [] free each clause here = absurd here
clauses_of_group group qs (one ∷ values) free each clause here =
    ⊎_elim
    (λ same. subst (OfGroup group) same (record { raw = each one (inl refl); six = free; tag = refl }))
    (λ later.
    let v = In-from_map (λ v. let c : Clause = record { tag = group_tag group; value = v; qualifiers = [] } in c) clause values later in
    subst (OfGroup group) v.2 (record { raw = each v.0 (inr v.1); six = refl; tag = refl }))
    here

pub group_clause : (writing : Writing) (x : List ℕ) (group : Group) (a : Axiom) (clauses : List Clause) → group_spelling writing x group a ≡ Some clauses → (clause : Clause) → In clause clauses → OfGroup group clause
group_clause writing x group a clauses is clause here = by_body a.body (sym (group_is_spelled_plainly writing x group a) ∙ is)
  where
    by_body : (said : Body) → plain_group_in_body writing x group a.sides said ≡ Some clauses → OfGroup group clause
    by_body (body.Equiv c d) is =
        let qs = option_and_then_some (λ qualifiers. option_and_then (plain_clauses_with writing group qualifiers) (other_expr x c d)) (qualifiers_of a.sides) clauses is in
        let whole = option_and_then_some (plain_clauses_with writing group qs.0) (other_expr x c d) clauses qs.2 in
        let operands = option_and_then_some (λ operands. option_map (λ values. plain_group_clauses group qs.0 (sorted_by value_text values)) (each_some (operand_value writing group) operands)) (group_operands group whole.0) clauses whole.2 in
        let values = option_map_some (λ values. plain_group_clauses group qs.0 (sorted_by value_text values)) (each_some (operand_value writing group) operands.0) clauses operands.2 in
        clauses_of_group group qs.0 (sorted_by value_text values.0) (no_reserved a.sides qs.0 qs.1)
        (λ v among. let one = each_some-parts (operand_value writing group) operands.0 values.0 values.1 v (sorted_by-only value_text values.0 v among) in operand_not_raw writing group one.0 v one.2)
        clause (subst (In clause) (sym values.2) here)
    by_body _ is = absurd (none-some clauses is)

-- ---- each clause of an axiom

module _ (reading : Reading) (writing : Writing) (agree : Agree reading writing) (declared : List Name) where
  pub record IsIdClause (a : Axiom) (f : Framed) : Type 0 where
    pub name : Name
    pub id : List ℕ
    pub says : a.body ≡ body.Declaration name
    pub has : frame_id writing name ≡ Some id
    pub same : framed (frame_kind name.kind) id (id_clause id) ≡ f

  pub record IsMetadataClause (a : Axiom) (f : Framed) : Type 0 where
    pub iri : List ℕ
    pub id : List ℕ
    pub says : a.body ≡ body.Declaration (name_as kinds.AnnotationProperty iri)
    pub has : writing.id iri ≡ Some id
    pub same : framed Typedef id metadata_clause ≡ f

  -- a frame of a declared entity
  pub record IsAt (f : Framed) : Type 0 where
    pub name : Name
    pub known : is_declared declared name ≡ true
    pub kind : frame_kind name.kind ≡ f.frame
    pub has : frame_id writing name ≡ Some f.id

  -- the frame is that of a declared entity, or the header
  abbrev pub IsPlaced : Framed → Type 0
  IsPlaced f = ((f.frame ≡ Header) × (f.id ≡ [])) ⊎ IsAt f

  pub record IsNoteClause (a : Axiom) (f : Framed) : Type 0 where
    pub fits : Fits f.frame false f.clause
    pub place : IsPlaced f
    pub note : IsNote f.clause
    pub six : has_reserved_key f ≡ false
    pub order : IsInPrintedOrder f.clause

  pub record IsStatementClause (a : Axiom) (f : Framed) : Type 0 where
    pub kind : Kind
    pub iri : List ℕ
    pub id : List ℕ
    pub clause : Clause
    pub same : framed (frame_kind kind) id clause ≡ f
    pub logical : is_logical kind ≡ true
    pub known : is_declared declared (name_as kind iri) ≡ true
    pub has : frame_id writing (name_as kind iri) ≡ Some id
    pub says : IsStatementIn (frame_kind kind) clause
    pub fits : Fits (frame_kind kind) false clause
    pub six : list_any (λ (q : Qualifier). is_reserved_key q.key) clause.qualifiers ≡ false
    pub order : IsInPrintedOrder clause

  pub record IsGroupClause (a : Axiom) (f : Framed) : Type 0 where
    pub iri : List ℕ
    pub id : List ℕ
    pub group : Group
    pub clauses : List Clause
    pub clause : Clause
    pub has : writing.id iri ≡ Some id
    pub known : is_declared declared (name_as kinds.Class iri) ≡ true
    pub spelled : group_spelling writing iri group a ≡ Some clauses
    pub among : In clause clauses
    pub fits : Fits Term false clause
    pub same : framed Term id clause ≡ f

  abbrev pub AloneShape : Axiom → Framed → Type 0
  AloneShape a f = IsIdClause a f ⊎ (IsMetadataClause a f ⊎ (IsNoteClause a f ⊎ IsStatementClause a f))

  abbrev pub Shape : Axiom → Framed → Type 0
  Shape a f = AloneShape a f ⊎ IsGroupClause a f

  -- the axiom is proper and has a form
  pub record IsFormed (a : Axiom) : Type 0 where
    pub clauses : List Framed
    pub spelled : clauses_for writing declared a ≡ Some clauses
    pub proper : IsStatement a.body → is_proper_body a.body ≡ true
    pub rises : Rises side_text a.sides

  note_shape : (a : Axiom) (kind : FrameKind) (id : List ℕ) (note : Note) (c : Clause) → IsPlaced (framed kind id c) → Rises side_text note.sides → spelling writing kind note ≡ Some c → AloneShape a (framed kind id c)
  note_shape a kind id note c place rises is =
      inr (inr (inl (record { fits = spelled_note_fits reading writing agree kind note c is; place = place; note = is_note reading c note (note_reads_back reading writing agree kind note c rises is); six = note_no_reserved writing kind note c is; order = spelled_note_is_in_order writing kind note c is })))

  declaring_shape : (kind : Kind) (iri id : List ℕ) (a : Axiom) (f : Framed) → a.body ≡ body.Declaration (name_as kind iri) → frame_id writing (name_as kind iri) ≡ Some id → In f (declaring (name_as kind iri) id) → AloneShape a f
  declaring_shape kinds.AnnotationProperty iri id a f says has here =
      ⊎_elim
      (λ same. inl (record { name = name_as kinds.AnnotationProperty iri; id = id; says = says; has = has; same = same }))
      (λ more. ⊎_elim (λ same. inr (inl (record { iri = iri; id = id; says = says; has = has; same = same }))) (λ none. absurd none) more)
      here
  declaring_shape kinds.Class iri id a f says has here = ⊎_elim (λ same. inl (record { name = name_as kinds.Class iri; id = id; says = says; has = has; same = same })) (λ none. absurd none) here
  declaring_shape kinds.Role iri id a f says has here = ⊎_elim (λ same. inl (record { name = name_as kinds.Role iri; id = id; says = says; has = has; same = same })) (λ none. absurd none) here
  declaring_shape kinds.Individual iri id a f says has here = ⊎_elim (λ same. inl (record { name = name_as kinds.Individual iri; id = id; says = says; has = has; same = same })) (λ none. absurd none) here

  statement_shape : (a : Axiom) (cs : List Framed) (f : Framed) → IsStatement a.body → is_proper_body a.body ≡ true → Rises side_text a.sides → statement_spelled writing declared a ≡ Some cs → In f cs → AloneShape a f
  statement_shape a cs f logical proper rises is here =
      let home = option_and_then_some (λ (home : Home). option_map (at_home home) (statement_spelling writing (frame_kind home.entity.kind) home.entity.iri a)) (home_of writing declared a.body) cs is in
      let clause = option_map_some (at_home home.0) (statement_spelling writing (frame_kind home.0.entity.kind) home.0.entity.iri a) cs home.2 in
      let at = home_is writing declared a.body home.0 home.1 in
      let entity = home.0.entity in
      let back = statement_reads_back reading writing agree (frame_kind entity.kind) entity.iri a clause.0 proper rises clause.1 in
      ⊎_elim
      (λ same. inr (inr (inr (record {
        kind = entity.kind;
        iri = entity.iri;
        id = home.0.id;
        clause = clause.0;
        same = same;
        logical = anchors_logical a.body logical entity at.among;
        known = at.declared;
        has = at.id;
        says = is_statement reading (frame_kind entity.kind) entity.iri clause.0 a back.0;
        six = statement_no_reserved writing (frame_kind entity.kind) entity.iri a clause.0 clause.1;
        fits = spelled_statement_fits reading writing agree entity.iri (frame_kind entity.kind) a clause.0 clause.1;
        order = statement_in_order reading writing agree entity.iri (frame_kind entity.kind) a clause.0 clause.1;
      }))))
      (λ none. absurd none)
      (subst (In f) (sym clause.2) here)

  pub alone_shape : (said : Body) (sides : List Side) (cs : List Framed) (f : Framed) → let a : Axiom = record { body = said; sides = sides } in
      body_spelled writing declared a said ≡ Some cs → (IsStatement said → is_proper_body said ≡ true) → Rises side_text sides → In f cs → AloneShape a f
  alone_shape (body.Declaration name) [] cs f is proper rises here =
      let id = option_map_some (declaring name) (frame_id writing name) cs is in
      declaring_shape name.kind name.iri id.0 (record { body = body.Declaration name; sides = [] }) f refl id.1 (subst (In f) (sym id.2) here)
  alone_shape (body.Declaration name) (side ∷ sides) cs f is proper rises here = absurd (none-some cs is)
  alone_shape (body.Note subject property noted) sides cs f is proper rises here =
      let note = note_of property noted sides in
      let a : Axiom = record { body = body.Note subject property noted; sides = sides } in
      let home = option_and_then_some (λ (home : Home). option_map (at_home home) (spelling writing (frame_kind subject.kind) note)) (home_at writing declared subject) cs is in
      let clause = option_map_some (at_home home.0) (spelling writing (frame_kind subject.kind) note) cs home.2 in
      let at = home_at-is writing declared subject home.0 home.1 in
      let spelled = ap (λ (n : Name). spelling writing (frame_kind n.kind) note) (sym at.0) ∙ clause.1 in
      ⊎_elim (λ same. subst (AloneShape a) same (note_shape a (frame_kind home.0.entity.kind) home.0.id note clause.0 (inr (record { name = home.0.entity; known = at.1; kind = refl; has = at.2 })) rises spelled)) (λ none. absurd none) (subst (In f) (sym clause.2) here)
  alone_shape (body.OntologyNote property noted) sides cs f is proper rises here =
      let note = note_of property noted sides in
      let a : Axiom = record { body = body.OntologyNote property noted; sides = sides } in
      let clause = option_map_some (λ clause. framed Header [] clause ∷ []) (spelling writing Header note) cs is in
      ⊎_elim (λ same. subst (AloneShape a) same (note_shape a Header [] note clause.0 (inl (refl, refl)) rises clause.1)) (λ none. absurd none) (subst (In f) (sym clause.2) here)
  alone_shape said sides cs f is proper rises here = statement_shape (record { body = said; sides = sides }) cs f tt (proper tt) rises is here

  -- ---- groups

  class_only : (c : ClassExpr) (name : Name) → In name (class_anchor c) → name.kind ≡ kinds.Class
  class_only expr.Thing name (inl same) = ap (λ (n : Name). n.kind) (sym same)
  class_only expr.Thing name (inr none) = absurd none
  class_only expr.Nothing name (inl same) = ap (λ (n : Name). n.kind) (sym same)
  class_only expr.Nothing name (inr none) = absurd none
  class_only (expr.Class iri) name (inl same) = ap (λ (n : Name). n.kind) (sym same)
  class_only (expr.Class iri) name (inr none) = absurd none
  class_only _ name here = absurd here

  group_of_classes : (said : Body) (sides : List Side) (x : List ℕ) (group : Group) (clauses : List Clause) → plain_group_in_body writing x group sides said ≡ Some clauses → (name : Name) → In name (anchors said) → name.kind ≡ kinds.Class
  unfolding anchors
  group_of_classes (body.Equiv c d) sides x group clauses is name here = ⊎_elim (class_only c name) (class_only d name) (In-append name (class_anchor c) (class_anchor d) here)
  group_of_classes _ sides x group clauses is name here = absurd (none-some clauses is)

  pub record IsGroupAt (a : Axiom) (cs : List Framed) (group : Group) : Type 0 where
    pub iri : List ℕ
    pub id : List ℕ
    pub clauses : List Clause
    pub has : writing.id iri ≡ Some id
    pub known : is_declared declared (name_as kinds.Class iri) ≡ true
    pub spelled : group_spelling writing iri group a ≡ Some clauses
    pub same : map (framed Term id) clauses ≡ cs

  pub group_at : (a : Axiom) (cs : List Framed) (group : Group) → group_spelled writing declared a group ≡ Some cs → IsGroupAt a cs group
  group_at a cs group is =
      let home = option_and_then_some (λ (home : Home). option_map (map (framed Term home.id)) (group_spelling writing home.entity.iri group a)) (home_of writing declared a.body) cs is in
      let clauses = option_map_some (map (framed Term home.0.id)) (group_spelling writing home.0.entity.iri group a) cs home.2 in
      let at = home_is writing declared a.body home.0 home.1 in
      let class = group_of_classes a.body a.sides home.0.entity.iri group clauses.0 (sym (group_is_spelled_plainly writing home.0.entity.iri group a) ∙ clauses.1) home.0.entity at.among in
      record {
        iri = home.0.entity.iri;
        id = home.0.id;
        clauses = clauses.0;
        has = subst (λ kind. frame_id writing (name_as kind home.0.entity.iri) ≡ Some home.0.id) class at.id;
        known = subst (λ kind. is_declared declared (name_as kind home.0.entity.iri) ≡ true) class at.declared;
        spelled = clauses.1;
        same = clauses.2;
      }

  pub form_is : (a : Axiom) (cs : List Framed) → clauses_for writing declared a ≡ Some cs → (axiom_spelled writing declared a ≡ Some cs) ⊎ ((group : Group) × IsGroupAt a cs group)
  unfolding clauses_for
  form_is a cs is =
      ⊎_elim
      (λ one. inl one)
      (λ other. let group = first_some-found (group_spelled writing declared a) (intersection ∷ union ∷ []) cs other in inr (group.0, group_at a cs group.0 group.2))
      (option_or_some (axiom_spelled writing declared a) (first_some (group_spelled writing declared a) (intersection ∷ union ∷ [])) cs is)

  pub shape : (a : Axiom) (formed : IsFormed a) (f : Framed) → In f formed.clauses → Shape a f
  unfolding axiom_spelled
  shape a formed f here =
      ⊎_elim
      (λ alone. inl (alone_shape a.body a.sides formed.clauses f alone formed.proper formed.rises here))
      (λ grouped.
      let at = grouped.1 in
      let clause = In-from_map (framed Term at.id) f at.clauses (subst (In f) (sym at.same) here) in
      inr (record { iri = at.iri; id = at.id; group = grouped.0; clauses = at.clauses; clause = clause.0; has = at.has; known = at.known; spelled = at.spelled; among = clause.1; fits = spelled_group_fits reading writing agree at.iri grouped.0 a at.clauses at.spelled clause.0 clause.1; same = clause.2 }))
      (form_is a formed.clauses formed.spelled)
