-- An axiom that has clauses keeps them under another name of the ontology, where its anchors stay declared.
use Rattle.std.proofs.Common.{◌≡◌, ◌⊎◌, ℕ, true, List, [], ◌∷◌, map, Option, Some, inl, inr, ⊎_elim, refl, sym, subst}
use Rattle.std.specs.List.{filter_map}
use Rattle.std.specs.Option.{IsSome, option_and_then, option_map}
use Rattle.obo_tags.specs.declared.kind.FrameKind.TheVariants.{Header, Term}
use Rattle.owl_axioms.specs.declared.body.Axiom.{Axiom}
use Rattle.owl_axioms.specs.declared.body.Body.{Body}
use Rattle.owl_axioms.specs.declared.body.Body.TheVariants as body
use Rattle.owl_axioms.specs.declared.expr.ClassExpr.{ClassExpr}
use Rattle.owl_axioms.specs.declared.name.Kind.{Kind}
use Rattle.owl_axioms.specs.declared.name.Kind.TheVariants as kinds
use Rattle.owl_axioms.specs.declared.name.Name.{Name}
use Rattle.text_sets.specs.Parts.{first_some}
use Rattle.text_sets.specs.Sets.{In}
use Rattle.text_sets.proofs.PartLemmas.{first_some-found, first_some-some, option_and_then_some, option_map_some, some_value}
use Rattle.text_sets.proofs.SetLemmas.{In-filter_map}
use Rattle.obo_frames.specs.Framed.{framed}
use Rattle.obo_notes.specs.Context.{Writing, where_true}
use Rattle.obo_notes.specs.Forms.{note_of}
use Rattle.obo_notes.specs.Notes.{spelling}
use Rattle.obo_notes.specs.declared.note.Note.{Note}
use Rattle.obo_statements.specs.Anchors.{anchors}
use Rattle.obo_statements.specs.Groups.{Group, group_spelling, intersection, union}
use Rattle.obo_statements.specs.Statements.{statement_spelling}
use Rattle.obo_statements.proofs.GroupsBack.{group_equates}
use Rattle.obo_mapping.specs.Axioms.{Home, at_home, axiom_spelled, body_spelled, declaring, frame_id, frame_kind, home_at, home_of, is_declared, name_as, statement_spelled}
use Rattle.obo_mapping.specs.Documents.{clauses_for, group_spelled}
use Rattle.obo_mapping.proofs.SinglesLaw.{IsStatement, home_is}
use Rattle.spelling_laws.proofs.Homes.{GroupedAt, StatedAt, group_one, sorted_some, statement_moves}
use Rattle.spelling_laws.proofs.Matching.{Alike, alike_some, map_back, map_some, or_one, some_from, some_left, some_right, then_some, where_from, where_some}
use Rattle.spelling_laws.proofs.NotesAlike.{spelling_alike}
use Rattle.spelling_laws.proofs.SameIds.{WriteAlike}
use Rattle.spelling_laws.proofs.StatementsAlike.{group_alike, statement_alike}

-- ---- some declared anchor states it

module _ (w : Writing) (declared : List Name) where
  -- an anchor in whose frame the axiom can be stated
  pub record IsFormedAt (a : Axiom) : Type 0 where
    pub entity : Name
    pub among : In entity (anchors a.body)
    pub known : is_declared declared entity ≡ true
    pub has : IsSome (frame_id w entity)
    pub states : StatedAt w a entity ⊎ GroupedAt w a entity

  -- what is stated at the home of an axiom is stated at an anchor
  stated_home : {X : Type 0} (a : Axiom) (state : Home → Option X) → ((home : Home) → IsSome (state home) → StatedAt w a home.entity ⊎ GroupedAt w a home.entity)
      → IsSome (option_and_then state (home_of w declared a.body)) → IsFormedAt a
  stated_home a state each some =
      let v = some_value (option_and_then state (home_of w declared a.body)) some in
      let home = option_and_then_some state (home_of w declared a.body) v.0 v.1 in
      let is = home_is w declared a.body home.0 home.1 in
      record {
        entity = home.0.entity;
        among = is.among;
        known = is.declared;
        has = some_from (frame_id w home.0.entity) home.0.id is.id;
        states = each home.0 (some_from (state home.0) v.0 home.2);
      }

  pub grouped_home : (a : Axiom) (g : Group) → IsSome (group_spelled w declared a g) → IsFormedAt a
  grouped_home a g some =
      stated_home a (λ (home : Home). option_map (map (framed Term home.id)) (group_spelling w home.entity.iri g a))
      (λ home here. inr (g, map_back (map (framed Term home.id)) (group_spelling w home.entity.iri g a) here)) some

  pub statement_home : (a : Axiom) → IsSome (statement_spelled w declared a) → IsFormedAt a
  statement_home a some =
      stated_home a (λ (home : Home). option_map (at_home home) (statement_spelling w (frame_kind home.entity.kind) home.entity.iri a))
      (λ home here. inl (map_back (at_home home) (statement_spelling w (frame_kind home.entity.kind) home.entity.iri a) here)) some

  -- the home of an axiom that is stated at an anchor
  home_some : (a : Axiom) (is : IsFormedAt a) → IsSome (home_of w declared a.body)
  home_some a is =
      let id = some_value (frame_id w is.entity) is.has in
      let home : Home = record { entity = is.entity; id = id.0 } in
      let at : home_at w declared is.entity ≡ Some home = λ i. where_true (is.known i) (option_map (λ (one : List ℕ). let h : Home = record { entity = is.entity; id = one } in h) (id.1 i)) in
      sorted_some (λ (h : Home). h.id) (filter_map (home_at w declared) (anchors a.body)) home (In-filter_map (home_at w declared) home (anchors a.body) is.entity is.among at)

  all_groups : (g : Group) → In g (intersection ∷ union ∷ [])
  all_groups intersection = inl refl
  all_groups union = inr (inl refl)

  statement_body : (a : Axiom) (said : Body) → IsStatement said → body_spelled w declared a said ≡ statement_spelled w declared a
  statement_body a (body.Declaration name) one = absurd one
  statement_body a (body.Note subject property noted) one = absurd one
  statement_body a (body.OntologyNote property noted) one = absurd one
  statement_body a _ one = refl

  pub formed_clauses : (a : Axiom) → IsStatement a.body → IsFormedAt a → IsSome (clauses_for w declared a)
  unfolding clauses_for axiom_spelled
  formed_clauses a statement is =
      let home = some_value (home_of w declared a.body) (home_some a is) in
      let at = home_is w declared a.body home.0 home.1 in
      let here = home.0.entity in
      ⊎_elim
      (λ stated.
      let moved = statement_moves w is.entity here a is.among at.among is.has stated in
      let spelled : IsSome (statement_spelled w declared a) =
      subst (λ o. IsSome (option_and_then (λ (home : Home). option_map (at_home home) (statement_spelling w (frame_kind home.entity.kind) home.entity.iri a)) o)) (sym home.1)
      (map_some (at_home home.0) (statement_spelling w (frame_kind here.kind) here.iri a) moved) in
      some_left (body_spelled w declared a a.body) (first_some (group_spelled w declared a) (intersection ∷ union ∷ []))
      (subst (λ o. IsSome o) (sym (statement_body a a.body statement)) spelled))
      (λ (grouped : GroupedAt w a is.entity).
      let same = group_one w is.entity here is.entity grouped.0 a grouped.1 is.among at.among in
      let moved = subst (λ (n : Name). IsSome (group_spelling w n.iri grouped.0 a)) same grouped.1 in
      let spelled : IsSome (group_spelled w declared a grouped.0) =
      subst (λ o. IsSome (option_and_then (λ (home : Home). option_map (map (framed Term home.id)) (group_spelling w home.entity.iri grouped.0 a)) o)) (sym home.1)
      (map_some (map (framed Term home.0.id)) (group_spelling w here.iri grouped.0 a) moved) in
      some_right (body_spelled w declared a a.body) (first_some (group_spelled w declared a) (intersection ∷ union ∷ []))
      (first_some-some (group_spelled w declared a) (intersection ∷ union ∷ []) grouped.0 (all_groups grouped.0) spelled))
      is.states

  -- a group states two expressions that stand for each other
  grouped_statement : (a : Axiom) (g : Group) → IsSome (group_spelled w declared a g) → IsStatement a.body
  grouped_statement a g some =
      let v = some_value (group_spelled w declared a g) some in
      let home = option_and_then_some (λ (home : Home). option_map (map (framed Term home.id)) (group_spelling w home.entity.iri g a)) (home_of w declared a.body) v.0 v.1 in
      let cs = option_map_some (map (framed Term home.0.id)) (group_spelling w home.0.entity.iri g a) v.0 home.2 in
      is_pair (group_equates w home.0.entity.iri g a cs.0 cs.1)
    where
      is_pair : (c : ClassExpr) × (d : ClassExpr) × (a.body ≡ body.Equiv c d) → IsStatement a.body
      is_pair one = subst IsStatement (sym one.2) tt

  -- what has clauses is a statement at an anchor, or has clauses by itself
  pub formed_ways : (a : Axiom) → IsSome (clauses_for w declared a) → (IsStatement a.body × IsFormedAt a) ⊎ IsSome (body_spelled w declared a a.body)
  unfolding clauses_for axiom_spelled
  formed_ways a some =
      ⊎_elim
      (λ alone. inr alone)
      (λ grouped.
      let v = some_value (first_some (group_spelled w declared a) (intersection ∷ union ∷ [])) grouped in
      let g = first_some-found (group_spelled w declared a) (intersection ∷ union ∷ []) v.0 v.1 in
      let is = some_from (group_spelled w declared a g.0) v.0 g.2 in
      inl (grouped_statement a g.0 is, grouped_home a g.0 is))
      (or_one (body_spelled w declared a a.body) (first_some (group_spelled w declared a) (intersection ∷ union ∷ [])) some)

  -- an axiom that is no statement has clauses by itself
  pub alone_clauses : (a : Axiom) → IsSome (body_spelled w declared a a.body) → IsSome (clauses_for w declared a)
  unfolding clauses_for axiom_spelled
  alone_clauses a some = some_left (body_spelled w declared a a.body) (first_some (group_spelled w declared a) (intersection ∷ union ∷ [])) some

-- ---- in another writing, where more is declared

module _ (w v : Writing) (alike : WriteAlike w v) (declared more : List Name) where
  -- all anchors that are declared in the one list are declared in the other
  abbrev pub StayDeclared : Body → Type 0
  StayDeclared said = (name : Name) → In name (anchors said) → is_declared declared name ≡ true → is_declared more name ≡ true

  frame_alike : (name : Name) → Alike (frame_id w name) (frame_id v name)
  frame_alike name = by_kind name.kind
    where
      by_kind : (kind : Kind) → Alike (frame_id w (name_as kind name.iri)) (frame_id v (name_as kind name.iri))
      by_kind kinds.Class = alike.ids name.iri
      by_kind kinds.Role = alike.role_ids name.iri
      by_kind kinds.Individual = alike.ids name.iri
      by_kind kinds.AnnotationProperty = alike.ids name.iri

  -- with the anchors that are declared in the other list
  pub formed_moves : (a : Axiom) (is : IsFormedAt w declared a) → is_declared more is.entity ≡ true → IsFormedAt v more a
  formed_moves a is known = record {
    entity = is.entity;
    among = is.among;
    known = known;
    has = alike_some (frame_id w is.entity) (frame_id v is.entity) (frame_alike is.entity) is.has;
    states = ⊎_elim
        (λ stated. inl (alike_some (statement_spelling w (frame_kind is.entity.kind) is.entity.iri a) (statement_spelling v (frame_kind is.entity.kind) is.entity.iri a) (statement_alike w v alike (frame_kind is.entity.kind) is.entity.iri a) stated))
        (λ (grouped : GroupedAt w a is.entity). inr (grouped.0, alike_some (group_spelling w is.entity.iri grouped.0 a) (group_spelling v is.entity.iri grouped.0 a) (group_alike w v alike is.entity.iri grouped.0 a) grouped.1))
        is.states;
  }

  note_moves : (subject : Name) (note : Note) → is_declared more subject ≡ true
      → IsSome (option_and_then (λ (home : Home). option_map (at_home home) (spelling w (frame_kind subject.kind) note)) (home_at w declared subject))
      → IsSome (option_and_then (λ (home : Home). option_map (at_home home) (spelling v (frame_kind subject.kind) note)) (home_at v more subject))
  note_moves subject note known some =
      let home = then_some (λ (home : Home). option_map (at_home home) (spelling w (frame_kind subject.kind) note)) (home_at w declared subject) some in
      let is = where_some (is_declared declared subject) (option_map (λ (id : List ℕ). let h : Home = record { entity = subject; id = id } in h) (frame_id w subject)) (some_from (home_at w declared subject) home.0 home.1) in
      let id = map_back (λ (id : List ℕ). let h : Home = record { entity = subject; id = id } in h) (frame_id w subject) is.1 in
      let there = some_value (frame_id v subject) (alike_some (frame_id w subject) (frame_id v subject) (frame_alike subject) id) in
      let said = map_back (at_home home.0) (spelling w (frame_kind subject.kind) note) home.2 in
      let moved = alike_some (spelling w (frame_kind subject.kind) note) (spelling v (frame_kind subject.kind) note) (spelling_alike w v alike (frame_kind subject.kind) note) said in
      let new : Home = record { entity = subject; id = there.0 } in
      let at : home_at v more subject ≡ Some new = λ i. where_true (known i) (option_map (λ (id : List ℕ). let h : Home = record { entity = subject; id = id } in h) (there.1 i)) in
      subst (λ o. IsSome (option_and_then (λ (home : Home). option_map (at_home home) (spelling v (frame_kind subject.kind) note)) o)) (sym at)
      (map_some (at_home new) (spelling v (frame_kind subject.kind) note) moved)

  note_known : (subject : Name) (note : Note) → IsSome (option_and_then (λ (home : Home). option_map (at_home home) (spelling w (frame_kind subject.kind) note)) (home_at w declared subject)) → is_declared declared subject ≡ true
  note_known subject note some =
      let home = then_some (λ (home : Home). option_map (at_home home) (spelling w (frame_kind subject.kind) note)) (home_at w declared subject) some in
      (where_some (is_declared declared subject) (option_map (λ (id : List ℕ). let h : Home = record { entity = subject; id = id } in h) (frame_id w subject)) (some_from (home_at w declared subject) home.0 home.1)).0

  alone_moves : (a : Axiom) (said : Body) → a.body ≡ said → StayDeclared said → IsSome (body_spelled w declared a said) → IsSome (clauses_for v more a)
  unfolding anchors
  alone_moves a (body.Declaration name) is stay some =
      let no_sides = where_some _ (option_map (declaring name) (frame_id w name)) some in
      let id = alike_some (frame_id w name) (frame_id v name) (frame_alike name) (map_back (declaring name) (frame_id w name) no_sides.1) in
      alone_clauses v more a (subst (λ b. IsSome (body_spelled v more a b)) (sym is) (where_from _ (option_map (declaring name) (frame_id v name)) no_sides.0 (map_some (declaring name) (frame_id v name) id)))
  alone_moves a (body.Note subject property noted) is stay some =
      alone_clauses v more a (subst (λ b. IsSome (body_spelled v more a b)) (sym is) (note_moves subject (note_of property noted a.sides) (stay subject (inl refl) (note_known subject (note_of property noted a.sides) some)) some))
  alone_moves a (body.OntologyNote property noted) is stay some =
      let note = note_of property noted a.sides in
      let said = map_back (λ clause. framed Header [] clause ∷ []) (spelling w Header note) some in
      alone_clauses v more a (subst (λ b. IsSome (body_spelled v more a b)) (sym is)
      (map_some (λ clause. framed Header [] clause ∷ []) (spelling v Header note) (alike_some (spelling w Header note) (spelling v Header note) (spelling_alike w v alike Header note) said)))
  alone_moves a said is stay some =
      let formed = statement_home w declared a some in
      formed_clauses v more a (subst IsStatement (sym is) tt) (formed_moves a formed (stay formed.entity (subst (λ b. In formed.entity (anchors b)) is formed.among) formed.known))

  -- an axiom with a form keeps one
  pub clauses_move : (a : Axiom) → StayDeclared a.body → IsSome (clauses_for w declared a) → IsSome (clauses_for v more a)
  clauses_move a stay some =
      ⊎_elim
      (λ (stated : IsStatement a.body × IsFormedAt w declared a). formed_clauses v more a stated.0 (formed_moves a stated.1 (stay stated.1.entity stated.1.among stated.1.known)))
      (λ alone. alone_moves a a.body refl stay alone)
      (formed_ways w declared a some)
