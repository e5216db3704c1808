-- What a document says whose clauses stand for axioms, beside others that are not translated or say nothing: these axioms.
use Rattle.std.proofs.Common.{◌≡◌, ◌⊎◌, ℕ, true, false, not, ◌&&◌, ◌||◌, List, [], ◌++◌, codes, map, Option, None, Some, inl, inr, ⊎_elim, refl, sym, ap, subst, ◌∙◌}
use Rattle.std.specs.List.{filter, filter_map}
use Rattle.std.specs.Option.{option_and_then, option_map, option_map_or, option_or, unwrap_or}
use Rattle.std.specs.Str.{bytes_eq}
use Rattle.std.proofs.lemmas.Bool.{and_parts, both_ways, cases_Bool, cond-false, cond-true, not-true}
use Rattle.std.proofs.lemmas.Option.{none-some, same_Some}
use Rattle.iri_map.proofs.CandidateLemmas.{bytes_eq-refl}
use Rattle.obo_tags.specs.declared.kind.FrameKind.TheVariants.{Term, Typedef}
use Rattle.obo_clause.specs.declared.clause.Clause.{Clause}
use Rattle.text_sets.proofs.SetLemmas.{In-append, In-append_left, In-append_right, In-filter, In-filter_map, In-flat_map, In-from_filter, In-from_filter_map, In-from_flat_map, In-from_map, In-map}
use Rattle.text_sets.specs.Sets.{In, SameMembers}
use Rattle.owl_axioms.specs.Proper.{is_proper_body}
use Rattle.owl_axioms.specs.Text.{side_text}
use Rattle.owl_axioms.specs.declared.body.Axiom.{Axiom}
use Rattle.owl_axioms.specs.declared.body.Body.{Body}
use Rattle.owl_axioms.specs.declared.body.Body.TheVariants as body
use Rattle.owl_axioms.specs.declared.name.Kind.{Kind}
use Rattle.owl_axioms.specs.declared.name.Kind.TheVariants as kinds
use Rattle.owl_axioms.specs.declared.name.Name.{Name}
use Rattle.text_sets.specs.Parts.{first_some}
use Rattle.text_sets.specs.Sorted.{Rises}
use Rattle.obo_frames.specs.Framed.{Framed, framed, id_clause}
use Rattle.obo_mapping.specs.Axioms.{Situation, axiom_said, axiom_spelled, entity_of, frame_id, frame_kind, is_declared, is_metadata, metadata_clause, name_as, note_axiom, said_at, same_kind}
use Rattle.obo_notes.specs.Context.{Agree, Writing, where_true}
use Rattle.obo_mapping.specs.Documents.{clauses_for, declared_in, group_in, group_of, group_said, group_with, has_reserved_key, has_tag, is_broken, is_header, is_misfit, is_raw, is_term, is_typedef, is_untranslatable, situation_of, spelled}
use Rattle.obo_notes.specs.Notes.{form_of, meaning}
use Rattle.obo_statements.specs.Statements.{statement_in, statement_meaning, statements_of}
use Rattle.obo_statements.specs.Groups.{Group, group_meaning, group_spelling, group_tag, intersection, union}
use Rattle.obo_mapping.proofs.AxiomLaws.{Knows}
use Rattle.obo_statements.proofs.GroupsBack.{group_equates, group_reads_back}
use Rattle.obo_notes.proofs.Guards.{same_bytes, where_true_some}
use Rattle.obo_mapping.proofs.OfSet.{any_from_in, in_from_any}
use Rattle.obo_mapping.proofs.PlainClauses.{IsNoneOfMetadata, Plain, id_tag, intersection_no_form, is_translatable, no_group, no_note, no_statement, note_tag, statement_tag, union_no_form}
use Rattle.obo_statements.proofs.PlainMeaning.{any_false}
use Rattle.obo_mapping.proofs.SetLaws.{EachSays}
use Rattle.obo_mapping.proofs.SinglesLaw.{IsStatement, body_says}
use Rattle.obo_mapping.proofs.SpelledShapes.{IsFormed, IsGroupAt, IsGroupClause, IsIdClause, IsMetadataClause, IsNoteClause, IsStatementClause, OfGroup, Shape, form_is, group_clause, shape}

-- ---- groups by their tags

pub group_with_tag : (group : Group) → group_with (group_tag group) ≡ Some group
group_with_tag intersection = refl
group_with_tag union = refl

pub tag_of_group : (tag : List ℕ) (group : Group) → group_with tag ≡ Some group → tag ≡ group_tag group
tag_of_group tag group is =
    ⊎_elim
    (λ first. same_bytes tag (codes "intersection_of") first ∙ ap group_tag (same_Some intersection group (sym (cond-true _ _ _ first) ∙ is)))
    (λ isnt. let found = where_true_some (bytes_eq tag (codes "union_of")) (Some union) group (sym (cond-false _ _ _ isnt) ∙ is) in
    same_bytes tag (codes "union_of") found.0 ∙ ap group_tag (same_Some union group found.1))
    (cases_Bool (bytes_eq tag (codes "intersection_of")))

pub group_is : (id : List ℕ) (clause : Clause) (group : Group) → OfGroup group clause → group_of (framed Term id clause) ≡ Some group
group_is id clause group of = (λ i. where_true (not (of.raw i)) (group_with (of.tag i))) ∙ group_with_tag group

no_form : (group : Group) → form_of (group_tag group) ≡ None
no_form intersection = intersection_no_form
no_form union = union_no_form

no_term_statement : (group : Group) → first_some (statement_in (group_tag group)) (statements_of Term) ≡ None
unfolding statements_of
no_term_statement intersection = refl
no_term_statement union = refl

no_id : (group : Group) → bytes_eq (group_tag group) (codes "id") ≡ false
no_id intersection = refl
no_id union = refl

-- a clause of a group says nothing by itself
pub group_silent : (situation : Situation) (id : List ℕ) (clause : Clause) (group : Group) → OfGroup group clause → axiom_said situation (framed Term id clause) ≡ None
unfolding axiom_said statement_meaning
group_silent situation id clause group of =
    let name = name_as kinds.Class (situation.reading.iri id) in
    let tag = ap (λ t. bytes_eq t (codes "id")) of.tag ∙ no_id group in
    let none = no_note situation.reading clause (ap form_of of.tag ∙ no_form group) in
    let statement = ap (λ t. first_some (statement_in t) (statements_of Term)) of.tag ∙ no_term_statement group in
    λ i. option_or (where_true (tag i) (Some (record { body = body.Declaration name; sides = [] })))
    (option_or (option_map (note_axiom name) (none i))
    (option_map (λ said. record { body = said; sides = Rattle.obo_notes.specs.Notes.sorted_sides (Rattle.obo_statements.specs.Extras.annotations_of clause.qualifiers) })
    (option_and_then (λ s. Rattle.obo_statements.specs.Values.stated situation.reading (situation.reading.iri id) s (Rattle.obo_statements.specs.Extras.extras_of clause.qualifiers) clause.value) (statement i))))

-- ---- names

kind_from_same : (one other : Kind) → same_kind one other ≡ true → one ≡ other
kind_from_same kinds.Class kinds.Class is = refl
kind_from_same kinds.Role kinds.Role is = refl
kind_from_same kinds.Individual kinds.Individual is = refl
kind_from_same kinds.AnnotationProperty kinds.AnnotationProperty is = refl
kind_from_same _ _ is = let h : false ≡ true = is in absurd (cc)

pub declared_among : (declared : List Name) (name : Name) → is_declared declared name ≡ true → In name declared
declared_among declared name is =
    let found = in_from_any (λ (one : Name). same_kind one.kind name.kind && bytes_eq one.iri name.iri) declared is in
    let parts = and_parts (same_kind found.0.kind name.kind) (bytes_eq found.0.iri name.iri) found.2 in
    let kind = kind_from_same found.0.kind name.kind parts.0 in
    let iri = same_bytes found.0.iri name.iri parts.1 in
    subst (λ n. In n declared) (λ i. name_as (kind i) (iri i)) found.1

pub is_declared_from : (declared : List Name) (name : Name) → In name declared → is_declared declared name ≡ true
is_declared_from declared name here = any_from_in (λ (one : Name). same_kind one.kind name.kind && bytes_eq one.iri name.iri) declared name here (λ i. kind_refl name.kind i && bytes_eq-refl name.iri i)
  where
    kind_refl : (kind : Kind) → same_kind kind kind ≡ true
    kind_refl kinds.Class = refl
    kind_refl kinds.Role = refl
    kind_refl kinds.Individual = refl
    kind_refl kinds.AnnotationProperty = refl

pub declared_name : (a : Axiom) (name : Name) → declared_in a ≡ Some name → a.body ≡ body.Declaration name
declared_name a name is = by_body a.body is
  where
    by_body : (said : Body) → declared_in (record { body = said; sides = a.sides }) ≡ Some name → said ≡ body.Declaration name
    by_body (body.Declaration one) is = ap body.Declaration (same_Some one name is)
    by_body _ is = absurd (none-some name is)

pub name_declared : (a : Axiom) (name : Name) → a.body ≡ body.Declaration name → declared_in a ≡ Some name
name_declared a name is = ap (λ (said : Body). declared_in (record { body = said; sides = a.sides })) is

-- ---- the order of a pair

pub id_no_statement : first_some (statement_in (codes "id")) (statements_of Typedef) ≡ None
unfolding statements_of
id_no_statement = refl

pub metadata_no_statement : first_some (statement_in (codes "is_metadata_tag")) (statements_of Typedef) ≡ None
unfolding statements_of
metadata_no_statement = refl

no_ontology : (group : Group) → bytes_eq (group_tag group) (codes "ontology") ≡ false
no_ontology intersection = refl
no_ontology union = refl

-- ---- the law

module _ (D : List Framed) (w : Writing) (O : List Axiom) (agree : Agree (situation_of D).reading w) (knows : Knows (situation_of D) w (filter_map declared_in O)) where
  abbrev S : Situation
  S = situation_of D

  abbrev declared : List Name
  declared = filter_map declared_in O

  abbrev pub Formed : Axiom → Type 0
  Formed a = IsFormed S.reading w agree declared a

  -- a clause that is not spelled: not translated, or one that says nothing; and in no group that is spelled
  pub record IsBeside (f : Framed) : Type 0 where
    pub silent : (is_untranslatable D f ≡ true) ⊎ ((axiom_said S f ≡ None) × (group_said S D f ≡ None))
    pub apart : (group : Group) (a : Axiom) (clauses : List Clause) → In a O → group_of f ≡ Some group → group_spelling w (S.reading.iri f.id) group a ≡ Some clauses → ⊥

  pub record IsSpelledIn : Type 0 where
    pub formed : (a : Axiom) → In a O → Formed a
    pub once : (x : List ℕ) (group : Group) (a b : Axiom) (some others : List Clause) → In a O → In b O → group_spelling w x group a ≡ Some some → group_spelling w x group b ≡ Some others → a ≡ b
    pub each : (f : Framed) → In f (spelled w O) → In f D
    pub rest : (f : Framed) → In f D → In f (spelled w O) ⊎ IsBeside f

  module _ (is : IsSpelledIn) where
    pub record IsOf (f : Framed) : Type 0 where
      pub one : Axiom
      pub among : In one O
      pub has : In f (is.formed one among).clauses

    pub is_of : (f : Framed) → In f (spelled w O) → IsOf f
    unfolding spelled
    is_of f here =
        let a = In-from_flat_map (λ (one : Axiom). unwrap_or (clauses_for w declared one) []) f O here in
        let formed = is.formed a.0 a.1 in
        record { one = a.0; among = a.1; has = subst (λ (o : Option (List Framed)). In f (unwrap_or o [])) formed.spelled a.2 }

    to_spelled : (f : Framed) (a : Axiom) (here : In a O) → In f (is.formed a here).clauses → In f (spelled w O)
    unfolding spelled
    to_spelled f a here has =
        In-flat_map (λ (one : Axiom). unwrap_or (clauses_for w declared one) []) f O a here
        (subst (λ (o : Option (List Framed)). In f (unwrap_or o [])) (sym (is.formed a here).spelled) has)

    pub alone_no_group : (a : Axiom) (f : Framed) → Rattle.obo_mapping.proofs.SpelledShapes.AloneShape S.reading w agree declared a f → group_of f ≡ None
    alone_no_group a f (inl id) = subst (λ (g : Framed). group_of g ≡ None) id.same (no_group (framed (frame_kind id.name.kind) id.id (id_clause id.id)) id_tag)
    alone_no_group a f (inr (inl meta)) = subst (λ (g : Framed). group_of g ≡ None) meta.same refl
    alone_no_group a f (inr (inr (inl note))) = no_group f (note_tag f.clause note.note)
    alone_no_group a f (inr (inr (inr one))) = subst (λ (g : Framed). group_of g ≡ None) one.same (no_group (framed (frame_kind one.kind) one.id one.clause) (statement_tag (frame_kind one.kind) one.clause one.says))

    -- the clauses of a group in the document are those of the axiom
    record IsTested (f : Framed) (x : List ℕ) (group : Group) : Type 0 where
      has : group_of f ≡ Some group
      iri : S.reading.iri f.id ≡ x

    is_tested : (f : Framed) (x : List ℕ) (group : Group) → (is_term f.frame && not (is_raw f.clause.value) && bytes_eq (S.reading.iri f.id) x && has_tag (group_tag group) f) ≡ true → IsTested f x group
    is_tested f x group test =
        let a = and_parts (is_term f.frame && not (is_raw f.clause.value) && bytes_eq (S.reading.iri f.id) x) (has_tag (group_tag group) f) test in
        let b = and_parts (is_term f.frame && not (is_raw f.clause.value)) (bytes_eq (S.reading.iri f.id) x) a.0 in
        let tag = same_bytes f.clause.tag (group_tag group) a.1 in
        record { has = (λ i. where_true (b.0 i) (group_with (tag i))) ∙ group_with_tag group; iri = same_bytes (S.reading.iri f.id) x b.1 }

    group_in_is : (a : Axiom) (here : In a O) (group : Group) (at : IsGroupAt S.reading w agree declared a (is.formed a here).clauses group) (f : Framed)
        → In f (group_in S D at.iri group) → In f.clause at.clauses
    group_in_is a here group at f there =
        let found = In-from_filter (λ (one : Framed). is_term one.frame && not (is_raw one.clause.value) && bytes_eq (S.reading.iri one.id) at.iri && has_tag (group_tag group) one) f D there in
        let tested = is_tested f at.iri group found.1 in
        ⊎_elim
        (λ spelled_here.
        let of = is_of f spelled_here in
        let formed = is.formed of.one of.among in
        ⊎_elim
        (λ alone. absurd (none-some group (sym (alone_no_group of.one f alone) ∙ tested.has)))
        (λ (grouped : IsGroupClause S.reading w agree declared of.one f).
        let off = group_clause w grouped.iri grouped.group of.one grouped.clauses grouped.spelled grouped.clause grouped.among in
        let same_group : grouped.group ≡ group = same_Some grouped.group group (sym (group_is grouped.id grouped.clause grouped.group off) ∙ ap group_of grouped.same ∙ tested.has) in
        let same_iri : grouped.iri ≡ at.iri = sym (agree.ids grouped.iri grouped.id grouped.has).1 ∙ ap (λ (g : Framed). S.reading.iri g.id) grouped.same ∙ tested.iri in
        let spelled_at : group_spelling w at.iri group of.one ≡ Some grouped.clauses = (let back = sym same_iri in let group_back = sym same_group in λ i. group_spelling w (back i) (group_back i) of.one) ∙ grouped.spelled in
        let same_one = is.once at.iri group of.one a grouped.clauses at.clauses of.among here spelled_at at.spelled in
        let same_clauses : grouped.clauses ≡ at.clauses = same_Some grouped.clauses at.clauses (sym spelled_at ∙ ap (group_spelling w at.iri group) same_one ∙ at.spelled) in
        subst (λ (c : Clause). In c at.clauses) (ap (λ (g : Framed). g.clause) grouped.same) (subst (In grouped.clause) same_clauses grouped.among))
        (shape S.reading w agree declared of.one formed f of.has))
        (λ beside. absurd (beside.apart group a at.clauses here tested.has (ap (λ x. group_spelling w x group a) tested.iri ∙ at.spelled)))
        (is.rest f found.0)

    in_group : (a : Axiom) (here : In a O) (group : Group) (at : IsGroupAt S.reading w agree declared a (is.formed a here).clauses group) (c : Clause)
        → In c at.clauses → In (framed Term at.id c) (group_in S D at.iri group)
    in_group a here group at c among =
        let f = framed Term at.id c in
        let off = group_clause w at.iri group a at.clauses at.spelled c among in
        let there = is.each f (to_spelled f a here (subst (In f) at.same (In-map (framed Term at.id) c at.clauses among))) in
        let iri = (agree.ids at.iri at.id at.has).1 in
        In-filter (λ (one : Framed). is_term one.frame && not (is_raw one.clause.value) && bytes_eq (S.reading.iri one.id) at.iri && has_tag (group_tag group) one) f D there
        ((λ i. not (off.raw i) && bytes_eq (iri i) at.iri && bytes_eq (off.tag i) (group_tag group)) ∙ (λ i. bytes_eq-refl at.iri i && bytes_eq-refl (group_tag group) i))

    group_members : (a : Axiom) (here : In a O) (group : Group) (at : IsGroupAt S.reading w agree declared a (is.formed a here).clauses group)
        → SameMembers (map (λ (each : Framed). each.clause) (group_in S D at.iri group)) at.clauses
    group_members a here group at c = (
      (λ there.
          let f = In-from_map (λ (each : Framed). each.clause) c (group_in S D at.iri group) there in
          subst (λ d. In d at.clauses) f.2 (group_in_is a here group at f.0 f.1)),
      (λ among. In-map (λ (each : Framed). each.clause) (framed Term at.id c) (group_in S D at.iri group) (in_group a here group at c among)),
    )

    -- the group of an axiom says it
    group_means : (a : Axiom) (group : Group) (x : List ℕ) (clauses others : List Clause) → (IsStatement a.body → is_proper_body a.body ≡ true) → Rises side_text a.sides → group_spelling w x group a ≡ Some clauses → SameMembers others clauses
        → (group_meaning S.reading x group others ≡ Some a) × ((c : Clause) × In c clauses)
    group_means a group x clauses others proper rises spelled_is same =
        let equates = group_equates w x group a clauses spelled_is in
        let one = group_reads_back S.reading w agree group x a clauses others (proper (subst IsStatement (sym equates.2) tt)) rises spelled_is same in
        (one.0, one.1)

    pub group_says : (a : Axiom) (here : In a O) (group : Group) (at : IsGroupAt S.reading w agree declared a (is.formed a here).clauses group) (c : Clause)
        → In c at.clauses → group_said S D (framed Term at.id c) ≡ Some a
    group_says a here group at c among =
        let formed = is.formed a here in
        let off = group_clause w at.iri group a at.clauses at.spelled c among in
        let iri = (agree.ids at.iri at.id at.has).1 in
        let means = group_means a group at.iri at.clauses (map (λ (each : Framed). each.clause) (group_in S D at.iri group)) formed.proper formed.rises at.spelled (group_members a here group at) in
        (λ i. option_and_then (λ g. group_meaning S.reading (iri i) g (map (λ (each : Framed). each.clause) (group_in S D (iri i) g))) (group_is at.id c group off i)) ∙ means.0

    -- ---- what each clause says

    record Says (a : Axiom) (cs : List Framed) : Type 0 where
      only : (f : Framed) → In f cs → (axiom_said S f ≡ Some a) ⊎ (axiom_said S f ≡ None)
      group_only : (f : Framed) → In f cs → (group_said S D f ≡ Some a) ⊎ (group_said S D f ≡ None)
      one : Framed
      among : In one cs
      says : (axiom_said S one ≡ Some a) ⊎ (group_said S D one ≡ Some a)

    said_known : (a : Axiom) → In a O → (name : Name) → a.body ≡ body.Declaration name → is_declared declared name ≡ true
    said_known a here name says = is_declared_from declared name (In-filter_map declared_in name O a here (name_declared a name says))

    axiom_says : (a : Axiom) (here : In a O) → Says a (is.formed a here).clauses
    unfolding axiom_spelled
    axiom_says a here =
        let formed = is.formed a here in
        ⊎_elim
        (λ alone.
        let each : EachSays (axiom_said S) formed.clauses a = body_says S w agree declared knows a.body a.sides formed.clauses alone formed.proper formed.rises (said_known a here) in
        record {
          only = each.only;
          group_only = λ f among. inr (ap (option_and_then _) (alone_no_group a f (Rattle.obo_mapping.proofs.SpelledShapes.alone_shape S.reading w agree declared a.body a.sides formed.clauses f alone formed.proper formed.rises among)));
          one = each.one;
          among = each.among;
          says = inl each.says;
        })
        (λ grouped.
        let group = grouped.0 in
        let at = grouped.1 in
        let one = (group_means a group at.iri at.clauses at.clauses formed.proper formed.rises at.spelled (λ c. ((λ h. h), (λ h. h)))).1 in
        record {
          only = λ f among.
              let c = In-from_map (framed Term at.id) f at.clauses (subst (In f) (sym at.same) among) in
              inr (subst (λ (g : Framed). axiom_said S g ≡ None) c.2 (group_silent S at.id c.0 group (group_clause w at.iri group a at.clauses at.spelled c.0 c.1)));
          group_only = λ f among.
              let c = In-from_map (framed Term at.id) f at.clauses (subst (In f) (sym at.same) among) in
              inl (subst (λ (g : Framed). group_said S D g ≡ Some a) c.2 (group_says a here group at c.0 c.1));
          one = framed Term at.id one.0;
          among = subst (In (framed Term at.id one.0)) at.same (In-map (framed Term at.id) one.0 at.clauses one.1);
          says = inr (group_says a here group at one.0 one.1);
        })
        (form_is S.reading w agree declared a formed.clauses formed.spelled)

    -- ---- what is spelled is translated

    none_of_metadata_at : (kind : Kind) (iri id : List ℕ) (c : Clause) → Rattle.obo_mapping.specs.Axioms.is_logical kind ≡ true → is_declared declared (name_as kind iri) ≡ true → frame_id w (name_as kind iri) ≡ Some id
        → IsNoneOfMetadata S (framed (frame_kind kind) id c)
    none_of_metadata_at kinds.Class iri id c logical known has = inl refl
    none_of_metadata_at kinds.Individual iri id c logical known has = inl refl
    none_of_metadata_at kinds.Role iri id c logical known has = inr (inl (knows.roles iri id known has))
    none_of_metadata_at kinds.AnnotationProperty iri id c logical known has = let h : false ≡ true = logical in absurd (cc)

    no_broken : (f : Framed) → group_of f ≡ None → option_map_or (is_broken S D (S.reading.iri f.id)) (group_of f) false ≡ false
    no_broken f none = ap (λ o. option_map_or (is_broken S D (S.reading.iri f.id)) o false) none

    alone_plain : (a : Axiom) (f : Framed) → Rattle.obo_mapping.proofs.SpelledShapes.AloneShape S.reading w agree declared a f → Plain D f
    alone_plain a f (inl id) =
        let g = framed (frame_kind id.name.kind) id.id (id_clause id.id) in
        subst (Plain D) id.same (record { raw = refl; six = refl; ontology = refl; metadata = inr (inr id_no_statement); group = no_broken g (no_group g id_tag) })
    alone_plain a f (inr (inl meta)) =
        subst (Plain D) meta.same (record { raw = refl; six = refl; ontology = refl; metadata = inr (inr metadata_no_statement); group = refl })
    alone_plain a f (inr (inr (inl note))) =
        let tag = note_tag f.clause note.note in
        record { raw = note.note.raw; six = note.six; ontology = tag.ontology; metadata = inr (inr (no_statement f.clause.tag note.note.form Typedef note.note.has)); group = no_broken f (no_group f tag) }
    alone_plain a f (inr (inr (inr one))) =
        let tag = statement_tag (frame_kind one.kind) one.clause one.says in
        let g = framed (frame_kind one.kind) one.id one.clause in
        subst (Plain D) one.same (record {
          raw = one.says.raw;
          six = one.six;
          ontology = tag.ontology;
          metadata = none_of_metadata_at one.kind one.iri one.id one.clause one.logical one.known one.has;
          group = no_broken g (no_group g tag);
        })

    group_plain : (a : Axiom) (here : In a O) (group : Group) (at : IsGroupAt S.reading w agree declared a (is.formed a here).clauses group) (c : Clause) → In c at.clauses → Plain D (framed Term at.id c)
    group_plain a here group at c among =
        let off = group_clause w at.iri group a at.clauses at.spelled c among in
        let iri = (agree.ids at.iri at.id at.has).1 in
        record {
          raw = off.raw;
          six = off.six;
          ontology = ap (λ t. bytes_eq t (codes "ontology")) off.tag ∙ no_ontology group;
          metadata = inl refl;
          group = (λ i. option_map_or (is_broken S D (iri i)) (group_is at.id c group off i) false)
              ∙ any_false is_misfit (group_in S D at.iri group) (λ f there.
              let of = group_clause w at.iri group a at.clauses at.spelled f.clause (group_in_is a here group at f there) in
              λ i. of.raw i || (of.six i && not (Rattle.obo_mapping.specs.Documents.is_import f || Rattle.obo_mapping.specs.Documents.is_truth_value false f.clause.value)));
        }

    pub spelled_translated : (f : Framed) → In f (spelled w O) → is_untranslatable D f ≡ false
    unfolding axiom_spelled
    spelled_translated f here =
        let of = is_of f here in
        let formed = is.formed of.one of.among in
        ⊎_elim
        (λ alone. is_translatable D f (alone_plain of.one f (Rattle.obo_mapping.proofs.SpelledShapes.alone_shape S.reading w agree declared of.one.body of.one.sides formed.clauses f alone formed.proper formed.rises of.has)))
        (λ grouped.
        let c = In-from_map (framed Term grouped.1.id) f grouped.1.clauses (subst (In f) (sym grouped.1.same) of.has) in
        subst (λ (g : Framed). is_untranslatable D g ≡ false) c.2 (is_translatable D (framed Term grouped.1.id c.0) (group_plain of.one of.among grouped.0 grouped.1 c.0 c.1)))
        (form_is S.reading w agree declared of.one formed.clauses formed.spelled)

    -- ---- the axioms

    abbrev pub translated : List Framed
    translated = filter (λ one. not (is_untranslatable D one)) D

    from_said : (a : Axiom) (say : Framed → Option Axiom) → ((f : Framed) → IsBeside f → is_untranslatable D f ≡ false → say f ≡ None) → ((b : Axiom) (here : In b O) (f : Framed) → In f (is.formed b here).clauses → (say f ≡ Some b) ⊎ (say f ≡ None))
        → In a (filter_map say translated) → In a O
    from_said a say silent only here =
        let f = In-from_filter_map say a translated here in
        let found = In-from_filter (λ one. not (is_untranslatable D one)) f.0 D f.1 in
        let free = not-true (is_untranslatable D f.0) found.1 in
        ⊎_elim
        (λ spelled_here.
        let of = is_of f.0 spelled_here in
        ⊎_elim (λ says. subst (λ x. In x O) (same_Some of.one a (sym says ∙ f.2)) of.among) (λ none. absurd (none-some a (sym none ∙ f.2))) (only of.one of.among f.0 of.has))
        (λ beside. absurd (none-some a (sym (silent f.0 beside free) ∙ f.2)))
        (is.rest f.0 found.0)

    beside_silent : (f : Framed) → IsBeside f → is_untranslatable D f ≡ false → (axiom_said S f ≡ None) × (group_said S D f ≡ None)
    beside_silent f beside free = ⊎_elim (λ isnt. absurd (both_ways (is_untranslatable D f) free isnt)) (λ silent. silent) beside.silent

    pub axioms_are : SameMembers (filter_map (axiom_said S) translated ++ filter_map (group_said S D) translated) O
    axioms_are a = (
      (λ here. ⊎_elim
          (from_said a (axiom_said S) (λ f beside free. (beside_silent f beside free).0) (λ b among f has. (axiom_says b among).only f has))
          (from_said a (group_said S D) (λ f beside free. (beside_silent f beside free).1) (λ b among f has. (axiom_says b among).group_only f has))
          (In-append a (filter_map (axiom_said S) translated) (filter_map (group_said S D) translated) here)),
      (λ here.
          let says = axiom_says a here in
          let spelled_here = to_spelled says.one a here says.among in
          let there = In-filter (λ one. not (is_untranslatable D one)) says.one D (is.each says.one spelled_here) (ap not (spelled_translated says.one spelled_here)) in
          ⊎_elim
          (λ alone. In-append_left a (filter_map (axiom_said S) translated) (filter_map (group_said S D) translated) (In-filter_map (axiom_said S) a translated says.one there alone))
          (λ grouped. In-append_right a (filter_map (axiom_said S) translated) (filter_map (group_said S D) translated) (In-filter_map (group_said S D) a translated says.one there grouped))
          says.says),
    )
