-- Where an axiom of a document comes from.
use Rattle.std.proofs.Common.{◌≡◌, ◌⊎◌, ℕ, Bool, true, false, not, ◌&&◌, List, [], ◌++◌, codes, map, Option, None, Some, inl, inr, ⊎_elim, refl, sym, ap, subst, ◌∙◌}
use Rattle.std.specs.List.{filter, filter_map, flat_map, list_any}
use Rattle.std.specs.Option.{option_and_then, option_map, option_or, option_to_list}
use Rattle.std.specs.Str.{bytes_eq}
use Rattle.std.proofs.lemmas.Bool.{both_ways, cases_Bool, cond-false, cond-true, false_from_ne_true, not-true}
use Rattle.std.proofs.lemmas.Option.{none-some, same_Some}
use Rattle.obo_tags.specs.declared.kind.FrameKind.{FrameKind}
use Rattle.obo_tags.specs.declared.kind.FrameKind.TheVariants.{Header, Instance, Term, Typedef}
use Rattle.obo_clause.specs.declared.clause.Clause.{Clause}
use Rattle.obo_clause.specs.declared.clause.Value.{Value}
use Rattle.obo_clause.specs.declared.clause.Value.TheVariants as value
use Rattle.owl_axioms.specs.declared.body.Axiom.{Axiom}
use Rattle.owl_axioms.specs.declared.body.Body.{Body}
use Rattle.owl_axioms.specs.declared.body.Body.TheVariants as body
use Rattle.owl_axioms.specs.declared.expr.ClassExpr.{ClassExpr}
use Rattle.owl_axioms.specs.declared.name.Kind.TheVariants as kinds
use Rattle.owl_axioms.specs.declared.name.Name.{Name}
use Rattle.text_sets.proofs.SetLemmas.{In-append, In-append_left, In-append_right, In-filter, In-filter_map, In-from_filter, In-from_filter_map}
use Rattle.text_sets.specs.Sets.{In}
use Rattle.text_sets.proofs.PartLemmas.{option_and_then_some, option_cases, option_map_some, option_or_some}
use Rattle.obo_frames.specs.Framed.{Framed, framed, id_clause}
use Rattle.obo_mapping.specs.Axioms.{Situation, axiom_said, declared_by, entity_of, is_logical, is_metadata, name_as, note_axiom, ontology_axiom, said_at, said_of}
use Rattle.obo_notes.specs.Context.{Reading, reading_in, where_true}
use Rattle.obo_mapping.specs.Documents.{declared_in, default_in, group_of, group_said, has_tag, is_header, is_namespace, is_raw, is_truth_value, is_typedef, is_untranslatable, kept_with, owl, situation_of, spaced, space_of, text_in}
use Rattle.obo_notes.specs.declared.note.Note.{Note}
use Rattle.obo_notes.specs.Notes.{meaning}
use Rattle.obo_mapping.specs.Sound.{IsSound}
use Rattle.obo_statements.specs.Values.{Character, Statement, asymmetric, character_body, functional, inverse_functional, pair_of, reflexive, stated_plainly, symmetric, transitive}
use Rattle.obo_statements.specs.Statements.{statement_in, statement_meaning, statements_of}
use Rattle.obo_statements.specs.Groups.{Group, expr_pair, group_expr, group_meaning}
use Rattle.obo_notes.proofs.Guards.{same_bytes, where_true_some}
use Rattle.obo_mapping.proofs.SaidSingly.{owl_singly}
use Rattle.obo_statements.proofs.PlainMeaning.{grouped_plainly, meant_plainly}
use Rattle.obo_mapping.proofs.OfSet.{in_from_any}
use Rattle.obo_mapping.proofs.PlainClauses.{id_tag, is_translatable, no_group}
use Rattle.obo_mapping.proofs.SinglesLaw.{IsStatement}
use Rattle.obo_mapping.proofs.SpacedLaws.{IsAdded, added, default_of, is_added}
use Rattle.obo_mapping.proofs.SpelledLaw.{id_no_statement}

-- ---- what a clause says by itself

pub record IsDeclared (situation : Situation) (f : Framed) (a : Axiom) : Type 0 where
  pub name : Name
  pub entity : entity_of situation f.frame f.id ≡ Some name
  pub tag : bytes_eq f.clause.tag (codes "id") ≡ true
  pub says : (let one : Axiom = record { body = body.Declaration name; sides = [] } in one) ≡ a

pub record IsNoted (situation : Situation) (f : Framed) (a : Axiom) : Type 0 where
  pub name : Name
  pub note : Note
  pub entity : entity_of situation f.frame f.id ≡ Some name
  pub means : meaning situation.reading f.clause ≡ Some note
  pub says : note_axiom name note ≡ a

pub record IsHeaderNote (situation : Situation) (f : Framed) (a : Axiom) : Type 0 where
  pub note : Note
  pub entity : entity_of situation f.frame f.id ≡ None
  pub means : meaning situation.reading f.clause ≡ Some note
  pub says : ontology_axiom note ≡ a

pub record IsStated (situation : Situation) (f : Framed) (a : Axiom) : Type 0 where
  pub name : Name
  pub entity : entity_of situation f.frame f.id ≡ Some name
  pub logical : is_logical name.kind ≡ true
  pub means : statement_meaning situation.reading f.frame name.iri f.clause ≡ Some a

abbrev pub SaidCase : Situation → Framed → Axiom → Type 0
SaidCase situation f a = IsDeclared situation f a ⊎ (IsNoted situation f a ⊎ (IsHeaderNote situation f a ⊎ IsStated situation f a))

pub said_cases : (situation : Situation) (f : Framed) (a : Axiom) → axiom_said situation f ≡ Some a → SaidCase situation f a
unfolding axiom_said
said_cases situation f a is =
    ⊎_elim
    (λ none.
    let note = option_map_some ontology_axiom (meaning situation.reading f.clause) a (sym (ap (said_at situation f) none) ∙ is) in
    inr (inr (inl (record { note = note.0; entity = none; means = note.1; says = note.2 }))))
    (λ some. of_name some.0 some.1 (sym (ap (said_at situation f) some.1) ∙ is))
    (option_cases (entity_of situation f.frame f.id))
  where
    of_name : (name : Name) → entity_of situation f.frame f.id ≡ Some name → said_of situation f.frame name f.clause ≡ Some a → SaidCase situation f a
    of_name name entity says =
        ⊎_elim
        (λ declared.
        let test = where_true_some (bytes_eq f.clause.tag (codes "id")) (Some (record { body = body.Declaration name; sides = [] })) a declared in
        inl (record { name = name; entity = entity; tag = test.0; says = same_Some _ a test.1 }))
        (λ more. ⊎_elim
        (λ noted. let note = option_map_some (note_axiom name) (meaning situation.reading f.clause) a noted in
        inr (inl (record { name = name; note = note.0; entity = entity; means = note.1; says = note.2 })))
        (λ statement.
        let test = where_true_some (is_logical name.kind) (statement_meaning situation.reading f.frame name.iri f.clause) a statement in
        inr (inr (inr (record { name = name; entity = entity; logical = test.0; means = test.1 }))))
        (option_or_some (option_map (note_axiom name) (meaning situation.reading f.clause)) (where_true (is_logical name.kind) (statement_meaning situation.reading f.frame name.iri f.clause)) a more))
        (option_or_some (declared_by name f.clause) _ a says)

-- ---- what a statement says declares nothing and notes nothing

pair_is : (P : Body → Type 0) (make : List ℕ → List ℕ → Body) (x y : List ℕ) → ((a b : List ℕ) → P (make a b)) → P (pair_of make x y)
pair_is P make x y each =
    ⊎_elim (λ yes. subst P (sym (cond-true _ (make x y) (make y x) yes)) (each x y)) (λ isnt. subst P (sym (cond-false _ (make x y) (make y x) isnt)) (each y x)) (cases_Bool _)

abbrev IsOneOf : Option Body → Type 0
IsOneOf None = Unit {0}
IsOneOf (Some said) = IsStatement said

is_one : (o : Option Body) (said : Body) → IsOneOf o → o ≡ Some said → IsStatement said
is_one o said one is = subst IsOneOf is one

stated_one : (reading : Reading) (x : List ℕ) (statement : Statement) (v : Value) → IsOneOf (stated_plainly reading x statement v)
unfolding stated_plainly
stated_one reading x Statement.below_class (value.Id id) = tt
stated_one reading x Statement.restricted (value.Pair role id) = tt
stated_one reading x Statement.same_class (value.Id id) = pair_is IsStatement Rattle.obo_statements.specs.Values.same_classes x (reading.iri id) (λ a b. tt)
stated_one reading x Statement.disjoint_class (value.Id id) = pair_is IsStatement Rattle.obo_statements.specs.Values.disjoint_classes x (reading.iri id) (λ a b. tt)
stated_one reading x Statement.below_role (value.Id id) = tt
stated_one reading x Statement.same_role (value.Id id) = pair_is IsStatement body.EquivRoles x (reading.role_iri id) (λ a b. tt)
stated_one reading x Statement.disjoint_role (value.Id id) = pair_is IsStatement body.DisjointRoles x (reading.role_iri id) (λ a b. tt)
stated_one reading x Statement.inverse_role (value.Id id) = pair_is IsStatement body.Inverse x (reading.role_iri id) (λ a b. tt)
stated_one reading x (Statement.has_character transitive) (value.Bool true) = tt
stated_one reading x (Statement.has_character reflexive) (value.Bool true) = tt
stated_one reading x (Statement.has_character symmetric) (value.Bool true) = tt
stated_one reading x (Statement.has_character asymmetric) (value.Bool true) = tt
stated_one reading x (Statement.has_character functional) (value.Bool true) = tt
stated_one reading x (Statement.has_character inverse_functional) (value.Bool true) = tt
stated_one reading x Statement.has_domain (value.Id id) = tt
stated_one reading x Statement.has_range (value.Id id) = tt
stated_one reading x Statement.over (value.Id id) = tt
stated_one reading x Statement.chain (value.Pair first second) = tt
stated_one reading x Statement.member (value.Id id) = tt
stated_one reading x Statement.related (value.Pair role id) = tt
stated_one reading x _ _ = tt

-- a statement with the value that states it
pub record IsStatedBy (reading : Reading) (kind : FrameKind) (x : List ℕ) (c : Clause) (a : Axiom) : Type 0 where
  pub statement : Statement
  pub row : Rattle.text_sets.specs.Parts.first_some (statement_in c.tag) (statements_of kind) ≡ Some statement
  pub said : stated_plainly reading x statement c.value ≡ Some a.body
  pub sides : Rattle.obo_notes.specs.Notes.sorted_sides (map Rattle.obo_notes.specs.Keys.side_of_qualifier c.qualifiers) ≡ a.sides

pub stated_by : (reading : Reading) (kind : FrameKind) (x : List ℕ) (c : Clause) (a : Axiom) → statement_meaning reading kind x c ≡ Some a → IsStatedBy reading kind x c a
stated_by reading kind x c a is =
    let rows = Rattle.text_sets.specs.Parts.first_some (statement_in c.tag) (statements_of kind) in
    let said = option_map_some (λ said. let one : Axiom = record { body = said; sides = Rattle.obo_notes.specs.Notes.sorted_sides (map Rattle.obo_notes.specs.Keys.side_of_qualifier c.qualifiers) } in one) (option_and_then (λ statement. stated_plainly reading x statement c.value) rows) a (meant_plainly reading kind x c a is) in
    let statement = option_and_then_some (λ statement. stated_plainly reading x statement c.value) rows said.0 said.1 in
    record {
      statement = statement.0;
      row = statement.1;
      said = statement.2 ∙ ap Some (ap (λ (b : Axiom). b.body) said.2);
      sides = ap (λ (b : Axiom). b.sides) said.2;
    }

pub stated_statement : (reading : Reading) (kind : FrameKind) (x : List ℕ) (c : Clause) (a : Axiom) → statement_meaning reading kind x c ≡ Some a → IsStatement a.body
stated_statement reading kind x c a is =
    let by = stated_by reading kind x c a is in
    is_one (stated_plainly reading x by.statement c.value) a.body (stated_one reading x by.statement c.value) by.said

abbrev is_role : Name → Bool
is_role name = Rattle.obo_mapping.specs.Axioms.same_kind name.kind kinds.Role

-- ---- what a document says

module _ (d : List Framed) where
  abbrev pub S : Situation
  S = situation_of d

  pub record IsSaidBy (a : Axiom) : Type 0 where
    pub one : Framed
    pub among : In one d
    pub free : is_untranslatable d one ≡ false
    pub says : (axiom_said S one ≡ Some a) ⊎ (group_said S d one ≡ Some a)

  abbrev pub translated : List Framed
  translated = filter (λ one. not (is_untranslatable d one)) d

  abbrev pub said_in : List Axiom
  said_in = filter_map (axiom_said S) translated ++ filter_map (group_said S d) translated

  abbrev pub spaces : List Name
  spaces = filter_map (λ (one : Framed). entity_of S one.frame one.id) (kept_with d (codes "namespace"))

  abbrev pub defaults : List (List ℕ)
  defaults = filter_map (λ (one : Framed). text_in one.clause.value) (kept_with d (codes "default-namespace"))

  pub said_by : (a : Axiom) → In a said_in → IsSaidBy a
  said_by a here =
      ⊎_elim
      (λ alone. let f = In-from_filter_map (axiom_said S) a translated alone in
      let found = In-from_filter (λ one. not (is_untranslatable d one)) f.0 d f.1 in
      record { one = f.0; among = found.0; free = not-true (is_untranslatable d f.0) found.1; says = inl f.2 })
      (λ grouped. let f = In-from_filter_map (group_said S d) a translated grouped in
      let found = In-from_filter (λ one. not (is_untranslatable d one)) f.0 d f.1 in
      record { one = f.0; among = found.0; free = not-true (is_untranslatable d f.0) found.1; says = inr f.2 })
      (In-append a (filter_map (axiom_said S) translated) (filter_map (group_said S d) translated) here)

  abbrev pub IsSpaced : Axiom → Type 0
  IsSpaced a = IsAdded (spaces ++ filter_map is_namespace said_in) said_in (default_of defaults said_in) a

  pub owl_cases : (a : Axiom) → In a (owl d) → IsSaidBy a ⊎ IsSpaced a
  unfolding spaced
  owl_cases a here =
      ⊎_elim
      (λ said. inl (said_by a said))
      (λ more. inr (is_added (spaces ++ filter_map is_namespace said_in) said_in (default_of defaults said_in) a more))
      (In-append a said_in (flat_map (added (spaces ++ filter_map is_namespace said_in) said_in) (option_to_list (default_of defaults said_in))) (subst (In a) (owl_singly d) here))

  pub said_in_owl : (a : Axiom) → In a said_in → In a (owl d)
  unfolding spaced
  said_in_owl a here = subst (In a) (sym (owl_singly d)) (In-append_left a said_in (flat_map (added (spaces ++ filter_map is_namespace said_in) said_in) (option_to_list (default_of defaults said_in))) here)

  pub alone_in_owl : (f : Framed) (a : Axiom) → In f d → is_untranslatable d f ≡ false → axiom_said S f ≡ Some a → In a (owl d)
  alone_in_owl f a here free is =
      said_in_owl a (In-append_left a (filter_map (axiom_said S) translated) (filter_map (group_said S d) translated)
      (In-filter_map (axiom_said S) a translated f (In-filter (λ one. not (is_untranslatable d one)) f d here (ap not free)) is))

  -- an axiom of a group is of two classes that stand for each other
  pub record IsGrouped (f : Framed) (a : Axiom) : Type 0 where
    pub group : Group
    pub has : group_of f ≡ Some group
    pub means : group_meaning S.reading (S.reading.iri f.id) group (map (λ (each : Framed). each.clause) (Rattle.obo_mapping.specs.Documents.group_in S d (S.reading.iri f.id) group)) ≡ Some a

  pub grouped_by : (f : Framed) (a : Axiom) → group_said S d f ≡ Some a → IsGrouped f a
  grouped_by f a is =
      let group = option_and_then_some (λ group. group_meaning S.reading (S.reading.iri f.id) group (map (λ (each : Framed). each.clause) (Rattle.obo_mapping.specs.Documents.group_in S d (S.reading.iri f.id) group))) (group_of f) a is in
      record { group = group.0; has = group.1; means = group.2 }

  -- ---- declarations

  -- an id clause is translated, and says its entity
  pub id_free : (kind : FrameKind) (id : List ℕ) → is_untranslatable d (framed kind id (id_clause id)) ≡ false
  id_free kind id =
      let f = framed kind id (id_clause id) in
      is_translatable d f (record {
        raw = refl;
        six = refl;
        ontology = refl;
        metadata = inr (inr id_no_statement);
        group = ap (λ o. Rattle.std.specs.Option.option_map_or (Rattle.obo_mapping.specs.Documents.is_broken S d (S.reading.iri id)) o false) (no_group f id_tag);
      })

  pub id_says : (kind : FrameKind) (id : List ℕ) (name : Name) → entity_of S kind id ≡ Some name → axiom_said S (framed kind id (id_clause id)) ≡ Some (record { body = body.Declaration name; sides = [] })
  unfolding axiom_said
  id_says kind id name is = ap (said_at S (framed kind id (id_clause id))) is

  pub entity_declared : IsSound d → (f : Framed) (name : Name) → In f d → entity_of S f.frame f.id ≡ Some name → In name (filter_map declared_in (owl d))
  entity_declared sound f name here is =
      let g = framed f.frame f.id (id_clause f.id) in
      let a : Axiom = record { body = body.Declaration name; sides = [] } in
      In-filter_map declared_in name (owl d) a (alone_in_owl g a (sound.ids f here (not_header f.frame is)) (id_free f.frame f.id) (id_says f.frame f.id name is)) refl
    where
      not_header : (kind : FrameKind) → entity_of S kind f.id ≡ Some name → is_header (framed kind f.id f.clause) ≡ false
      not_header Header is = absurd (none-some name is)
      not_header Term is = refl
      not_header Typedef is = refl
      not_header Instance is = refl

  no_declaration : (reading : Reading) (x : List ℕ) (group : Group) (cs : List Clause) (a : Axiom) (name : Name) → group_meaning reading x group cs ≡ Some a → a.body ≡ body.Declaration name → ⊥
  no_declaration reading x group cs a name is says =
      let made = option_map_some _ (Rattle.text_sets.specs.Parts.each_some (λ (clause : Clause). Rattle.obo_statements.specs.Groups.operand_plainly reading group clause.value) cs) a (grouped_plainly reading x group cs a is) in
      pair_declares _ (group_expr group _) (ap (λ (b : Axiom). b.body) made.2 ∙ says)
    where
      never : (said : Body) → (c e : ClassExpr) → said ≡ body.Equiv c e → said ≡ body.Declaration name → ⊥
      never said c e one other = none-some name (ap (λ (b : Body). declared_in (record { body = b; sides = [] })) (sym one ∙ other))

      pair_declares : (c e : ClassExpr) → expr_pair c e ≡ body.Declaration name → ⊥
      pair_declares c e is =
          ⊎_elim (λ yes. never (expr_pair c e) c e (cond-true _ _ _ yes) is) (λ isnt. never (expr_pair c e) e c (cond-false _ _ _ isnt) is) (cases_Bool (Rattle.owl_axioms.specs.Proper.in_order (Rattle.owl_axioms.specs.Text.expr_text c) (Rattle.owl_axioms.specs.Text.expr_text e)))

  pub declared_from : (name : Name) → In name (filter_map declared_in (owl d)) → (f : Framed) × In f d × (entity_of S f.frame f.id ≡ Some name)
  declared_from name here =
      let a = In-from_filter_map declared_in name (owl d) here in
      let says = Rattle.obo_mapping.proofs.SpelledLaw.declared_name a.0 name a.2 in
      ⊎_elim
      (λ (by : IsSaidBy a.0). ⊎_elim
      (λ alone. by_case a.0 by.one by.among says (said_cases S by.one a.0 alone))
      (λ grouped. let g = grouped_by by.one a.0 grouped in absurd (no_declaration S.reading (S.reading.iri by.one.id) g.group _ a.0 name g.means says))
      by.says)
      (λ (new : IsSpaced a.0). absurd (none-some name (ap declared_in new.same ∙ a.2)))
      (owl_cases a.0 a.1)
    where
      by_case : (a : Axiom) (f : Framed) → In f d → a.body ≡ body.Declaration name → SaidCase S f a → (f : Framed) × In f d × (entity_of S f.frame f.id ≡ Some name)
      by_case a f among says (inl declared) =
          (f, among, declared.entity ∙ ap declared_in declared.says ∙ Rattle.obo_mapping.proofs.SpelledLaw.name_declared a name says)
      by_case a f among says (inr (inl noted)) = absurd (none-some name (ap declared_in noted.says ∙ Rattle.obo_mapping.proofs.SpelledLaw.name_declared a name says))
      by_case a f among says (inr (inr (inl noted))) = absurd (none-some name (ap declared_in noted.says ∙ Rattle.obo_mapping.proofs.SpelledLaw.name_declared a name says))
      by_case a f among says (inr (inr (inr stated_plainly))) = absurd (subst IsStatement says (stated_statement S.reading f.frame stated_plainly.name.iri f.clause a stated_plainly.means))

  -- ---- annotation properties

  abbrev declares_metadata : Framed → Bool
  declares_metadata one = is_typedef one.frame && has_tag (codes "is_metadata_tag") one && is_truth_value true one.clause.value

  typedef_metadata : (kind : FrameKind) (id iri : List ℕ) → is_typedef kind ≡ true → S.reading.iri id ≡ iri → is_metadata S iri ≡ true → entity_of S kind id ≡ Some (name_as kinds.AnnotationProperty iri)
  typedef_metadata Typedef id iri typedef same known = ap Some (cond-true (is_metadata S (S.reading.iri id)) _ _ (ap (is_metadata S) same ∙ known) ∙ ap (name_as kinds.AnnotationProperty) same)
  typedef_metadata Header id iri typedef same known = let h : false ≡ true = typedef in absurd (cc)
  typedef_metadata Term id iri typedef same known = let h : false ≡ true = typedef in absurd (cc)
  typedef_metadata Instance id iri typedef same known = let h : false ≡ true = typedef in absurd (cc)

  pub metadata_declared : IsSound d → (iri : List ℕ) → is_metadata S iri ≡ true → In (name_as kinds.AnnotationProperty iri) (filter_map declared_in (owl d))
  unfolding situation_of
  metadata_declared sound iri known =
      let reading = reading_in (space_of d) in
      let m = in_from_any (bytes_eq iri) (map (λ (one : Framed). reading.iri one.id) (filter declares_metadata d)) known in
      let f = Rattle.text_sets.proofs.SetLemmas.In-from_map (λ (one : Framed). reading.iri one.id) m.0 (filter declares_metadata d) m.1 in
      let found = In-from_filter declares_metadata f.0 d f.1 in
      let a = Rattle.std.proofs.lemmas.Bool.and_parts (is_typedef f.0.frame && has_tag (codes "is_metadata_tag") f.0) (is_truth_value true f.0.clause.value) found.1 in
      let b = Rattle.std.proofs.lemmas.Bool.and_parts (is_typedef f.0.frame) (has_tag (codes "is_metadata_tag") f.0) a.0 in
      entity_declared sound f.0 (name_as kinds.AnnotationProperty iri) found.0 (typedef_metadata f.0.frame f.0.id iri b.0 (f.2 ∙ sym (same_bytes iri m.0 m.2)) known)

  pub record IsTypedefOf (f : Framed) (iri : List ℕ) (known : Bool) : Type 0 where
    pub metadata : is_metadata S (S.reading.iri f.id) ≡ known

  kind_of_entity : (kind : FrameKind) (id iri : List ℕ) → entity_of S kind id ≡ Some (name_as kinds.AnnotationProperty iri) → is_metadata S iri ≡ true
  kind_of_entity Header id iri is = absurd (none-some _ is)
  kind_of_entity Term id iri is = absurd (other_kind (name_as kinds.Class (S.reading.iri id)) iri refl (same_Some _ _ is))
    where
      other_kind : (n : Name) (iri : List ℕ) → Rattle.obo_mapping.specs.Axioms.same_kind n.kind kinds.AnnotationProperty ≡ false → n ≡ name_as kinds.AnnotationProperty iri → ⊥
      other_kind n iri no_kind same = let h : true ≡ false = sym (ap (λ (m : Name). Rattle.obo_mapping.specs.Axioms.same_kind m.kind kinds.AnnotationProperty) same) ∙ no_kind in absurd (cc)
  kind_of_entity Instance id iri is = absurd (other_kind (name_as kinds.Individual (S.reading.iri id)) iri refl (same_Some _ _ is))
    where
      other_kind : (n : Name) (iri : List ℕ) → Rattle.obo_mapping.specs.Axioms.same_kind n.kind kinds.AnnotationProperty ≡ false → n ≡ name_as kinds.AnnotationProperty iri → ⊥
      other_kind n iri no_kind same = let h : true ≡ false = sym (ap (λ (m : Name). Rattle.obo_mapping.specs.Axioms.same_kind m.kind kinds.AnnotationProperty) same) ∙ no_kind in absurd (cc)
  kind_of_entity Typedef id iri is =
      ⊎_elim
      (λ yes.
      let same = same_Some _ _ (sym (ap Some (cond-true (is_metadata S (S.reading.iri id)) (name_as kinds.AnnotationProperty (S.reading.iri id)) (name_as kinds.Role (S.reading.role_iri id)) yes)) ∙ is) in
      ap (is_metadata S) (sym (ap (λ (n : Name). n.iri) same)) ∙ yes)
      (λ isnt. absurd (other_kind (name_as kinds.Role (S.reading.role_iri id)) iri refl (same_Some _ _ (sym (ap Some (cond-false (is_metadata S (S.reading.iri id)) (name_as kinds.AnnotationProperty (S.reading.iri id)) (name_as kinds.Role (S.reading.role_iri id)) isnt)) ∙ is))))
      (cases_Bool (is_metadata S (S.reading.iri id)))
    where
      other_kind : (n : Name) (iri : List ℕ) → Rattle.obo_mapping.specs.Axioms.same_kind n.kind kinds.AnnotationProperty ≡ false → n ≡ name_as kinds.AnnotationProperty iri → ⊥
      other_kind n iri no_kind same = let h : true ≡ false = sym (ap (λ (m : Name). Rattle.obo_mapping.specs.Axioms.same_kind m.kind kinds.AnnotationProperty) same) ∙ no_kind in absurd (cc)

  pub metadata_known : (iri : List ℕ) → In (name_as kinds.AnnotationProperty iri) (filter_map declared_in (owl d)) → is_metadata S iri ≡ true
  metadata_known iri here = let f = declared_from (name_as kinds.AnnotationProperty iri) here in kind_of_entity f.0.frame f.0.id iri f.2

  -- and no relation is one
  pub role_is_none : (iri : List ℕ) → In (name_as kinds.Role iri) (filter_map declared_in (owl d)) → is_metadata S iri ≡ false
  unfolding situation_of
  role_is_none iri here = let f = declared_from (name_as kinds.Role iri) here in by_kind f.0.frame f.0.id f.2
    where
      by_kind : (kind : FrameKind) (id : List ℕ) → entity_of S kind id ≡ Some (name_as kinds.Role iri) → is_metadata S iri ≡ false
      by_kind Header id is = absurd (none-some _ is)
      by_kind Term id is = let h : false ≡ true = ap is_role (same_Some _ _ is) in absurd (cc)
      by_kind Instance id is = let h : false ≡ true = ap is_role (same_Some _ _ is) in absurd (cc)
      by_kind Typedef id is =
          ⊎_elim
          (λ yes. let h : false ≡ true = ap is_role (same_Some _ _ (sym (ap Some (cond-true (is_metadata S (S.reading.iri id)) (name_as kinds.AnnotationProperty (S.reading.iri id)) (name_as kinds.Role (S.reading.role_iri id)) yes)) ∙ is)) in absurd (cc))
          (λ isnt.
          let same = same_Some _ _ (sym (ap Some (cond-false (is_metadata S (S.reading.iri id)) (name_as kinds.AnnotationProperty (S.reading.iri id)) (name_as kinds.Role (S.reading.role_iri id)) isnt)) ∙ is) in
          ap (is_metadata S) (sym (ap (λ (n : Name). n.iri) same)) ∙ isnt)
          (cases_Bool (is_metadata S (S.reading.iri id)))
