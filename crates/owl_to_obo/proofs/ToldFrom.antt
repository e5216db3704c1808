-- Where no frame would have two values, no name stands for two and no class has two groups of one kind.
use Rattle.std.proofs.Common.{◌≡◌, ◌<◌, ◌&&◌, ◌++◌, ℕ, Bool, true, false, not, List, [], ◌∷◌, All, Option, None, Some, codes, filter, is_some, length, map, inl, inr, ⊎_elim, refl, sym, ap, subst, ◌∙◌, arith, eq-eqb, if◌then◌else◌}
use Rattle.std.specs.BTreeSet.{insert_key}
use Rattle.std.specs.List.{filter_map, join_by, list_any}
use Rattle.std.specs.Option.{option_and_then, option_map, option_or, option_to_list}
use Rattle.std.specs.Ordering.{match_ordering}
use Rattle.std.specs.Str.{bytes_eq}
use Rattle.std.specs.declared.cmp.Ordering.{Ordering}
use Rattle.std.specs.declared.cmp.Ordering.TheVariants.{Equal, Greater, Less}
use Rattle.std.proofs.lemmas.Bool.{both_ways, cases_Bool, cond-true, false_from_ne_true}
use Rattle.std.proofs.lemmas.Option.{none-some, same_Some}
use Rattle.iri_map.specs.Candidate.{id_of}
use Rattle.iri_map.specs.Ontology.{name_or_temp}
use Rattle.iri_map.proofs.CandidateLemmas.{bytes_eq-refl}
use Rattle.text_sets.specs.Sets.{In}
use Rattle.text_sets.specs.Sorted.{by_key, sorted_on, texts_cmp}
use Rattle.text_sets.proofs.KeyLemmas.{sorted_on-only}
use Rattle.text_sets.proofs.PartLemmas.{option_cases}
use Rattle.text_sets.proofs.SetLemmas.{In-append_left, In-append_right, In-filter, In-filter_map, In-flat_map, In-from_filter, In-from_filter_map, In-from_map, same_refl}
use Rattle.text_sets.proofs.SortedLemmas.{texts_order}
use Rattle.obo_tags.specs.Tags as tags
use Rattle.obo_clause.specs.declared.clause.Clause.{Clause}
use Rattle.owl_axioms.specs.declared.body.Axiom.{Axiom}
use Rattle.owl_axioms.specs.declared.body.Body.{Body}
use Rattle.owl_axioms.specs.declared.body.Body.TheVariants as body
use Rattle.owl_axioms.specs.declared.name.Kind.TheVariants as kinds
use Rattle.owl_axioms.specs.declared.name.Name.{Name}
use Rattle.owl_ontology.specs.Ontology.{Entry, axioms_of}
use Rattle.obo_notes.specs.Context.{Writing, reading_in, writing_in}
use Rattle.obo_notes.specs.Forms.{first_part}
use Rattle.obo_statements.specs.Groups.{Group, group_spelling, group_tag, intersection, union}
use Rattle.obo_mapping.specs.Axioms.{frame_id, frame_kind, name_as}
use Rattle.obo_mapping.specs.Back.{IsSpellable, IsTold, writing_of}
use Rattle.obo_mapping.specs.Documents.{clauses_for, declared_in}
use Rattle.obo_mapping.specs.TwoValues.{Given, clash, given, given_key, group_given, kind_given, least_given, rank, two_given, two_values}
use Rattle.obo_mapping.proofs.OfSet.{any_from_in, in_from_any}
use Rattle.obo_mapping.proofs.SpelledLaw.{declared_name}
use Rattle.std.specs.Option.{IsSome}
use Rattle.std.proofs.lemmas.Bool.{cond-false}
use Rattle.text_sets.specs.Parts.{each_some, first_some}
use Rattle.text_sets.specs.Sorted.{sorted_by}
use Rattle.text_sets.proofs.PartLemmas.{option_and_then_some}
use Rattle.obo_tags.specs.Table.{shape_of, tags_of}
use Rattle.obo_tags.specs.declared.kind.FrameKind.TheVariants.{Term}
use Rattle.obo_tags.specs.declared.kind.ValueShape.{ValueShape}
use Rattle.obo_tags.specs.declared.kind.ValueShape.TheVariants as shapes
use Rattle.obo_clause.specs.Fits.{FitBehind, FitsQualifier, FitsShape}
use Rattle.obo_clause.specs.Spelling.{shape_at}
use Rattle.obo_clause.specs.declared.clause.Qualifier.{Qualifier}
use Rattle.obo_clause.specs.declared.clause.Value.{Value}
use Rattle.obo_clause.specs.declared.clause.Value.TheVariants as value
use Rattle.clause_printer.specs.Printing.{value_text}
use Rattle.owl_axioms.specs.Vocabulary.{owl_nothing, owl_thing}
use Rattle.owl_axioms.specs.declared.annotation.Side.{Side}
use Rattle.owl_axioms.specs.declared.expr.ClassExpr.{ClassExpr}
use Rattle.owl_axioms.specs.declared.expr.ClassExpr.TheVariants as expr
use Rattle.owl_axioms.specs.declared.expr.ClassExpr.TheViews.{roll-ClassExpr}
use Rattle.owl_ontology.specs.declared.origin.Origin.{Origin}
use Rattle.obo_frames.specs.Framed.{framed}
use Rattle.obo_notes.specs.Notes.{qualifiers_of}
use Rattle.obo_notes.proofs.ContextLemmas.{Agree-in}
use Rattle.obo_notes.proofs.Guards.{same_bytes, where_true_some}
use Rattle.obo_statements.specs.Anchors.{anchors, class_anchor, class_entity}
use Rattle.owl_axioms.specs.Classes.{class_named}
use Rattle.obo_statements.specs.Classes.{is_class}
use Rattle.obo_statements.specs.Groups.{group_expr, group_meaning, group_operands, operand_value, other_expr}
use Rattle.obo_statements.specs.inner.PlainGroups.{plain_clauses_with, plain_group_clauses, plain_group_in_body}
use Rattle.obo_statements.proofs.PlainGroups.{group_is_spelled_plainly}
use Rattle.obo_statements.specs.Statements.{statement_spelling}
use Rattle.obo_statements.proofs.GroupLaws.{whole_of}
use Rattle.obo_statements.proofs.GroupsBack.{group_equates, group_reads_back}
use Rattle.obo_statements.proofs.SpelledFits.{spelled_group_fits}
use Rattle.obo_statements.proofs.StatementLaws.{is_class-back}
use Rattle.obo_mapping.specs.Axioms.{Home, at_home, axiom_spelled, declaring, home_of}
use Rattle.obo_mapping.specs.TwoValues.{printed}
use Rattle.obo_mapping.proofs.BackLaw.{sides_rise}
use Rattle.obo_mapping.proofs.SinglesLaw.{home_is}
use Rattle.obo_mapping.proofs.SpelledShapes.{group_clause}
use Rattle.obo_spelling.specs.inner.Clauses.{declared_by}
use Rattle.obo_spelling.proofs.ClauseLemmas.{said_declaration}
use Rattle.obo_spelling.proofs.HomeLemmas.{frame_id_is}
use Rattle.owl_to_obo.proofs.JoinedValues.{IsOfGroup, joined_tell}
use Rattle.owl_to_obo.specs.inner.Collected.{all_given, given_by}
use Rattle.owl_to_obo.proofs.CollectLemmas.{metadata_given, role_given}
use Rattle.owl_to_obo.proofs.SameDeclared.{declared_same}
use Rattle.owl_to_obo.proofs.ToldLemmas.{frame_of_is}

-- ---- nothing clashes where nothing is found

first_of : (xs : List Given) (x : Given) → In x xs → (f : Given) × (first_part xs ≡ Some f)
first_of [] x here = absurd here
first_of (y ∷ ys) x here = (y, refl)

inserted : (S : List Given) (x : Given) → (f : Given) × In f (insert_key (by_key texts_cmp given_key) S x)
inserted [] x = (x, inl refl)
inserted (y ∷ ys) x = by_order (by_key texts_cmp given_key x y)
  where
    by_order : (o : Ordering) → (f : Given) × In f (match_ordering o (x ∷ y ∷ ys) (y ∷ ys) (y ∷ insert_key (by_key texts_cmp given_key) ys x))
    by_order Less = (x, inl refl)
    by_order Equal = (y, inl refl)
    by_order Greater = (y, inl refl)

least_of_some : (xs : List Given) (x : Given) → In x xs → (f : Given) × (least_given xs ≡ Some f) × In f xs
unfolding sorted_on
least_of_some [] x here = absurd here
least_of_some (y ∷ ys) x here =
    let some = inserted (sorted_on texts_cmp given_key ys) y in
    let first = first_of (sorted_on texts_cmp given_key (y ∷ ys)) some.0 some.1 in
    (first.0, first.1, sorted_on-only texts_cmp texts_order given_key (y ∷ ys) first.0 (first_in (sorted_on texts_cmp given_key (y ∷ ys)) first.0 first.1))
  where
    first_in : (xs : List Given) (f : Given) → first_part xs ≡ Some f → In f xs
    first_in [] f is = absurd (none-some f is)
    first_in (z ∷ zs) f is = inl (same_Some z f is)

pub none_clash : (all : List Given) → two_given all ≡ None → (x y : Given) → In x all → In y all → clash x y ≡ false
none_clash all none x y here there =
    false_from_ne_true (clash x y) (λ is.
    let tests = λ (one : Given). list_any (clash one) all in
    let first = least_of_some (filter tests all) x (In-filter tests x all here (any_from_in (clash x) all y there is)) in
    let found = in_from_any (clash first.0) all (In-from_filter tests first.0 all first.2).1 in
    let second = least_of_some (filter (clash first.0) all) found.0 (In-filter (clash first.0) found.0 all found.1 found.2) in
    none-some (record { first = first.0; second = second.0 }) (sym none ∙ (λ i. option_and_then (λ one. option_map (λ other. record { first = one; second = other }) (least_given (filter (clash one) all))) (first.1 i)) ∙ (λ i. option_map (λ other. record { first = first.0; second = other }) (second.1 i))))

-- ---- one class of a group

class_alone : (x : List ℕ) → class_anchor (class_named x) ≡ class_entity x ∷ []
unfolding class_named
class_alone x =
    elim (bytes_eq x owl_thing) as (λ b. bytes_eq x owl_thing ≡ b → class_anchor (if b then expr.Thing else (if bytes_eq x owl_nothing then expr.Nothing else expr.Class x)) ≡ class_entity x ∷ []) [
      | true ↦ λ same. ap (λ iri. class_entity iri ∷ []) (sym (same_bytes x owl_thing same))
      | false ↦ λ _.
          elim (bytes_eq x owl_nothing) as (λ b. bytes_eq x owl_nothing ≡ b → class_anchor (if b then expr.Nothing else expr.Class x) ≡ class_entity x ∷ []) [
            | true ↦ λ same. ap (λ iri. class_entity iri ∷ []) (sym (same_bytes x owl_nothing same))
            | false ↦ λ _. refl
          ] refl
    ] refl

no_anchor : (group : Group) (operands : List ClassExpr) → class_anchor (group_expr group operands) ≡ []
unfolding roll-ClassExpr denote.Hole.Carrier.roll
no_anchor intersection operands = refl
no_anchor union operands = refl

-- the anchor of an axiom that is a group of the class
anchored : (writing : Writing) (x : List ℕ) (group : Group) (c d : ClassExpr) (sides : List Side) (clauses : List Clause) → plain_group_in_body writing x group sides (body.Equiv c d) ≡ Some clauses → (n : Name) → In n (class_anchor c ++ class_anchor d) → n ≡ class_entity x
anchored writing x group c d sides clauses is n here =
    let qs = option_and_then_some (λ qualifiers. option_and_then (plain_clauses_with writing group qualifiers) (other_expr x c d)) (qualifiers_of sides) clauses is in
    let whole = option_and_then_some (plain_clauses_with writing group qs.0) (other_expr x c d) clauses qs.2 in
    let operands = option_and_then_some (λ operands. option_map (λ values. plain_group_clauses group qs.0 (sorted_by value_text values)) (each_some (operand_value writing group) operands)) (group_operands group whole.0) clauses whole.2 in
    let none : class_anchor whole.0 ≡ [] = ap class_anchor (sym (whole_of group whole.0 operands.0 operands.1)) ∙ no_anchor group operands.0 in
    ⊎_elim
    (λ first.
    let other = same_Some d whole.0 (sym (cond-true _ _ _ first) ∙ whole.1) in
    let anchors_are : class_anchor c ++ class_anchor d ≡ class_entity x ∷ [] = (λ i. (ap class_anchor (sym (is_class-back x c first)) ∙ class_alone x) i ++ (ap class_anchor other ∙ none) i) in
    only n (subst (In n) anchors_are here))
    (λ later.
    let second = where_true_some (is_class x d) (Some c) whole.0 (sym (cond-false _ _ _ later) ∙ whole.1) in
    let other = same_Some c whole.0 second.1 in
    let anchors_are : class_anchor c ++ class_anchor d ≡ class_entity x ∷ [] = (λ i. (ap class_anchor other ∙ none) i ++ (ap class_anchor (sym (is_class-back x d second.0)) ∙ class_alone x) i) in
    only n (subst (In n) anchors_are here))
    (cases_Bool (is_class x c))
  where
    only : (n : Name) → In n (class_entity x ∷ []) → n ≡ class_entity x
    only n (inl same) = sym same
    only n (inr none) = absurd none

-- ---- values of groups

group_shape : Group → ValueShape
group_shape intersection = shapes.IdOrPair
group_shape union = shapes.Id

operand_shape : (group : Group) → shape_at Term false (group_tag group) ≡ group_shape group
unfolding tags_of shape_of group_shape
operand_shape intersection = refl
operand_shape union = refl

wider : (group : Group) (v : Value) → FitsShape (group_shape group) v → FitsShape shapes.IdOrPair v
unfolding group_shape
wider intersection v fits = fits
wider union (value.Id word) fits = fits
wider union _ fits = absurd fits

all_behind : (group : Group) (qs : List Qualifier) → FitBehind (group_shape group) qs → All FitsQualifier qs
unfolding group_shape
all_behind intersection qs all = all
all_behind union qs all = all

-- ---- what a Typedef stands for

kinds_clash : (id iri : List ℕ) (one other : Origin)
    → clash (record { frame = frame_kind kinds.Role; id = id; iri = iri; tag = tags.is_metadata_tag; text = codes "false"; origin = one }) (record { frame = frame_kind kinds.AnnotationProperty; id = id; iri = iri; tag = tags.is_metadata_tag; text = codes "true"; origin = other }) ≡ true
kinds_clash id iri one other = λ i. bytes_eq-refl id i && true && true

-- ---- an ontology whose axioms have forms

module _ (name : Option (List ℕ)) (check : Bool) (entries : List Entry) (is : IsSpellable name (axioms_of entries)) (none : two_values name check entries ≡ None) where
  abbrev space : List ℕ
  space = name_or_temp name

  abbrev w : Writing
  w = writing_in space

  abbrev declared : List Name
  declared = filter_map (λ (e : Entry). declared_in e.«axiom») entries

  abbrev all : List Given
  all = all_given w declared check entries

  apart : (x y : Given) → In x all → In y all → clash x y ≡ false
  unfolding two_values
  apart x y here there = none_clash all none x y here there

  in_all : (e : Entry) (g : Given) → In e entries → In g (given_by w declared check e) → In g all
  in_all e g among gives = In-flat_map (given_by w declared check) g entries e among gives

  entry_of_axiom : (one : Axiom) → In one (axioms_of entries) → (e : Entry) × In e entries × (e.«axiom» ≡ one)
  entry_of_axiom one here = In-from_map (λ (e : Entry). e.«axiom») one entries here

  -- a declared entity has an id
  declared_id : (one : Axiom) (entity : Name) → In one (axioms_of entries) → one.body ≡ body.Declaration entity → (id : List ℕ) × (id_of entity.iri space ≡ Some id)
  declared_id one entity here says =
      let formed = subst IsSome (said_declaration w (filter_map declared_in (axioms_of entries)) one entity says) (is.formed one here) in
      let id = by_sides one.sides formed in
      (id.0, sym (frame_id_is space entity) ∙ id.1)
    where
      by_sides : (sides : List Side) → IsSome (declared_by w entity sides) → (id : List ℕ) × (frame_id w entity ≡ Some id)
      by_sides [] some = by_id (frame_id w entity) refl some
        where
          by_id : (o : Option (List ℕ)) → frame_id w entity ≡ o → IsSome (option_map (declaring entity) o) → (id : List ℕ) × (frame_id w entity ≡ Some id)
          by_id None same some = let h : false ≡ true = some in absurd (cc)
          by_id (Some id) same some = (id, same)
      by_sides (side ∷ sides) some = let h : false ≡ true = some in absurd (cc)

  given_is : (entity : Name) (tag text : List ℕ) (origin : Origin) (id : List ℕ) → id_of entity.iri space ≡ Some id
      → given w declared entity tag text origin ≡ Some (record { frame = frame_kind entity.kind; id = id; iri = entity.iri; tag = tag; text = text; origin = origin })
  given_is entity tag text origin id has = ap (option_map (λ (i : List ℕ). let g : Given = record { frame = frame_kind entity.kind; id = i; iri = entity.iri; tag = tag; text = text; origin = origin } in g)) (frame_of_is space declared entity ∙ has)

  kind_in : (e : Entry) (g : Given) → In e entries → kind_given w declared e ≡ Some g → In g all
  kind_in e g among gives =
      in_all e g among (In-append_right g _ _ (In-append_right g (filter_map (group_given w declared e) (intersection ∷ union ∷ [])) (option_to_list (kind_given w declared e)) (subst (λ o. In g (option_to_list o)) (sym gives) (inl refl))))

  no_two_kinds : (iri : List ℕ) → In (name_as kinds.Role iri) (filter_map declared_in (axioms_of entries)) → In (name_as kinds.AnnotationProperty iri) (filter_map declared_in (axioms_of entries)) → ⊥
  no_two_kinds iri here there =
      let role = name_as kinds.Role iri in
      let metadata = name_as kinds.AnnotationProperty iri in
      let a = In-from_filter_map declared_in role (axioms_of entries) here in
      let b = In-from_filter_map declared_in metadata (axioms_of entries) there in
      let e = entry_of_axiom a.0 a.1 in
      let f = entry_of_axiom b.0 b.1 in
      let own = declared_name a.0 role a.2 in
      let other = declared_name b.0 metadata b.2 in
      let id = declared_id a.0 role a.1 own in
      let g : Given = record { frame = frame_kind kinds.Role; id = id.0; iri = iri; tag = tags.is_metadata_tag; text = codes "false"; origin = e.0.origin } in
      let h : Given = record { frame = frame_kind kinds.AnnotationProperty; id = id.0; iri = iri; tag = tags.is_metadata_tag; text = codes "true"; origin = f.0.origin } in
      let g_in = kind_in e.0 g e.1 (role_given w declared e.0.origin e.0.«axiom» role (ap (λ (one : Axiom). one.body) e.2 ∙ own) refl ∙ given_is role tags.is_metadata_tag (codes "false") e.0.origin id.0 id.1) in
      let h_in = kind_in f.0 h f.1 (metadata_given w declared f.0.origin f.0.«axiom» metadata (ap (λ (one : Axiom). one.body) f.2 ∙ other) refl ∙ given_is metadata tags.is_metadata_tag (codes "true") f.0.origin id.0 id.1) in
      both_ways (clash g h) (apart g h g_in h_in) (kinds_clash id.0 iri e.0.origin f.0.origin)

  -- the class of a group has a frame
  class_home : (x : List ℕ) (group : Group) (c d : ClassExpr) (sides : List Side) (clauses : List Clause) → let one : Axiom = record { body = body.Equiv c d; sides = sides } in
      IsSome (clauses_for w declared one) → plain_group_in_body w x group sides (body.Equiv c d) ≡ Some clauses → (home : Home) × (home_of w declared (body.Equiv c d) ≡ Some home) × (home.entity ≡ class_entity x) × (id_of x space ≡ Some home.id)
  unfolding clauses_for axiom_spelled anchors
  class_home x group c d sides clauses formed spelled =
      ⊎_elim
      (λ missing. let h : false ≡ true = sym (ap is_some (no_form missing)) ∙ formed in absurd (cc))
      (λ home.
      let at = home_is w declared (body.Equiv c d) home.0 home.1 in
      let entity = anchored w x group c d sides clauses spelled home.0.entity at.among in
      (home.0, home.1, entity, sym (ap (λ (n : Name). id_of n.iri space) entity) ∙ sym (frame_id_is space home.0.entity) ∙ at.id))
      (option_cases (home_of w declared (body.Equiv c d)))
    where
      no_form : home_of w declared (body.Equiv c d) ≡ None → clauses_for w declared (record { body = body.Equiv c d; sides = sides }) ≡ None
      no_form missing = λ i. option_or (option_and_then (λ (home : Home). option_map (at_home home) (statement_spelling w (frame_kind home.entity.kind) home.entity.iri (record { body = body.Equiv c d; sides = sides }))) (missing i)) (first_some (λ (g : Group). option_and_then (λ (home : Home). option_map (map (framed Term home.id)) (group_spelling w home.entity.iri g (record { body = body.Equiv c d; sides = sides }))) (missing i)) (intersection ∷ union ∷ []))

  record HasGroup (x : List ℕ) (group : Group) (one : Axiom) (clauses : List Clause) : Type 0 where
    given_one : Given
    among : In given_one all
    frame : rank given_one.frame ≡ 1
    id : id_of x space ≡ Some given_one.id
    tag : given_one.tag ≡ group_tag group
    text : given_one.text ≡ join_by printed (codes ", ") clauses

  has_group : (x : List ℕ) (group : Group) (one : Axiom) (clauses : List Clause) → In one (axioms_of entries) → group_spelling w x group one ≡ Some clauses → HasGroup x group one clauses
  has_group x group one clauses here spelled =
      let equates = group_equates w x group one clauses spelled in
      let e = entry_of_axiom one here in
      let formed : IsSome (clauses_for w declared one) = (let same = declared_same entries in subst (λ names. IsSome (clauses_for w names one)) same (is.formed one here)) in
      let home = class_home x group equates.0 equates.1 one.sides clauses
      (subst (λ (said : Body). IsSome (clauses_for w declared (record { body = said; sides = one.sides }))) equates.2 formed)
      (subst (λ (said : Body). plain_group_in_body w x group one.sides said ≡ Some clauses) equates.2 (sym (group_is_spelled_plainly w x group one) ∙ spelled)) in
      let g : Given = record { frame = Term; id = home.0.id; iri = x; tag = group_tag group; text = join_by printed (codes ", ") clauses; origin = e.0.origin } in
      let at : home_of w declared e.0.«axiom».body ≡ Some home.0 = ap (λ (a : Axiom). home_of w declared a.body) e.2 ∙ ap (home_of w declared) equates.2 ∙ home.1 in
      let gives : group_given w declared e.0 group ≡ Some g =
      (λ i. option_and_then (λ (h : Home). option_and_then (λ cs. given w declared h.entity (group_tag group) (join_by printed (codes ", ") cs) e.0.origin) (group_spelling w h.entity.iri group (e.2 i))) (at i))
      ∙ (let to = home.2 in λ i. option_and_then (λ cs. given w declared (to i) (group_tag group) (join_by printed (codes ", ") cs) e.0.origin) (group_spelling w (to i).iri group one))
      ∙ ap (option_and_then (λ cs. given w declared (class_entity x) (group_tag group) (join_by printed (codes ", ") cs) e.0.origin)) spelled
      ∙ given_is (class_entity x) (group_tag group) (join_by printed (codes ", ") clauses) e.0.origin home.0.id home.3 in
      record {
        given_one = g;
        among = in_all e.0 g e.1 (In-append_right g _ _ (In-append_left g (filter_map (group_given w declared e.0) (intersection ∷ union ∷ [])) (option_to_list (kind_given w declared e.0)) (In-filter_map (group_given w declared e.0) g (intersection ∷ union ∷ []) group (of_two group) gives)));
        frame = refl;
        id = home.3;
        tag = refl;
        text = refl;
      }
    where
      of_two : (group : Group) → In group (intersection ∷ union ∷ [])
      of_two intersection = inl refl
      of_two union = inr (inl refl)

  of_group : (x : List ℕ) (group : Group) (one : Axiom) (clauses : List Clause) → group_spelling w x group one ≡ Some clauses → (c : Clause) → In c clauses → IsOfGroup (group_tag group) c
  of_group x group one clauses spelled c here =
      let fits = spelled_group_fits (reading_in space) w (Agree-in space) x group one clauses spelled c here in
      let tag = (group_clause w x group one clauses spelled c here).tag in
      let shape = ap (shape_at Term false) tag ∙ operand_shape group in
      record {
        operand = record { value = wider group c.value (subst (λ s. FitsShape s c.value) shape fits.value); qualifiers = all_behind group c.qualifiers (subst (λ s. FitBehind s c.qualifiers) shape fits.qualifiers) };
        fits = fits;
        tagged = tag;
      }

  no_two_groups : (x : List ℕ) (group : Group) (one other : Axiom) (some others : List Clause) → In one (axioms_of entries) → In other (axioms_of entries) → group_spelling w x group one ≡ Some some → group_spelling w x group other ≡ Some others → one ≡ other
  no_two_groups x group one other some others here there spelled also =
      let g = has_group x group one some here spelled in
      let h = has_group x group other others there also in
      let proper = sides_rise one (is.proper one here) in
      let too = sides_rise other (is.proper other there) in
      let back = group_reads_back (reading_in space) w (Agree-in space) group x one some some proper.0 proper.1 spelled (same_refl some) in
      let more = group_reads_back (reading_in space) w (Agree-in space) group x other others others too.0 too.1 also (same_refl others) in
      let ids = same_Some g.given_one.id h.given_one.id (sym g.id ∙ h.id) in
      let texts : g.given_one.text ≡ h.given_one.text = ⊎_elim (λ isit. same_bytes g.given_one.text h.given_one.text isit)
      (λ isnt. absurd (both_ways (clash g.given_one h.given_one) (apart g.given_one h.given_one g.among h.among)
      (λ i. eq-eqb (rank g.given_one.frame) (rank h.given_one.frame) (g.frame ∙ sym h.frame) i && ((λ j. bytes_eq g.given_one.id (sym ids j)) ∙ bytes_eq-refl g.given_one.id) i
      && ((λ j. bytes_eq g.given_one.tag ((h.tag ∙ sym g.tag) j)) ∙ bytes_eq-refl g.given_one.tag) i && not (isnt i))))
      (cases_Bool (bytes_eq g.given_one.text h.given_one.text)) in
      let same = joined_tell (group_tag group) some others (of_group x group one some spelled) (of_group x group other others also) (some_length some back.1.0 back.1.1) (some_length others more.1.0 more.1.1) (sym g.text ∙ texts ∙ h.text) in
      same_Some one other (sym back.0 ∙ ap (group_meaning (reading_in space) x group) same ∙ more.0)
    where
      some_length : (cs : List Clause) (c : Clause) → In c cs → 0 < length cs
      some_length [] c here = absurd here
      some_length (d ∷ cs) c here = omega arith

  pub is_told : IsTold (writing_of name) (axioms_of entries)
  is_told = record { names = no_two_kinds; groups = no_two_groups }
