-- Whether an axiom has clauses, said without the order of ids: some declared anchor has an id, and states the axiom. Then
-- every declared anchor with an id states it.
use Rattle.std.proofs.Common.{◌≡◌, ◌⊎◌, ℕ, true, false, if◌then◌else◌, List, [], ◌∷◌, ◌++◌, Option, None, Some, inl, inr, ⊎_elim, refl, sym, ap, subst, ◌∙◌}
use Rattle.std.specs.BTreeSet.{insert_key}
use Rattle.std.specs.Ordering.{match_ordering}
use Rattle.std.specs.Option.{IsSome, option_and_then, option_map}
use Rattle.std.specs.Str.{bytes_eq}
use Rattle.std.specs.declared.cmp.Ordering.TheVariants.{Equal, Greater, Less}
use Rattle.std.proofs.lemmas.Bool.{cases_Bool, cond-false, cond-true}
use Rattle.std.proofs.lemmas.Option.{same_Some}
use Rattle.iri_map.proofs.CandidateLemmas.{bytes_eq-refl}
use Rattle.obo_tags.specs.declared.kind.FrameKind.TheVariants.{Term, Typedef}
use Rattle.obo_clause.specs.declared.clause.Clause.{Clause}
use Rattle.obo_clause.specs.declared.clause.Value.{Value}
use Rattle.owl_axioms.specs.Vocabulary.{owl_nothing, owl_thing}
use Rattle.owl_axioms.specs.Proper.{is_class_iri}
use Rattle.owl_axioms.specs.declared.body.Axiom.{Axiom}
use Rattle.owl_axioms.specs.declared.body.Body.{Body}
use Rattle.owl_axioms.specs.declared.body.Body.TheVariants as body
use Rattle.owl_axioms.specs.declared.expr.ClassExpr.{ClassExpr}
use Rattle.owl_axioms.specs.declared.expr.ClassExpr.TheVariants as expr
use Rattle.owl_axioms.specs.declared.expr.ClassExpr.TheViews.{roll-ClassExpr}
use Rattle.owl_axioms.specs.declared.name.Name.{Name}
use Rattle.text_sets.specs.Parts.{first_some}
use Rattle.text_sets.specs.Sets.{In}
use Rattle.text_sets.specs.Sorted.{by_text, sorted_by, sorted_on}
use Rattle.text_sets.proofs.PartLemmas.{first_some-found, first_some-some, option_and_then_some, option_map_some, some_value}
use Rattle.text_sets.proofs.SetLemmas.{In-append}
use Rattle.obo_notes.specs.Context.{Writing}
use Rattle.obo_notes.specs.Forms.{first_part}
use Rattle.obo_notes.specs.Notes.{qualifiers_of}
use Rattle.obo_notes.proofs.Guards.{same_bytes, where_true_some}
use Rattle.obo_statements.specs.Anchors.{anchors, class_anchor, class_entity, individual_entity, role_entity}
use Rattle.obo_statements.specs.Classes.{as_id, class_iri, is_class}
use Rattle.obo_statements.specs.Extras.{Worded, qualifiers_with}
use Rattle.obo_statements.specs.Groups.{Group, group_expr, group_operands, group_spelling, intersection, other_expr, union}
use Rattle.obo_statements.specs.inner.PlainGroups.{plain_clauses_with, plain_group_in_body}
use Rattle.obo_statements.proofs.PlainGroups.{group_is_spelled_plainly}
use Rattle.obo_statements.specs.Statements.{StatementRow, statement_by, statement_spelling, statements_of}
use Rattle.obo_statements.specs.Values.{Character, Statement, asymmetric, disjoint_class, disjoint_role, functional, has_character, inverse_functional, inverse_role, other_class, other_of, reflexive, same_class, same_role, symmetric, transitive, value_plainly, value_stating}
use Rattle.obo_statements.proofs.GroupLaws.{whole_of}
use Rattle.obo_mapping.specs.Axioms.{frame_id, frame_kind}
use Rattle.spelling_laws.proofs.Matching.{map_some}

-- ---- the least of some is there

insert_some : {X : Type 0} (text : X → List ℕ) (ys : List X) (x : X) → IsSome (first_part (insert_key (by_text text) ys x))
insert_some text [] x = refl
insert_some text (y ∷ ys) x =
    elim (by_text text x y) as (λ o. IsSome (first_part (match_ordering o (x ∷ y ∷ ys) (y ∷ ys) (y ∷ insert_key (by_text text) ys x)))) [
      | Less ↦ refl
      | Equal ↦ refl
      | Greater ↦ refl
    ]

pub sorted_some : {X : Type 0} (text : X → List ℕ) (xs : List X) (x : X) → In x xs → IsSome (first_part (sorted_by text xs))
unfolding sorted_on
sorted_some text [] x here = absurd here
sorted_some text (y ∷ xs) x here = insert_some text (sorted_by text xs) y

-- ---- the other one of two

-- both have ids
abbrev BothSome : (List ℕ → Option (List ℕ)) → List ℕ → List ℕ → Type 0
BothSome id p q = IsSome (id p) × IsSome (id q)

abbrev other_id : (List ℕ → Option (List ℕ)) → List ℕ → List ℕ → List ℕ → Option Value
other_id id x p q = option_and_then (λ one. as_id (id one)) (other_of x p q)

pub as_id_some : (o : Option (List ℕ)) → IsSome (as_id o) → IsSome o
as_id_some None some = some
as_id_some (Some id) some = refl

pub some_as_id : (o : Option (List ℕ)) → IsSome o → IsSome (as_id o)
some_as_id None some = some
some_as_id (Some id) some = refl

module _ (id : List ℕ → Option (List ℕ)) (p q : List ℕ) where
  abbrev read : Option (List ℕ) → Option Value
  read o = option_and_then (λ one. as_id (id one)) o

  pub ids_of_both : (x : List ℕ) → IsSome (id x) → IsSome (other_id id x p q) → BothSome id p q
  ids_of_both x has some =
      ⊎_elim
      (λ yes. (subst (λ i. IsSome (id i)) (same_bytes x p yes) has, as_id_some (id q) (subst (λ o. IsSome (read o)) (cond-true _ (Some q) _ yes) some)))
      (λ isnt.
      let rest = subst (λ o. IsSome (read o)) (cond-false _ (Some q) (if bytes_eq x q then Some p else None) isnt) some in
      ⊎_elim
      (λ yes. (as_id_some (id p) (subst (λ o. IsSome (read o)) (cond-true _ (Some p) None yes) rest), subst (λ i. IsSome (id i)) (same_bytes x q yes) has))
      (λ never. let h : false ≡ true = subst (λ o. IsSome (read o)) (cond-false _ (Some p) None never) rest in absurd (cc))
      (cases_Bool (bytes_eq x q)))
      (cases_Bool (bytes_eq x p))

  id_of_other : (x : List ℕ) → BothSome id p q → (x ≡ p) ⊎ (x ≡ q) → IsSome (other_id id x p q)
  id_of_other x both is =
      ⊎_elim
      (λ yes. subst (λ o. IsSome (read o)) (sym (cond-true _ (Some q) (if bytes_eq x q then Some p else None) yes)) (some_as_id (id q) both.1))
      (λ isnt. subst (λ o. IsSome (read o)) (sym (cond-false _ (Some q) (if bytes_eq x q then Some p else None) isnt))
      (⊎_elim
      (λ first. let h : false ≡ true = sym isnt ∙ ap (λ y. bytes_eq y p) first ∙ bytes_eq-refl p in absurd (cc))
      (λ second. subst (λ o. IsSome (read o)) (sym (cond-true _ (Some p) None (ap (λ y. bytes_eq y q) second ∙ bytes_eq-refl q))) (some_as_id (id p) both.0))
      is))
      (cases_Bool (bytes_eq x p))

-- ---- anchors

only_one : {X : Type 0} (x y z : X) → In x (z ∷ []) → In y (z ∷ []) → x ≡ y
only_one x y z here there = ⊎_elim (λ a. ⊎_elim (λ b. sym a ∙ b) (λ none. absurd none) there) (λ none. absurd none) here

class_one : (c : ClassExpr) (x y : Name) → In x (class_anchor c) → In y (class_anchor c) → x ≡ y
class_one expr.Thing x y here there = only_one x y (class_entity owl_thing) here there
class_one expr.Nothing x y here there = only_one x y (class_entity owl_nothing) here there
class_one (expr.Class iri) x y here there = only_one x y (class_entity iri) here there
class_one _ x y here there = absurd here

-- the anchor of a class is the class
anchor_class : (c : ClassExpr) (iri : List ℕ) (x : Name) → class_iri c ≡ Some iri → In x (class_anchor c) → x ≡ class_entity iri
unfolding class_iri
anchor_class expr.Thing iri x is here = only_one x (class_entity owl_thing) (class_entity owl_thing) here (inl refl) ∙ ap class_entity (same_Some owl_thing iri is)
anchor_class expr.Nothing iri x is here = only_one x (class_entity owl_nothing) (class_entity owl_nothing) here (inl refl) ∙ ap class_entity (same_Some owl_nothing iri is)
anchor_class (expr.Class one) iri x is here =
    only_one x (class_entity one) (class_entity one) here (inl refl) ∙ ap class_entity (same_Some one iri (where_true_some (is_class_iri one) (Some one) iri is).1)
anchor_class _ iri x is here = absurd here

group_anchor : (g : Group) (ops : List ClassExpr) → class_anchor (group_expr g ops) ≡ []
unfolding roll-ClassExpr denote.Hole.Carrier.roll
group_anchor intersection ops = refl
group_anchor union ops = refl

whole_anchor : (g : Group) (whole : ClassExpr) (ops : List ClassExpr) → group_operands g whole ≡ Some ops → class_anchor whole ≡ []
whole_anchor g whole ops is = ap class_anchor (sym (whole_of g whole ops is)) ∙ group_anchor g ops

-- ---- one value, at another anchor

module _ (w : Writing) where
  role_moves : (x y : Name) (p q : List ℕ) → In x (role_entity p ∷ role_entity q ∷ []) → In y (role_entity p ∷ role_entity q ∷ []) → IsSome (frame_id w x)
      → IsSome (other_id w.role_id x.iri p q) → IsSome (other_id w.role_id y.iri p q)
  role_moves x y p q here there has some =
      id_of_other w.role_id p q y.iri (ids_of_both w.role_id p q x.iri (role_has x here has) some) (one_of y there)
    where
      one_of : (n : Name) → In n (role_entity p ∷ role_entity q ∷ []) → (n.iri ≡ p) ⊎ (n.iri ≡ q)
      one_of n among = ⊎_elim (λ a. inl (ap (λ (m : Name). m.iri) (sym a))) (λ more. ⊎_elim (λ b. inr (ap (λ (m : Name). m.iri) (sym b))) (λ none. absurd none) more) among

      role_has : (n : Name) → In n (role_entity p ∷ role_entity q ∷ []) → IsSome (frame_id w n) → IsSome (w.role_id n.iri)
      role_has n among has =
          ⊎_elim
          (λ a. subst (λ (m : Name). IsSome (w.role_id m.iri)) a (subst (λ (m : Name). IsSome (frame_id w m)) (sym a) has))
          (λ more. ⊎_elim (λ b. subst (λ (m : Name). IsSome (w.role_id m.iri)) b (subst (λ (m : Name). IsSome (frame_id w m)) (sym b) has)) (λ none. absurd none) more)
          among

  abbrev other_class_id : List ℕ → ClassExpr → ClassExpr → Option Value
  other_class_id x c d = option_and_then (λ one. as_id (w.id one)) (other_class x c d)

  class_moves : (x y : Name) (c d : ClassExpr) → In x (class_anchor c ++ class_anchor d) → In y (class_anchor c ++ class_anchor d) → IsSome (frame_id w x)
      → IsSome (other_class_id x.iri c d) → IsSome (other_class_id y.iri c d)
  class_moves x y c d here there has some =
      let v = some_value (other_class_id x.iri c d) some in
      let o = option_and_then_some (λ one. as_id (w.id one)) (other_class x.iri c d) v.0 v.1 in
      let p = option_and_then_some (λ one. option_and_then (λ two. other_of x.iri one two) (class_iri d)) (class_iri c) o.0 o.1 in
      let q = option_and_then_some (λ two. other_of x.iri p.0 two) (class_iri d) o.0 p.2 in
      let told : (i : List ℕ) → other_class i c d ≡ other_of i p.0 q.0 = λ i. (λ k. option_and_then (λ one. option_and_then (λ two. other_of i one two) (q.1 k)) (p.1 k)) in
      let at_x : IsSome (other_id w.id x.iri p.0 q.0) = subst (λ o. IsSome (option_and_then (λ one. as_id (w.id one)) o)) (told x.iri) some in
      let both = ids_of_both w.id p.0 q.0 x.iri (class_has p.0 q.0 x (one_of p.0 q.0 p.1 q.1 x here) has) at_x in
      subst (λ o. IsSome (option_and_then (λ one. as_id (w.id one)) o)) (sym (told y.iri))
      (id_of_other w.id p.0 q.0 y.iri both (⊎_elim (λ a. inl (ap (λ (m : Name). m.iri) a)) (λ b. inr (ap (λ (m : Name). m.iri) b)) (one_of p.0 q.0 p.1 q.1 y there)))
    where
      one_of : (p q : List ℕ) → class_iri c ≡ Some p → class_iri d ≡ Some q → (n : Name) → In n (class_anchor c ++ class_anchor d) → (n ≡ class_entity p) ⊎ (n ≡ class_entity q)
      one_of p q cp dq n among = ⊎_elim (λ a. inl (anchor_class c p n cp a)) (λ b. inr (anchor_class d q n dq b)) (In-append n (class_anchor c) (class_anchor d) among)

      class_has : (p q : List ℕ) (n : Name) → (n ≡ class_entity p) ⊎ (n ≡ class_entity q) → IsSome (frame_id w n) → IsSome (w.id n.iri)
      class_has p q n is has =
          ⊎_elim
          (λ a. subst (λ (m : Name). IsSome (w.id m.iri)) (sym a) (subst (λ (m : Name). IsSome (frame_id w m)) a has))
          (λ b. subst (λ (m : Name). IsSome (w.id m.iri)) (sym b) (subst (λ (m : Name). IsSome (frame_id w m)) b has))
          is

  abbrev Valued : Name → Statement → Body → Type 0
  Valued x s said = IsSome (value_plainly w x.iri s said)

  abbrev no_value : Option Value
  no_value = None

  never : {P : Type 0} → IsSome no_value → P
  never some = let h : false ≡ true = some in absurd (cc)

  -- a character is said of one
  abbrev HasTwo : Body → Type 0
  HasTwo (body.Sub c d) = Unit {0}
  HasTwo (body.Equiv c d) = Unit {0}
  HasTwo (body.Disjoint c d) = Unit {0}
  HasTwo (body.EquivRoles p q) = Unit {0}
  HasTwo (body.DisjointRoles p q) = Unit {0}
  HasTwo (body.Inverse p q) = Unit {0}
  HasTwo (body.Domain p c) = Unit {0}
  HasTwo (body.Range p c) = Unit {0}
  HasTwo (body.ClassAssertion c i) = Unit {0}
  HasTwo _ = ⊥

  pub character_never : {P : Type 0} (x : Name) (character : Character) (said : Body) → HasTwo said → Valued x (has_character character) said → P
  unfolding value_plainly
  character_never x transitive (body.Transitive p) two some = absurd two
  character_never x reflexive (body.Reflexive p) two some = absurd two
  character_never x symmetric (body.Symmetric p) two some = absurd two
  character_never x asymmetric (body.Asymmetric p) two some = absurd two
  character_never x functional (body.Functional p) two some = absurd two
  character_never x inverse_functional (body.InverseFunctional p) two some = absurd two
  character_never x _ _ two some = never some

  same_entity : (x y : Name) (s : Statement) (said : Body) → x ≡ y → Valued x s said → Valued y s said
  same_entity x y s said same some = subst (λ (n : Name). Valued n s said) same some

  -- whichever anchor states it, each with an id does
  value_moves : (x y : Name) (s : Statement) (said : Body) → In x (anchors said) → In y (anchors said) → IsSome (frame_id w x) → Valued x s said → Valued y s said
  unfolding value_plainly anchors
  value_moves x y s (body.Sub c d) here there has some = same_entity x y s (body.Sub c d) (class_one c x y here there) some
  value_moves x y same_class (body.Equiv c d) here there has some = class_moves x y c d here there has some
  value_moves x y (has_character character) (body.Equiv c d) here there has some = character_never x character (body.Equiv c d) tt some
  value_moves x y _ (body.Equiv c d) here there has some = never some
  value_moves x y disjoint_class (body.Disjoint c d) here there has some = class_moves x y c d here there has some
  value_moves x y (has_character character) (body.Disjoint c d) here there has some = character_never x character (body.Disjoint c d) tt some
  value_moves x y _ (body.Disjoint c d) here there has some = never some
  value_moves x y same_role (body.EquivRoles p q) here there has some = role_moves x y p q here there has some
  value_moves x y (has_character character) (body.EquivRoles p q) here there has some = character_never x character (body.EquivRoles p q) tt some
  value_moves x y _ (body.EquivRoles p q) here there has some = never some
  value_moves x y disjoint_role (body.DisjointRoles p q) here there has some = role_moves x y p q here there has some
  value_moves x y (has_character character) (body.DisjointRoles p q) here there has some = character_never x character (body.DisjointRoles p q) tt some
  value_moves x y _ (body.DisjointRoles p q) here there has some = never some
  value_moves x y inverse_role (body.Inverse p q) here there has some = role_moves x y p q here there has some
  value_moves x y (has_character character) (body.Inverse p q) here there has some = character_never x character (body.Inverse p q) tt some
  value_moves x y _ (body.Inverse p q) here there has some = never some
  value_moves x y s (body.SubRole p q) here there has some = same_entity x y s (body.SubRole p q) (only_one x y (role_entity p) here there) some
  value_moves x y s (body.Chain p q r) here there has some = same_entity x y s (body.Chain p q r) (only_one x y (role_entity r) here there) some
  value_moves x y s (body.Transitive p) here there has some = same_entity x y s (body.Transitive p) (only_one x y (role_entity p) here there) some
  value_moves x y s (body.Reflexive p) here there has some = same_entity x y s (body.Reflexive p) (only_one x y (role_entity p) here there) some
  value_moves x y s (body.Symmetric p) here there has some = same_entity x y s (body.Symmetric p) (only_one x y (role_entity p) here there) some
  value_moves x y s (body.Asymmetric p) here there has some = same_entity x y s (body.Asymmetric p) (only_one x y (role_entity p) here there) some
  value_moves x y s (body.Functional p) here there has some = same_entity x y s (body.Functional p) (only_one x y (role_entity p) here there) some
  value_moves x y s (body.InverseFunctional p) here there has some = same_entity x y s (body.InverseFunctional p) (only_one x y (role_entity p) here there) some
  value_moves x y s (body.Domain p c) here there has some = same_entity x y s (body.Domain p c) (only_one x y (role_entity p) here there) some
  value_moves x y s (body.Range p c) here there has some = same_entity x y s (body.Range p c) (only_one x y (role_entity p) here there) some
  value_moves x y s (body.ClassAssertion c i) here there has some = same_entity x y s (body.ClassAssertion c i) (only_one x y (individual_entity i) here there) some
  value_moves x y s (body.RoleAssertion p i j) here there has some = same_entity x y s (body.RoleAssertion p i j) (only_one x y (individual_entity i) here there) some
  value_moves x y s (body.Declaration name) here there has some = same_entity x y s (body.Declaration name) (only_one x y name here there) some
  value_moves x y s (body.Note subject property noted) here there has some = same_entity x y s (body.Note subject property noted) (only_one x y subject here there) some
  value_moves x y s (body.OntologyNote property noted) here there has some = absurd here

  -- the anchors of one axiom are of one kind
  abbrev SameFrames : Name → Name → Type 0
  SameFrames x y = frame_kind x.kind ≡ frame_kind y.kind

  class_frames : (c d : ClassExpr) (x : Name) → In x (class_anchor c ++ class_anchor d) → frame_kind x.kind ≡ Term
  class_frames c d x here = ⊎_elim (of c x) (of d x) (In-append x (class_anchor c) (class_anchor d) here)
    where
      is_term : (iri : List ℕ) (n : Name) → In n (class_entity iri ∷ []) → frame_kind n.kind ≡ Term
      is_term iri n among = ap (λ (m : Name). frame_kind m.kind) (only_one n (class_entity iri) (class_entity iri) among (inl refl))

      of : (e : ClassExpr) (n : Name) → In n (class_anchor e) → frame_kind n.kind ≡ Term
      of expr.Thing n among = is_term owl_thing n among
      of expr.Nothing n among = is_term owl_nothing n among
      of (expr.Class iri) n among = is_term iri n among
      of _ n among = absurd among

  role_frames : (p q : List ℕ) (x : Name) → In x (role_entity p ∷ role_entity q ∷ []) → frame_kind x.kind ≡ Typedef
  role_frames p q x here = ⊎_elim (λ a. ap (λ (m : Name). frame_kind m.kind) (sym a)) (λ more. ⊎_elim (λ b. ap (λ (m : Name). frame_kind m.kind) (sym b)) (λ none. absurd none) more) here

  frames_same : (x y : Name) (said : Body) → In x (anchors said) → In y (anchors said) → SameFrames x y
  unfolding anchors
  frames_same x y (body.Sub c d) here there = ap (λ (m : Name). frame_kind m.kind) (class_one c x y here there)
  frames_same x y (body.Equiv c d) here there = class_frames c d x here ∙ sym (class_frames c d y there)
  frames_same x y (body.Disjoint c d) here there = class_frames c d x here ∙ sym (class_frames c d y there)
  frames_same x y (body.EquivRoles p q) here there = role_frames p q x here ∙ sym (role_frames p q y there)
  frames_same x y (body.DisjointRoles p q) here there = role_frames p q x here ∙ sym (role_frames p q y there)
  frames_same x y (body.Inverse p q) here there = role_frames p q x here ∙ sym (role_frames p q y there)
  frames_same x y (body.SubRole p q) here there = ap (λ (m : Name). frame_kind m.kind) (only_one x y (role_entity p) here there)
  frames_same x y (body.Chain p q r) here there = ap (λ (m : Name). frame_kind m.kind) (only_one x y (role_entity r) here there)
  frames_same x y (body.Transitive p) here there = ap (λ (m : Name). frame_kind m.kind) (only_one x y (role_entity p) here there)
  frames_same x y (body.Reflexive p) here there = ap (λ (m : Name). frame_kind m.kind) (only_one x y (role_entity p) here there)
  frames_same x y (body.Symmetric p) here there = ap (λ (m : Name). frame_kind m.kind) (only_one x y (role_entity p) here there)
  frames_same x y (body.Asymmetric p) here there = ap (λ (m : Name). frame_kind m.kind) (only_one x y (role_entity p) here there)
  frames_same x y (body.Functional p) here there = ap (λ (m : Name). frame_kind m.kind) (only_one x y (role_entity p) here there)
  frames_same x y (body.InverseFunctional p) here there = ap (λ (m : Name). frame_kind m.kind) (only_one x y (role_entity p) here there)
  frames_same x y (body.Domain p c) here there = ap (λ (m : Name). frame_kind m.kind) (only_one x y (role_entity p) here there)
  frames_same x y (body.Range p c) here there = ap (λ (m : Name). frame_kind m.kind) (only_one x y (role_entity p) here there)
  frames_same x y (body.ClassAssertion c i) here there = ap (λ (m : Name). frame_kind m.kind) (only_one x y (individual_entity i) here there)
  frames_same x y (body.RoleAssertion p i j) here there = ap (λ (m : Name). frame_kind m.kind) (only_one x y (individual_entity i) here there)
  frames_same x y (body.Declaration name) here there = ap (λ (m : Name). frame_kind m.kind) (only_one x y name here there)
  frames_same x y (body.Note subject property noted) here there = ap (λ (m : Name). frame_kind m.kind) (only_one x y subject here there)
  frames_same x y (body.OntologyNote property noted) here there = absurd here

  -- ---- the clause of a statement, and the clauses of a group

  abbrev pub StatedAt : Axiom → Name → Type 0
  StatedAt a x = IsSome (statement_spelling w (frame_kind x.kind) x.iri a)

  abbrev pub GroupedAt : Axiom → Name → Type 0
  GroupedAt a x = (group : Group) × IsSome (group_spelling w x.iri group a)

  row_moves : (x y : Name) (a : Axiom) (row : StatementRow) → In x (anchors a.body) → In y (anchors a.body) → IsSome (frame_id w x) → IsSome (statement_by w x.iri a row) → IsSome (statement_by w y.iri a row)
  unfolding value_stating
  row_moves x y a row here there has some =
      let make = λ (v : Worded). option_map (λ qualifiers. let c : Clause = record { tag = row.tag; value = v.value; qualifiers = qualifiers } in c) (qualifiers_with v.extras a.sides) in
      let c = some_value (statement_by w x.iri a row) some in
      let v = option_and_then_some make (value_stating w x.iri row.statement a.body) c.0 c.1 in
      let u = option_map_some Rattle.obo_statements.specs.Extras.worded_plainly (value_plainly w x.iri row.statement a.body) v.0 v.1 in
      let moved = some_value (value_plainly w y.iri row.statement a.body) (value_moves x y row.statement a.body here there has (subst (λ o. IsSome o) (sym u.1) refl)) in
      let qs = option_map_some (λ qualifiers. let d : Clause = record { tag = row.tag; value = v.0.value; qualifiers = qualifiers } in d) (qualifiers_with v.0.extras a.sides) c.0 v.2 in
      let plain : qualifiers_with [] a.sides ≡ Some qs.0 = ap (λ (z : Worded). qualifiers_with z.extras a.sides) u.2 ∙ qs.1 in
      subst (λ o. IsSome (option_and_then make (option_map Rattle.obo_statements.specs.Extras.worded_plainly o))) (sym moved.1)
      (map_some (λ qualifiers. let d : Clause = record { tag = row.tag; value = moved.0; qualifiers = qualifiers } in d) (qualifiers_with [] a.sides) (subst (λ o. IsSome o) (sym plain) refl))

  pub statement_moves : (x y : Name) (a : Axiom) → In x (anchors a.body) → In y (anchors a.body) → IsSome (frame_id w x) → StatedAt a x → StatedAt a y
  unfolding statement_spelling
  statement_moves x y a here there has some =
      let c = some_value (first_some (statement_by w x.iri a) (statements_of (frame_kind x.kind))) some in
      let row = first_some-found (statement_by w x.iri a) (statements_of (frame_kind x.kind)) c.0 c.1 in
      let among = subst (λ k. In row.0 (statements_of k)) (frames_same x y a.body here there) row.1 in
      first_some-some (statement_by w y.iri a) (statements_of (frame_kind y.kind)) row.0 among (row_moves x y a row.0 here there has (subst (λ o. IsSome o) (sym row.2) refl))

  left : (c d : ClassExpr) → class_anchor d ≡ [] → (n : Name) → In n (class_anchor c ++ class_anchor d) → In n (class_anchor c)
  left c d none n here = ⊎_elim (λ a. a) (λ b. absurd (subst (In n) none b)) (In-append n (class_anchor c) (class_anchor d) here)

  right : (c d : ClassExpr) → class_anchor c ≡ [] → (n : Name) → In n (class_anchor c ++ class_anchor d) → In n (class_anchor d)
  right c d none n here = ⊎_elim (λ a. absurd (subst (In n) none a)) (λ b. b) (In-append n (class_anchor c) (class_anchor d) here)

  -- a group has one anchor
  pub group_one : (x y z : Name) (g : Group) (a : Axiom) → IsSome (group_spelling w z.iri g a) → In x (anchors a.body) → In y (anchors a.body) → x ≡ y
  unfolding anchors
  group_one x y z g a some = by_body a.body (subst (λ o. IsSome o) (group_is_spelled_plainly w z.iri g a) some)
    where
      by_body : (said : Body) → IsSome (plain_group_in_body w z.iri g a.sides said) → In x (anchors said) → In y (anchors said) → x ≡ y
      by_body (body.Equiv c d) some here there =
          let cs = some_value (plain_group_in_body w z.iri g a.sides (body.Equiv c d)) some in
          let qs = option_and_then_some (λ qualifiers. option_and_then (plain_clauses_with w g qualifiers) (other_expr z.iri c d)) (qualifiers_of a.sides) cs.0 cs.1 in
          let whole = option_and_then_some (plain_clauses_with w g qs.0) (other_expr z.iri c d) cs.0 qs.2 in
          let ops = option_and_then_some _ (group_operands g whole.0) cs.0 whole.2 in
          let empty = whole_anchor g whole.0 ops.0 ops.1 in
          let is_of : (whole.0 ≡ d) ⊎ (whole.0 ≡ c) = ⊎_elim
          (λ yes. inl (sym (same_Some d whole.0 (sym (cond-true _ (Some d) _ yes) ∙ whole.1))))
          (λ isnt. inr (sym (same_Some c whole.0 (where_true_some (is_class z.iri d) (Some c) whole.0 (sym (cond-false _ (Some d) _ isnt) ∙ whole.1)).1)))
          (cases_Bool (is_class z.iri c)) in
          ⊎_elim
          (λ second. let none = ap class_anchor (sym second) ∙ empty in
          class_one c x y (left c d none x here) (left c d none y there))
          (λ first. let none = ap class_anchor (sym first) ∙ empty in
          class_one d x y (right c d none x here) (right c d none y there))
          is_of
      by_body _ some here there = let h : false ≡ true = some in absurd (cc)
