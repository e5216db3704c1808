-- The statements of a sound document have a form.
use Rattle.std.proofs.Common.{◌≡◌, ◌⊎◌, ℕ, Bool, true, false, not, ◌&&◌, ◌||◌, List, [], ◌∷◌, ◌++◌, Option, None, Some, inl, inr, ⊎_elim, refl, sym, ap, subst, ◌∙◌, if◌then◌else◌}
use Rattle.std.specs.Option.{IsSome, option_and_then, option_map, option_map_or}
use Rattle.std.specs.Str.{bytes_eq}
use Rattle.std.proofs.lemmas.Bool.{and_from, cases_Bool, cond-false, cond-true}
use Rattle.std.specs.Cmp.Lexicographic.{nat_list_cmp_total, slice_cmp}
use Rattle.std.specs.Ordering.{is_gt, nat_cmp, ordering_reverse}
use Rattle.std.specs.declared.cmp.Ordering.TheVariants.{Equal, Greater, Less}
use Rattle.iri_map.proofs.CandidateLemmas.{bytes_eq-refl}
use Rattle.obo_clause.specs.declared.clause.Qualifier.{Qualifier}
use Rattle.obo_clause.specs.declared.clause.Value.{Value}
use Rattle.obo_clause.specs.declared.clause.Value.TheVariants as value
use Rattle.text_sets.specs.Sets.{In}
use Rattle.rel_io.specs.Texts.{is_clean_iri}
use Rattle.obo_clause.specs.Fits.{FitsQualifier}
use Rattle.clause_printer.specs.Printing.{qualifier_text}
use Rattle.owl_axioms.specs.Proper.{in_order, is_class_iri, is_proper_body, is_proper_expr, is_proper_pair, is_proper_role_pair, proper_step}
use Rattle.owl_axioms.specs.Vocabulary.{owl_nothing, owl_thing}
use Rattle.owl_axioms.specs.Text.{expr_text, iri_text, side_text}
use Rattle.owl_axioms.specs.declared.annotation.Side.{Side}
use Rattle.owl_axioms.specs.declared.body.Body.{Body}
use Rattle.owl_axioms.specs.declared.body.Body.TheVariants as body
use Rattle.owl_axioms.specs.declared.expr.ClassExpr.{ClassExpr}
use Rattle.owl_axioms.specs.declared.expr.ClassExpr.TheFolds.{para-roll-ClassExpr}
use Rattle.owl_axioms.specs.declared.expr.ClassExpr.TheOpen.{ClassExpr-F}
use Rattle.owl_axioms.specs.declared.expr.ClassExpr.TheVariants as expr
use Rattle.owl_axioms.specs.declared.expr.ClassExpr.TheViews.{out-ClassExpr, out-roll-ClassExpr, roll-ClassExpr}
use Rattle.owl_axioms.specs.declared.name.Kind.{Kind}
use Rattle.owl_axioms.specs.declared.name.Kind.TheVariants as kinds
use Rattle.owl_axioms.specs.declared.name.Name.{Name}
use Rattle.text_sets.specs.Parts.{each_some}
use Rattle.text_sets.specs.Sorted.{sorted_by}
use Rattle.text_sets.proofs.PartLemmas.{each_some-some}
use Rattle.text_sets.proofs.SortedLemmas.{sorted_by-only}
use Rattle.obo_mapping.specs.Axioms.{name_as}
use Rattle.obo_notes.specs.Context.{Agree, Reading, Writing, where_true}
use Rattle.obo_notes.specs.Keys.{is_reserved_key, qualifier_of, side_of_qualifier}
use Rattle.obo_notes.specs.Notes.{qualifiers_of, sorted_sides}
use Rattle.owl_axioms.specs.Classes.{class_named}
use Rattle.obo_statements.specs.Classes.{class_id, class_iri, class_read, is_class}
use Rattle.obo_statements.specs.Restrictions.{restriction, restriction_words, words_of}
use Rattle.obo_statements.specs.Values.{Character, Statement, asymmetric, disjoint_classes, functional, inverse_functional, other_class, other_of, pair_of, reflexive, same_classes, stated_plainly, symmetric, transitive, value_plainly}
use Rattle.obo_statements.specs.Anchors.{anchors, class_anchor, class_entity}
use Rattle.obo_notes.proofs.Guards.{same_bytes}
use Rattle.obo_notes.proofs.KeyCovers.{qualifier_covered}
use Rattle.obo_notes.proofs.PartCovers.{some_value}
use Rattle.obo_notes.proofs.ProperSides.{clean_url}

-- ---- annotations of clauses are qualifiers

pub record OfQualifier (s : Side) : Type 0 where
  pub q : Qualifier
  pub fits : FitsQualifier q
  pub plain : is_reserved_key q.key ≡ false
  pub same : side_of_qualifier q ≡ s

pub some_map : {X Y : Type 0} (f : X → Y) (o : Option X) → IsSome o → IsSome (option_map f o)
some_map f o some = let x = some_value o some in subst (λ p. IsSome (option_map f p)) (sym x.1) refl

pub sides_some : (sides : List Side) → ((s : Side) → In s sides → OfQualifier s) → IsSome (qualifiers_of (sorted_sides sides))
sides_some sides each =
    some_map (sorted_by qualifier_text) (each_some qualifier_of (sorted_sides sides)) (each_some-some qualifier_of (sorted_sides sides) (λ s here.
    let of = each s (sorted_by-only side_text sides s here) in
    subst (λ t. IsSome (qualifier_of t)) of.same (qualifier_covered of.q of.fits of.plain)))

-- ---- classes

pub class_iri_named : (x : List ℕ) → is_clean_iri x ≡ true → class_iri (class_named x) ≡ Some x
unfolding class_iri class_named is_class_iri
class_iri_named x clean =
    elim (bytes_eq x owl_thing) as (λ b. bytes_eq x owl_thing ≡ b → class_iri (if b then expr.Thing else (if bytes_eq x owl_nothing then expr.Nothing else expr.Class x)) ≡ Some x) [
      | true ↦ λ same. ap Some (sym (same_bytes x owl_thing same))
      | false ↦ λ no_thing.
          elim (bytes_eq x owl_nothing) as (λ b. bytes_eq x owl_nothing ≡ b → class_iri (if b then expr.Nothing else expr.Class x) ≡ Some x) [
            | true ↦ λ same. ap Some (sym (same_bytes x owl_nothing same))
            | false ↦ λ no_nothing. λ i. where_true (clean i && not (no_thing i || no_nothing i)) (Some x)
          ] refl
    ] refl

pub class_anchor_named : (x : List ℕ) → class_anchor (class_named x) ≡ class_entity x ∷ []
unfolding class_named
class_anchor_named x =
    elim (bytes_eq x owl_thing) as (λ b. bytes_eq x owl_thing ≡ b → class_anchor (if b then expr.Thing else (if bytes_eq x owl_nothing then expr.Nothing else expr.Class x)) ≡ class_entity x ∷ []) [
      | true ↦ λ same. ap (λ i. class_entity i ∷ []) (sym (same_bytes x owl_thing same))
      | false ↦ λ _.
          elim (bytes_eq x owl_nothing) as (λ b. bytes_eq x owl_nothing ≡ b → class_anchor (if b then expr.Nothing else expr.Class x) ≡ class_entity x ∷ []) [
            | true ↦ λ same. ap (λ i. class_entity i ∷ []) (sym (same_bytes x owl_nothing same))
            | false ↦ λ _. refl
          ] refl
    ] refl

thing_proper : is_proper_expr expr.Thing ≡ true
unfolding is_proper_expr proper_step roll-ClassExpr denote.Hole.Carrier.roll
thing_proper = para-roll-ClassExpr Bool proper_step ClassExpr-F.Thing

nothing_proper : is_proper_expr expr.Nothing ≡ true
unfolding is_proper_expr proper_step roll-ClassExpr denote.Hole.Carrier.roll
nothing_proper = para-roll-ClassExpr Bool proper_step ClassExpr-F.Nothing

class_proper : (x : List ℕ) → is_class_iri x ≡ true → is_proper_expr (expr.Class x) ≡ true
unfolding is_proper_expr proper_step roll-ClassExpr denote.Hole.Carrier.roll
class_proper x is = para-roll-ClassExpr Bool proper_step (ClassExpr-F.Class x) ∙ is

pub named_proper : (x : List ℕ) → is_clean_iri x ≡ true → is_proper_expr (class_named x) ≡ true
unfolding class_named is_class_iri
named_proper x clean =
    elim (bytes_eq x owl_thing) as (λ b. bytes_eq x owl_thing ≡ b → is_proper_expr (if b then expr.Thing else (if bytes_eq x owl_nothing then expr.Nothing else expr.Class x)) ≡ true) [
      | true ↦ λ _. thing_proper
      | false ↦ λ no_thing.
          elim (bytes_eq x owl_nothing) as (λ b. bytes_eq x owl_nothing ≡ b → is_proper_expr (if b then expr.Nothing else expr.Class x) ≡ true) [
            | true ↦ λ _. nothing_proper
            | false ↦ λ no_nothing. class_proper x (λ i. clean i && not (no_thing i || no_nothing i))
          ] refl
    ] refl

pub some_proper : (r : List ℕ) (c : ClassExpr) → is_clean_iri r ≡ true → is_proper_expr c ≡ true → is_proper_expr (expr.Some r c) ≡ true
unfolding is_proper_expr proper_step roll-ClassExpr denote.Hole.Carrier.roll
some_proper r c clean proper = para-roll-ClassExpr Bool proper_step (ClassExpr-F.Some r c) ∙ and_from (is_clean_iri r) (is_proper_expr c) clean proper

out_some : (r : List ℕ) (c : ClassExpr) → out-ClassExpr (expr.Some r c) ≡ ClassExpr-F.Some r c
unfolding roll-ClassExpr denote.Hole.Carrier.roll
out_some r c = out-roll-ClassExpr (ClassExpr-F.Some r c)

-- ---- pairs

pub order_total : (a b : List ℕ) → in_order a b ≡ false → in_order b a ≡ true
unfolding in_order
order_total a b isnt =
    elim (slice_cmp nat_cmp a b) as (λ o. slice_cmp nat_cmp a b ≡ o → not (is_gt (slice_cmp nat_cmp b a)) ≡ true) [
      | Less ↦ λ less. let h : true ≡ false = sym (ap (λ o. not (is_gt o)) less) ∙ isnt in absurd (cc)
      | Equal ↦ λ same. let h : true ≡ false = sym (ap (λ o. not (is_gt o)) same) ∙ isnt in absurd (cc)
      | Greater ↦ λ greater. ap (λ o. not (is_gt o)) (nat_list_cmp_total.antisymm b a ∙ ap ordering_reverse greater)
    ] refl

pair_by : (P : Body → Type 0) (make : List ℕ → List ℕ → Body) (x y : List ℕ) → (in_order (iri_text x) (iri_text y) ≡ true → P (make x y)) → (in_order (iri_text y) (iri_text x) ≡ true → P (make y x)) → P (pair_of make x y)
pair_by P make x y one other =
    ⊎_elim
    (λ yes. subst P (sym (cond-true _ (make x y) (make y x) yes)) (one yes))
    (λ isnt. subst P (sym (cond-false _ (make x y) (make y x) isnt)) (other (order_total (iri_text x) (iri_text y) isnt)))
    (cases_Bool (in_order (iri_text x) (iri_text y)))

-- ---- answers that are there

pub where_some : {X : Type 0} (t : Bool) (o : Option X) → t ≡ true → IsSome o → IsSome (where_true t o)
where_some t o is some = subst (λ b. IsSome (where_true b o)) (sym is) some

pub then_some : {X Y : Type 0} (f : X → Option Y) (o : Option X) → IsSome o → ((x : X) → IsSome (f x)) → IsSome (option_and_then f o)
then_some f o some each = let x = some_value o some in subst (λ p. IsSome (option_and_then f p)) (sym x.1) (each x.0)

abbrev pub anchor_kind : Statement → Kind
anchor_kind Statement.below_class = kinds.Class
anchor_kind Statement.restricted = kinds.Class
anchor_kind Statement.same_class = kinds.Class
anchor_kind Statement.disjoint_class = kinds.Class
anchor_kind Statement.member = kinds.Individual
anchor_kind Statement.related = kinds.Individual
anchor_kind _ = kinds.Role

-- ---- statements

module _ (reading : Reading) (writing : Writing) (agree : Agree reading writing) (role_same : (x : List ℕ) → reading.role_iri x ≡ reading.iri x) (id_same : (x : List ℕ) → writing.role_id x ≡ writing.id x) where
  pub clean_of : (id : List ℕ) → is_clean_iri (reading.iri id) ≡ true
  clean_of id = subst (λ i. is_clean_iri i ≡ true) (agree.clean id).1 (clean_url (reading.iri id))

  role_clean : (id : List ℕ) → is_clean_iri (reading.role_iri id) ≡ true
  role_clean id = subst (λ i. is_clean_iri i ≡ true) (sym (role_same id)) (clean_of id)

  -- the IRI of an id
  pub record IsNamed (x : List ℕ) : Type 0 where
    pub id : List ℕ
    pub same : reading.iri id ≡ x

  pub named_clean : (x : List ℕ) → IsNamed x → is_clean_iri x ≡ true
  named_clean x is = subst (λ i. is_clean_iri i ≡ true) is.same (clean_of is.id)

  named_id : (x : List ℕ) → IsNamed x → IsSome (writing.id x)
  named_id x is = subst (λ i. IsSome (writing.id i)) is.same (agree.iris is.id)

  role_named : (id : List ℕ) → IsNamed (reading.role_iri id)
  role_named id = record { id = id; same = sym (role_same id) }

  pub iri_named : (id : List ℕ) → IsNamed (reading.iri id)
  iri_named id = record { id = id; same = refl }

  named_role_id : (x : List ℕ) → IsNamed x → IsSome (writing.role_id x)
  named_role_id x is = subst IsSome (sym (id_same x)) (named_id x is)

  pub class_id_some : (x : List ℕ) → IsNamed x → IsSome (class_id writing (class_named x))
  class_id_some x is = subst (λ o. IsSome (option_and_then writing.id o)) (sym (class_iri_named x (named_clean x is))) (named_id x is)

  pub is_class_named : (x : List ℕ) → IsNamed x → is_class x (class_named x) ≡ true
  is_class_named x is = ap (λ o. option_map_or (bytes_eq x) o false) (class_iri_named x (named_clean x is)) ∙ bytes_eq-refl x

  pub class_read_some : (id : List ℕ) → IsSome (option_map value.Id (class_id writing (class_read reading id)))
  class_read_some id = some_map value.Id (class_id writing (class_read reading id)) (class_id_some (reading.iri id) (iri_named id))

  id_value : (x : List ℕ) → IsNamed x → IsSome (option_map value.Id (writing.id x))
  id_value x is = some_map value.Id (writing.id x) (named_id x is)

  role_value : (x : List ℕ) → IsNamed x → IsSome (option_map value.Id (writing.role_id x))
  role_value x is = some_map value.Id (writing.role_id x) (named_role_id x is)

  pub restriction_some : (role id : List ℕ) → IsSome (restriction_words writing (restriction reading role id))
  unfolding restriction restriction_words
  restriction_some role id =
      subst (λ layer. IsSome (words_of writing layer)) (sym (out_some (reading.role_iri role) (class_read reading id)))
      (then_some (λ r. option_map (λ c. value.Pair r c) (class_id writing (class_read reading id))) (writing.role_id (reading.role_iri role)) (named_role_id (reading.role_iri role) (role_named role))
      (λ r. some_map (λ c. value.Pair r c) (class_id writing (class_read reading id)) (class_id_some (reading.iri id) (iri_named id))))

  pub restriction_proper : (role id : List ℕ) → is_proper_expr (restriction reading role id) ≡ true
  unfolding restriction
  restriction_proper role id = some_proper (reading.role_iri role) (class_read reading id) (role_clean role) (named_proper (reading.iri id) (clean_of id))

  -- the frames of a body, each of which states it
  pub record Covers (kind : Kind) (x : List ℕ) (s : Statement) (b : Body) : Type 0 where
    pub each : (name : Name) → In name (anchors b) → (name.kind ≡ kind) × IsSome (value_plainly writing name.iri s b)
    pub home : In (name_as kind x) (anchors b)
    pub proper : is_proper_body b ≡ true

  single : (kind : Kind) (x : List ℕ) (s : Statement) (b : Body) → anchors b ≡ name_as kind x ∷ [] → IsSome (value_plainly writing x s b) → is_proper_body b ≡ true → Covers kind x s b
  single kind x s b are some proper = record {
    each = λ name here. ⊎_elim (λ same. (ap (λ (n : Name). n.kind) (sym same), subst (λ (n : Name). IsSome (value_plainly writing n.iri s b)) same some)) (λ none. absurd none) (subst (In name) are here);
    home = subst (In (name_as kind x)) (sym are) (inl refl);
    proper = proper;
  }

  double : (kind : Kind) (x one two : List ℕ) (s : Statement) (b : Body) → anchors b ≡ name_as kind one ∷ name_as kind two ∷ [] → IsSome (value_plainly writing one s b) → IsSome (value_plainly writing two s b) → is_proper_body b ≡ true → (one ≡ x) ⊎ (two ≡ x) → Covers kind x s b
  double kind x one two s b are some_one some_two proper which = record {
    each = λ name here. ⊎_elim
        (λ same. (ap (λ (n : Name). n.kind) (sym same), subst (λ (n : Name). IsSome (value_plainly writing n.iri s b)) same some_one))
        (λ more. ⊎_elim (λ same. (ap (λ (n : Name). n.kind) (sym same), subst (λ (n : Name). IsSome (value_plainly writing n.iri s b)) same some_two)) (λ none. absurd none) more)
        (subst (In name) are here);
    home = subst (In (name_as kind x)) (sym are) (⊎_elim (λ same. inl (ap (name_as kind) same)) (λ same. inr (inl (ap (name_as kind) same))) which);
    proper = proper;
  }

  other_first : (a b : List ℕ) → other_of a a b ≡ Some b
  other_first a b = cond-true _ _ _ (bytes_eq-refl a)

  other_second : (a b : List ℕ) → IsNamed a → IsNamed b → {X : Type 0} (f : List ℕ → Option X) → ((y : List ℕ) → IsNamed y → IsSome (f y)) → IsSome (option_and_then f (other_of b a b))
  other_second a b na nb f each =
      ⊎_elim
      (λ same. subst (λ o. IsSome (option_and_then f o)) (sym (cond-true _ _ _ same)) (each b nb))
      (λ isnt. subst (λ o. IsSome (option_and_then f o)) (sym (cond-false _ _ _ isnt ∙ (λ i. where_true (bytes_eq-refl b i) (Some a)))) (each a na))
      (cases_Bool (bytes_eq b a))

  other_one : (a b : List ℕ) → IsNamed b → {X : Type 0} (f : List ℕ → Option X) → ((y : List ℕ) → IsNamed y → IsSome (f y)) → IsSome (option_and_then f (other_of a a b))
  other_one a b nb f each = subst (λ o. IsSome (option_and_then f o)) (sym (other_first a b)) (each b nb)

  classes_other : (x a b : List ℕ) → IsNamed a → IsNamed b → other_class x (class_named a) (class_named b) ≡ other_of x a b
  classes_other x a b na nb =
      let first = class_iri_named a (named_clean a na) in let second = class_iri_named b (named_clean b nb) in
      λ i. option_and_then (λ one. option_and_then (λ two. other_of x one two) (second i)) (first i)

  class_pair : (make : List ℕ → List ℕ → Body) (s : Statement) (x a b : List ℕ) → IsNamed a → IsNamed b
      → anchors (make a b) ≡ class_anchor (class_named a) ++ class_anchor (class_named b)
      → ((y : List ℕ) → value_plainly writing y s (make a b) ≡ option_and_then (λ one. option_map value.Id (writing.id one)) (other_class y (class_named a) (class_named b)))
      → is_proper_body (make a b) ≡ true → (a ≡ x) ⊎ (b ≡ x) → Covers kinds.Class x s (make a b)
  class_pair make s x a b na nb are states proper which =
      let one = class_anchor_named a in let two = class_anchor_named b in
      double kinds.Class x a b s (make a b) (are ∙ (λ i. one i ++ two i))
      (subst IsSome (sym (states a ∙ ap (option_and_then (λ one. option_map value.Id (writing.id one))) (classes_other a a b na nb))) (other_one a b nb (λ one. option_map value.Id (writing.id one)) id_value))
      (subst IsSome (sym (states b ∙ ap (option_and_then (λ one. option_map value.Id (writing.id one))) (classes_other b a b na nb))) (other_second a b na nb (λ one. option_map value.Id (writing.id one)) id_value))
      proper which

  classes_proper : (a b : List ℕ) → IsNamed a → IsNamed b → in_order (iri_text a) (iri_text b) ≡ true → is_proper_pair (class_named a) (class_named b) ≡ true
  unfolding is_proper_pair
  classes_proper a b na nb ordered =
      let one = Rattle.obo_statements.proofs.GroupLaws.class_named-text a in let two = Rattle.obo_statements.proofs.GroupLaws.class_named-text b in
      and_from (is_proper_expr (class_named a) && is_proper_expr (class_named b)) (in_order (expr_text (class_named a)) (expr_text (class_named b)))
      (and_from (is_proper_expr (class_named a)) (is_proper_expr (class_named b)) (named_proper a (named_clean a na)) (named_proper b (named_clean b nb)))
      ((λ i. in_order (one i) (two i)) ∙ ordered)

  roles_proper : (a b : List ℕ) → IsNamed a → IsNamed b → in_order (iri_text a) (iri_text b) ≡ true → is_proper_role_pair a b ≡ true
  unfolding is_proper_role_pair
  roles_proper a b na nb ordered =
      and_from (is_clean_iri a && is_clean_iri b) (in_order (iri_text a) (iri_text b)) (and_from (is_clean_iri a) (is_clean_iri b) (named_clean a na) (named_clean b nb)) ordered

  role_pair : (make : List ℕ → List ℕ → Body) (s : Statement) (x a b : List ℕ) → IsNamed a → IsNamed b
      → anchors (make a b) ≡ name_as kinds.Role a ∷ name_as kinds.Role b ∷ []
      → ((y : List ℕ) → value_plainly writing y s (make a b) ≡ option_and_then (λ one. option_map value.Id (writing.role_id one)) (other_of y a b))
      → is_proper_body (make a b) ≡ true → (a ≡ x) ⊎ (b ≡ x) → Covers kinds.Role x s (make a b)
  role_pair make s x a b na nb are states proper which =
      double kinds.Role x a b s (make a b) are
      (subst IsSome (sym (states a)) (other_one a b nb (λ one. option_map value.Id (writing.role_id one)) role_value))
      (subst IsSome (sym (states b)) (other_second a b na nb (λ one. option_map value.Id (writing.role_id one)) role_value))
      proper which

  abbrev AllCovered : List ℕ → Statement → Option Body → Type 0
  AllCovered x s None = Unit {0}
  AllCovered x s (Some b) = Covers (anchor_kind s) x s b

  character_covered : (x : List ℕ) → IsNamed x → (c : Character) → Covers kinds.Role x (Statement.has_character c) (Rattle.obo_statements.specs.Values.character_body c x)
  unfolding value_plainly anchors is_proper_body
  character_covered x nx transitive = single kinds.Role x (Statement.has_character transitive) (body.Transitive x) refl (where_some (bytes_eq x x) _ (bytes_eq-refl x) refl) (named_clean x nx)
  character_covered x nx reflexive = single kinds.Role x (Statement.has_character reflexive) (body.Reflexive x) refl (where_some (bytes_eq x x) _ (bytes_eq-refl x) refl) (named_clean x nx)
  character_covered x nx symmetric = single kinds.Role x (Statement.has_character symmetric) (body.Symmetric x) refl (where_some (bytes_eq x x) _ (bytes_eq-refl x) refl) (named_clean x nx)
  character_covered x nx asymmetric = single kinds.Role x (Statement.has_character asymmetric) (body.Asymmetric x) refl (where_some (bytes_eq x x) _ (bytes_eq-refl x) refl) (named_clean x nx)
  character_covered x nx functional = single kinds.Role x (Statement.has_character functional) (body.Functional x) refl (where_some (bytes_eq x x) _ (bytes_eq-refl x) refl) (named_clean x nx)
  character_covered x nx inverse_functional = single kinds.Role x (Statement.has_character inverse_functional) (body.InverseFunctional x) refl (where_some (bytes_eq x x) _ (bytes_eq-refl x) refl) (named_clean x nx)

  covered : (x : List ℕ) → IsNamed x → (s : Statement) (v : Value) → AllCovered x s (stated_plainly reading x s v)
  unfolding stated_plainly value_plainly anchors is_proper_body
  covered x nx Statement.below_class (value.Id id) =
      single kinds.Class x Statement.below_class (body.Sub (class_named x) (class_read reading id)) (class_anchor_named x)
      (where_some (is_class x (class_named x)) _ (is_class_named x nx) (class_read_some id))
      (and_from _ _ (named_proper x (named_clean x nx)) (named_proper (reading.iri id) (clean_of id)))
  covered x nx Statement.restricted (value.Pair role id) =
      single kinds.Class x Statement.restricted (body.Sub (class_named x) (restriction reading role id)) (class_anchor_named x)
      (where_some (is_class x (class_named x)) _ (is_class_named x nx) (restriction_some role id))
      (and_from _ _ (named_proper x (named_clean x nx)) (restriction_proper role id))
  covered x nx Statement.same_class (value.Id id) =
      let y = reading.iri id in let ny = iri_named id in
      pair_by (Covers kinds.Class x Statement.same_class) same_classes x y
      (λ ordered. class_pair same_classes Statement.same_class x x y nx ny refl (λ z. refl) (classes_proper x y nx ny ordered) (inl refl))
      (λ ordered. class_pair same_classes Statement.same_class x y x ny nx refl (λ z. refl) (classes_proper y x ny nx ordered) (inr refl))
  covered x nx Statement.disjoint_class (value.Id id) =
      let y = reading.iri id in let ny = iri_named id in
      pair_by (Covers kinds.Class x Statement.disjoint_class) disjoint_classes x y
      (λ ordered. class_pair disjoint_classes Statement.disjoint_class x x y nx ny refl (λ z. refl) (classes_proper x y nx ny ordered) (inl refl))
      (λ ordered. class_pair disjoint_classes Statement.disjoint_class x y x ny nx refl (λ z. refl) (classes_proper y x ny nx ordered) (inr refl))
  covered x nx Statement.below_role (value.Id id) =
      single kinds.Role x Statement.below_role (body.SubRole x (reading.role_iri id)) refl (where_some (bytes_eq x x) _ (bytes_eq-refl x) (role_value (reading.role_iri id) (role_named id)))
      (and_from _ _ (named_clean x nx) (role_clean id))
  covered x nx Statement.same_role (value.Id id) =
      let y = reading.role_iri id in let ny = role_named id in
      pair_by (Covers kinds.Role x Statement.same_role) body.EquivRoles x y
      (λ ordered. role_pair body.EquivRoles Statement.same_role x x y nx ny refl (λ z. refl) (roles_proper x y nx ny ordered) (inl refl))
      (λ ordered. role_pair body.EquivRoles Statement.same_role x y x ny nx refl (λ z. refl) (roles_proper y x ny nx ordered) (inr refl))
  covered x nx Statement.disjoint_role (value.Id id) =
      let y = reading.role_iri id in let ny = role_named id in
      pair_by (Covers kinds.Role x Statement.disjoint_role) body.DisjointRoles x y
      (λ ordered. role_pair body.DisjointRoles Statement.disjoint_role x x y nx ny refl (λ z. refl) (roles_proper x y nx ny ordered) (inl refl))
      (λ ordered. role_pair body.DisjointRoles Statement.disjoint_role x y x ny nx refl (λ z. refl) (roles_proper y x ny nx ordered) (inr refl))
  covered x nx Statement.inverse_role (value.Id id) =
      let y = reading.role_iri id in let ny = role_named id in
      pair_by (Covers kinds.Role x Statement.inverse_role) body.Inverse x y
      (λ ordered. role_pair body.Inverse Statement.inverse_role x x y nx ny refl (λ z. refl) (roles_proper x y nx ny ordered) (inl refl))
      (λ ordered. role_pair body.Inverse Statement.inverse_role x y x ny nx refl (λ z. refl) (roles_proper y x ny nx ordered) (inr refl))
  covered x nx (Statement.has_character c) (value.Bool true) = character_covered x nx c
  covered x nx Statement.has_domain (value.Id id) =
      single kinds.Role x Statement.has_domain (body.Domain x (class_read reading id)) refl (where_some (bytes_eq x x) _ (bytes_eq-refl x) (class_read_some id))
      (and_from _ _ (named_clean x nx) (named_proper (reading.iri id) (clean_of id)))
  covered x nx Statement.has_range (value.Id id) =
      single kinds.Role x Statement.has_range (body.Range x (class_read reading id)) refl (where_some (bytes_eq x x) _ (bytes_eq-refl x) (class_read_some id))
      (and_from _ _ (named_clean x nx) (named_proper (reading.iri id) (clean_of id)))
  covered x nx Statement.over (value.Id id) =
      single kinds.Role x Statement.over (body.Chain x (reading.role_iri id) x) refl
      (where_some (bytes_eq x x && bytes_eq x x) _ (λ i. bytes_eq-refl x i && bytes_eq-refl x i) (role_value (reading.role_iri id) (role_named id)))
      (and_from _ _ (and_from _ _ (named_clean x nx) (role_clean id)) (named_clean x nx))
  covered x nx Statement.chain (value.Pair first second) =
      single kinds.Role x Statement.chain (body.Chain (reading.role_iri first) (reading.role_iri second) x) refl
      (where_some (bytes_eq x x) _ (bytes_eq-refl x)
      (then_some (λ one. option_map (λ two. value.Pair one two) (writing.role_id (reading.role_iri second))) (writing.role_id (reading.role_iri first)) (named_role_id (reading.role_iri first) (role_named first))
      (λ one. some_map (λ two. value.Pair one two) (writing.role_id (reading.role_iri second)) (named_role_id (reading.role_iri second) (role_named second)))))
      (and_from _ _ (and_from _ _ (role_clean first) (role_clean second)) (named_clean x nx))
  covered x nx Statement.member (value.Id id) =
      single kinds.Individual x Statement.member (body.ClassAssertion (class_read reading id) x) refl (where_some (bytes_eq x x) _ (bytes_eq-refl x) (class_read_some id))
      (and_from _ _ (named_proper (reading.iri id) (clean_of id)) (named_clean x nx))
  covered x nx Statement.related (value.Pair role id) =
      single kinds.Individual x Statement.related (body.RoleAssertion (reading.role_iri role) x (reading.iri id)) refl
      (where_some (bytes_eq x x) _ (bytes_eq-refl x)
      (then_some (λ r. option_map (λ i. value.Pair r i) (writing.id (reading.iri id))) (writing.role_id (reading.role_iri role)) (named_role_id (reading.role_iri role) (role_named role))
      (λ r. some_map (λ i. value.Pair r i) (writing.id (reading.iri id)) (named_id (reading.iri id) (iri_named id)))))
      (and_from _ _ (and_from _ _ (role_clean role) (named_clean x nx)) (clean_of id))
  covered x nx _ _ = tt

  pub covers_at : (x : List ℕ) → IsNamed x → (s : Statement) (v : Value) (b : Body) → stated_plainly reading x s v ≡ Some b → Covers (anchor_kind s) x s b
  covers_at x nx s v b is = subst (AllCovered x s) is (covered x nx s v)
