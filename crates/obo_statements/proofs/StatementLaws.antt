-- The clause of a statement states it.
use Rattle.std.proofs.Common.{◌≡◌, ℕ, true, false, not, ◌&&◌, ◌||◌, List, ◌++◌, codes, Option, None, Some, ⊎_elim, refl, sym, ap, subst, ◌∙◌, if◌then◌else◌}
use Rattle.std.specs.Cmp.Lexicographic.{nat_list_cmp_total, slice_cmp}
use Rattle.std.specs.FinMap.{nat_cmp-IsAntisymmetric, slice_cmp-IsAntisymmetric}
use Rattle.std.specs.Ordering.{is_gt, nat_cmp, ordering_reverse}
use Rattle.std.specs.declared.cmp.Ordering.TheVariants.{Equal, Greater, Less}
use Rattle.std.specs.Option.{option_and_then, option_map, option_map_or}
use Rattle.std.specs.Str.{bytes_eq}
use Rattle.std.proofs.lemmas.Bool.{and_parts, cases_Bool, cond-false, cond-true, not-true, or_parts}
use Rattle.std.proofs.lemmas.Option.{none-some, same_Some}
use Rattle.std.proofs.lemmas.List.{append_cancel_left, append_cancel_right}
use Rattle.std.proofs.Common.{append_assoc}
use Rattle.obo_clause.specs.declared.clause.Value.{Value}
use Rattle.obo_clause.specs.declared.clause.Value.TheVariants as value
use Rattle.rel_io.specs.Texts.{is_clean_iri, is_readable}
use Rattle.owl_axioms.specs.Proper.{in_order, is_class_iri, is_proper_body, is_proper_pair, is_proper_role_pair}
use Rattle.owl_axioms.specs.Vocabulary.{owl_nothing, owl_thing}
use Rattle.owl_axioms.specs.Text.{expr_text, iri_text, text_step}
use Rattle.owl_axioms.specs.declared.body.Body.{Body}
use Rattle.owl_axioms.specs.declared.body.Body.TheVariants as body
use Rattle.owl_axioms.specs.declared.expr.ClassExpr.{ClassExpr}
use Rattle.owl_axioms.specs.declared.expr.ClassExpr.TheVariants as expr
use Rattle.owl_axioms.specs.declared.expr.ClassExpr.TheOpen.{ClassExpr-F}
use Rattle.owl_axioms.specs.declared.expr.ClassExpr.TheFolds.{fold-roll-ClassExpr}
use Rattle.owl_axioms.specs.declared.expr.ClassExpr.TheViews.{out-ClassExpr, roll-ClassExpr, roll-out-ClassExpr}
use Rattle.text_sets.proofs.PartLemmas.{option_and_then_some, option_map_some}
use Rattle.obo_notes.specs.Context.{Agree, Reading, Writing, where_true}
use Rattle.owl_axioms.specs.Classes.{class_named}
use Rattle.obo_statements.specs.Classes.{as_id, class_id, class_iri, class_read, is_class}
use Rattle.obo_statements.specs.Restrictions.{restriction, restriction_words, words_of}
use Rattle.obo_statements.specs.Values.{Character, Statement, asymmetric, below_class, below_role, chain, character_body, disjoint_class, disjoint_classes, disjoint_role, functional, has_character, has_domain, has_range, inverse_functional, inverse_role, member, other_class, other_of, over, pair_of, reflexive, related, restricted, same_class, same_classes, same_role, stated_plainly, symmetric, transitive, value_plainly}
use Rattle.obo_notes.proofs.Guards.{same_bytes, where_true_some}

-- ---- classes and their IRIs

named_other : (iri : List ℕ) → is_class_iri iri ≡ true → class_named iri ≡ expr.Class iri
unfolding class_named is_class_iri
named_other iri is =
    let thing = bytes_eq iri owl_thing in
    let none = bytes_eq iri owl_nothing in
    let no_owl = not-true (thing || none) (and_parts (is_clean_iri iri) (not (thing || none)) is).1 in
    let parts = or_parts thing none no_owl in
    cond-false thing expr.Thing (if none then expr.Nothing else expr.Class iri) parts.0 ∙ cond-false none expr.Nothing (expr.Class iri) parts.1

named_thing : class_named owl_thing ≡ expr.Thing
unfolding class_named owl_thing owl_nothing
named_thing = refl

named_nothing : class_named owl_nothing ≡ expr.Nothing
unfolding class_named owl_thing owl_nothing
named_nothing = refl

pub class_iri-back : (one : ClassExpr) (iri : List ℕ) → class_iri one ≡ Some iri → class_named iri ≡ one
unfolding class_iri
class_iri-back expr.Thing iri is = ap class_named (sym (same_Some owl_thing iri is)) ∙ named_thing
class_iri-back expr.Nothing iri is = ap class_named (sym (same_Some owl_nothing iri is)) ∙ named_nothing
class_iri-back (expr.Class one) iri is =
    let found = where_true_some (is_class_iri one) (Some one) iri is in
    let same = same_Some one iri found.1 in
    ap class_named (sym same) ∙ named_other one found.0
class_iri-back _ iri is = absurd (none-some iri is)

pub class_text : (iri : List ℕ) → expr_text (expr.Class iri) ≡ iri_text iri
unfolding expr_text text_step roll-ClassExpr denote.Hole.Carrier.roll
class_text iri = fold-roll-ClassExpr (List ℕ) text_step (ClassExpr-F.Class iri)

pub thing_text : expr_text expr.Thing ≡ iri_text owl_thing
unfolding expr_text text_step roll-ClassExpr denote.Hole.Carrier.roll
thing_text = fold-roll-ClassExpr (List ℕ) text_step ClassExpr-F.Thing

pub nothing_text : expr_text expr.Nothing ≡ iri_text owl_nothing
unfolding expr_text text_step roll-ClassExpr denote.Hole.Carrier.roll
nothing_text = fold-roll-ClassExpr (List ℕ) text_step ClassExpr-F.Nothing

-- the text of a class is that of its IRI
pub class_iri-text : (one : ClassExpr) (iri : List ℕ) → class_iri one ≡ Some iri → expr_text one ≡ iri_text iri
unfolding class_iri
class_iri-text expr.Thing iri is = thing_text ∙ ap iri_text (same_Some owl_thing iri is)
class_iri-text expr.Nothing iri is = nothing_text ∙ ap iri_text (same_Some owl_nothing iri is)
class_iri-text (expr.Class one) iri is =
    let found = where_true_some (is_class_iri one) (Some one) iri is in
    class_text one ∙ ap iri_text (same_Some one iri found.1)
class_iri-text _ iri is = absurd (none-some iri is)

pub is_class-back : (iri : List ℕ) (one : ClassExpr) → is_class iri one ≡ true → class_named iri ≡ one
is_class-back iri one is = with_iri (class_iri one) refl
  where
    with_iri : (o : Option (List ℕ)) → class_iri one ≡ o → class_named iri ≡ one
    with_iri None none = let h : false ≡ true = sym (ap (λ o. option_map_or (bytes_eq iri) o false) none) ∙ is in absurd (cc)
    with_iri (Some other) found =
        let same = same_bytes iri other (sym (ap (λ o. option_map_or (bytes_eq iri) o false) found) ∙ is) in
        ap class_named same ∙ class_iri-back one other found

-- ---- pairs

pub both_orders : (a b : List ℕ) → in_order a b ≡ true → in_order b a ≡ true → a ≡ b
unfolding in_order
both_orders a b one other =
    elim (slice_cmp nat_cmp a b) as (λ o. slice_cmp nat_cmp a b ≡ o → a ≡ b) [
      | Less ↦ λ less.
          let back : slice_cmp nat_cmp b a ≡ Greater = nat_list_cmp_total.antisymm b a ∙ ap ordering_reverse less in
          let h : false ≡ true = sym (ap (λ o. not (is_gt o)) back) ∙ other in absurd (cc)
      | Equal ↦ λ same. slice_cmp-IsAntisymmetric nat_cmp-IsAntisymmetric a b same
      | Greater ↦ λ greater. let h : false ≡ true = sym (ap (λ o. not (is_gt o)) greater) ∙ one in absurd (cc)
    ] refl

same_iri : (one other : List ℕ) → iri_text one ≡ iri_text other → one ≡ other
unfolding iri_text
same_iri one other same =
    let middle = append_cancel_left (codes "<") (one ++ codes ">") (other ++ codes ">") (sym (append_assoc (codes "<") one (codes ">")) ∙ same ∙ append_assoc (codes "<") other (codes ">")) in
    append_cancel_right one other (codes ">") middle

pair_swap : (make : List ℕ → List ℕ → Body) (one two : List ℕ) → in_order (iri_text one) (iri_text two) ≡ true → pair_of make two one ≡ make one two
pair_swap make one two ordered =
    elim (in_order (iri_text two) (iri_text one)) as (λ b. in_order (iri_text two) (iri_text one) ≡ b → (if b then make two one else make one two) ≡ make one two) [
      | true ↦ λ also. let same = same_iri one two (both_orders (iri_text one) (iri_text two) ordered also) in λ i. make (sym same i) (same i)
      | false ↦ λ _. refl
    ] refl

pair_back : (make : List ℕ → List ℕ → Body) (x y one two : List ℕ) → other_of x one two ≡ Some y → in_order (iri_text one) (iri_text two) ≡ true → pair_of make x y ≡ make one two
pair_back make x y one two is ordered =
    ⊎_elim
    (λ first.
    let other = same_Some two y (sym (cond-true _ _ _ first) ∙ is) in
    (λ i. pair_of make (same_bytes x one first i) (sym other i)) ∙ cond-true _ _ _ ordered)
    (λ later.
    let second = where_true_some (bytes_eq x two) (Some one) y (sym (cond-false _ _ _ later) ∙ is) in
    let other = same_Some one y second.1 in
    (λ i. pair_of make (same_bytes x two second.0 i) (sym other i)) ∙ pair_swap make one two ordered)
    (cases_Bool (bytes_eq x one))

module _ (reading : Reading) (writing : Writing) (agree : Agree reading writing) (x : List ℕ) where
  id_back : (o : Option (List ℕ)) (v : Value) → as_id o ≡ Some v → (id : List ℕ) × (o ≡ Some id) × (value.Id id ≡ v)
  id_back o v is = option_map_some value.Id o v is

  pub class_id-back : (one : ClassExpr) (id : List ℕ) → class_id writing one ≡ Some id → class_read reading id ≡ one
  class_id-back one id is =
      let found = option_and_then_some writing.id (class_iri one) id is in
      ap class_named (agree.ids found.0 id found.2).1 ∙ class_iri-back one found.0 found.1

  pub class_id-readable : (one : ClassExpr) (id : List ℕ) → class_id writing one ≡ Some id → is_readable id ≡ true
  class_id-readable one id is = let found = option_and_then_some writing.id (class_iri one) id is in (agree.ids found.0 id found.2).0

  Says : Statement → Body → Value → Type 0
  Says statement one v = stated_plainly reading x statement v ≡ Some one

  below-back : (c d : ClassExpr) (v : Value) → value_plainly writing x below_class (body.Sub c d) ≡ Some v → stated_plainly reading x below_class v ≡ Some (body.Sub c d)
  unfolding value_plainly stated_plainly
  below-back c d v is =
      let found = where_true_some (is_class x c) (as_id (class_id writing d)) v is in
      let id = id_back (class_id writing d) v found.1 in
      subst (λ w. stated_plainly reading x below_class w ≡ Some (body.Sub c d)) id.2
      (λ i. Some (body.Sub (is_class-back x c found.0 i) (class_id-back d id.0 id.1 i)))

  same_class-back : (make : List ℕ → List ℕ → Body) (both : ClassExpr → ClassExpr → Body) → ((a b : List ℕ) → make a b ≡ both (class_named a) (class_named b)) → (c d : ClassExpr) (id : List ℕ)
      → in_order (expr_text c) (expr_text d) ≡ true → option_and_then writing.id (other_class x c d) ≡ Some id → pair_of make x (reading.iri id) ≡ both c d
  same_class-back make both is_both c d id ordered is =
      let other = option_and_then_some writing.id (other_class x c d) id is in
      let one = option_and_then_some (λ one. option_and_then (λ two. other_of x one two) (class_iri d)) (class_iri c) other.0 other.1 in
      let two = option_and_then_some (λ two. other_of x one.0 two) (class_iri d) other.0 one.2 in
      let texts : in_order (iri_text one.0) (iri_text two.0) ≡ true = (λ i. in_order (sym (class_iri-text c one.0 one.1) i) (sym (class_iri-text d two.0 two.1) i)) ∙ ordered in
      ap (pair_of make x) (agree.ids other.0 id other.2).1 ∙ pair_back make x other.0 one.0 two.0 two.2 texts ∙ is_both one.0 two.0
      ∙ (λ i. both (class_iri-back c one.0 one.1 i) (class_iri-back d two.0 two.1 i))

  equivalent-back : (c d : ClassExpr) (v : Value) → in_order (expr_text c) (expr_text d) ≡ true → value_plainly writing x same_class (body.Equiv c d) ≡ Some v → stated_plainly reading x same_class v ≡ Some (body.Equiv c d)
  unfolding value_plainly stated_plainly
  equivalent-back c d v ordered is =
      let other = option_and_then_some (λ one. as_id (writing.id one)) (other_class x c d) v is in
      let id = id_back (writing.id other.0) v other.2 in
      let both : option_and_then writing.id (other_class x c d) ≡ Some id.0 = ap (option_and_then writing.id) other.1 ∙ id.1 in
      subst (λ w. stated_plainly reading x same_class w ≡ Some (body.Equiv c d)) id.2
      (ap Some (same_class-back same_classes body.Equiv (λ a b. refl) c d id.0 ordered both))

  inverse-back : (r s : List ℕ) (v : Value) → in_order (iri_text r) (iri_text s) ≡ true → value_plainly writing x inverse_role (body.Inverse r s) ≡ Some v → stated_plainly reading x inverse_role v ≡ Some (body.Inverse r s)
  unfolding value_plainly stated_plainly
  inverse-back r s v ordered is =
      let other = option_and_then_some (λ one. as_id (writing.role_id one)) (other_of x r s) v is in
      let id = id_back (writing.role_id other.0) v other.2 in
      subst (λ w. stated_plainly reading x inverse_role w ≡ Some (body.Inverse r s)) id.2
      (ap Some (ap (pair_of body.Inverse x) (agree.role_ids other.0 id.0 id.1).1 ∙ pair_back body.Inverse x other.0 r s other.1 ordered))

  over-back : (r s t : List ℕ) (v : Value) → value_plainly writing x over (body.Chain r s t) ≡ Some v → stated_plainly reading x over v ≡ Some (body.Chain r s t)
  unfolding value_plainly stated_plainly
  over-back r s t v is =
      let found = where_true_some (bytes_eq x r && bytes_eq x t) (as_id (writing.role_id s)) v is in
      let tests = and_parts (bytes_eq x r) (bytes_eq x t) found.0 in
      let id = id_back (writing.role_id s) v found.1 in
      subst (λ w. stated_plainly reading x over w ≡ Some (body.Chain r s t)) id.2
      (λ i. Some (body.Chain (same_bytes x r tests.0 i) ((agree.role_ids s id.0 id.1).1 i) (same_bytes x t tests.1 i)))

  chain-back : (r s t : List ℕ) (v : Value) → value_plainly writing x chain (body.Chain r s t) ≡ Some v → stated_plainly reading x chain v ≡ Some (body.Chain r s t)
  unfolding value_plainly stated_plainly
  chain-back r s t v is =
      let found = where_true_some (bytes_eq x t) (option_and_then (λ one. option_map (λ two. value.Pair one two) (writing.role_id s)) (writing.role_id r)) v is in
      let one = option_and_then_some (λ one. option_map (λ two. value.Pair one two) (writing.role_id s)) (writing.role_id r) v found.1 in
      let two = option_map_some (λ two. value.Pair one.0 two) (writing.role_id s) v one.2 in
      subst (λ w. stated_plainly reading x chain w ≡ Some (body.Chain r s t)) two.2
      (λ i. Some (body.Chain ((agree.role_ids r one.0 one.1).1 i) ((agree.role_ids s two.0 two.1).1 i) (same_bytes x t found.0 i)))

  pub record Words (d : ClassExpr) (v : Value) : Type 0 where
    pub role : List ℕ
    pub filler : List ℕ
    pub same : restriction reading role filler ≡ d
    pub value_is : value.Pair role filler ≡ v
    pub role_fits : is_readable role ≡ true
    pub filler_fits : is_readable filler ≡ true

  words_at : (layer : ClassExpr-F ClassExpr) (v : Value) → words_of writing layer ≡ Some v → Words (roll-ClassExpr layer) v
  unfolding restriction roll-ClassExpr denote.Hole.Carrier.roll
  words_at (ClassExpr-F.Some role part) v is =
      let r = option_and_then_some (λ r. option_map (λ c. value.Pair r c) (class_id writing part)) (writing.role_id role) v is in
      let c = option_map_some (λ c. value.Pair r.0 c) (class_id writing part) v r.2 in
      record {
        role = r.0;
        filler = c.0;
        same = λ i. expr.Some ((agree.role_ids role r.0 r.1).1 i) (class_id-back part c.0 c.1 i);
        value_is = c.2;
        role_fits = (agree.role_ids role r.0 r.1).0;
        filler_fits = class_id-readable part c.0 c.1;
      }
  words_at _ v is = absurd (none-some v is)

  pub words_back : (d : ClassExpr) (v : Value) → restriction_words writing d ≡ Some v → Words d v
  unfolding restriction_words
  words_back d v is = subst (λ e. Words e v) (roll-out-ClassExpr d) (words_at (out-ClassExpr d) v is)

  restricted-back : (c d : ClassExpr) (v : Value) → value_plainly writing x restricted (body.Sub c d) ≡ Some v → stated_plainly reading x restricted v ≡ Some (body.Sub c d)
  unfolding value_plainly stated_plainly
  restricted-back c d v is =
      let found = where_true_some (is_class x c) (restriction_words writing d) v is in
      let words = words_back d v found.1 in
      subst (λ w. stated_plainly reading x restricted w ≡ Some (body.Sub c d)) words.value_is
      (λ i. Some (body.Sub (is_class-back x c found.0 i) (words.same i)))

  disjoint-back : (c d : ClassExpr) (v : Value) → in_order (expr_text c) (expr_text d) ≡ true → value_plainly writing x disjoint_class (body.Disjoint c d) ≡ Some v → stated_plainly reading x disjoint_class v ≡ Some (body.Disjoint c d)
  unfolding value_plainly stated_plainly
  disjoint-back c d v ordered is =
      let other = option_and_then_some (λ one. as_id (writing.id one)) (other_class x c d) v is in
      let id = id_back (writing.id other.0) v other.2 in
      let both : option_and_then writing.id (other_class x c d) ≡ Some id.0 = ap (option_and_then writing.id) other.1 ∙ id.1 in
      subst (λ w. stated_plainly reading x disjoint_class w ≡ Some (body.Disjoint c d)) id.2
      (ap Some (same_class-back disjoint_classes body.Disjoint (λ a b. refl) c d id.0 ordered both))

  below_role-back : (r s : List ℕ) (v : Value) → value_plainly writing x below_role (body.SubRole r s) ≡ Some v → stated_plainly reading x below_role v ≡ Some (body.SubRole r s)
  unfolding value_plainly stated_plainly
  below_role-back r s v is =
      let found = where_true_some (bytes_eq x r) (as_id (writing.role_id s)) v is in
      let id = id_back (writing.role_id s) v found.1 in
      subst (λ w. stated_plainly reading x below_role w ≡ Some (body.SubRole r s)) id.2
      (λ i. Some (body.SubRole (same_bytes x r found.0 i) ((agree.role_ids s id.0 id.1).1 i)))

  -- a pair of relations, whatever is said of them
  role_pair-back : (make : List ℕ → List ℕ → Body) (r s : List ℕ) (v : Value) → in_order (iri_text r) (iri_text s) ≡ true → option_and_then (λ one. as_id (writing.role_id one)) (other_of x r s) ≡ Some v
      → (id : List ℕ) × (pair_of make x (reading.role_iri id) ≡ make r s) × (value.Id id ≡ v)
  role_pair-back make r s v ordered is =
      let other = option_and_then_some (λ one. as_id (writing.role_id one)) (other_of x r s) v is in
      let id = id_back (writing.role_id other.0) v other.2 in
      (id.0, ap (pair_of make x) (agree.role_ids other.0 id.0 id.1).1 ∙ pair_back make x other.0 r s other.1 ordered, id.2)

  same_role-back : (r s : List ℕ) (v : Value) → in_order (iri_text r) (iri_text s) ≡ true → value_plainly writing x same_role (body.EquivRoles r s) ≡ Some v → stated_plainly reading x same_role v ≡ Some (body.EquivRoles r s)
  unfolding value_plainly stated_plainly
  same_role-back r s v ordered is =
      let pair = role_pair-back body.EquivRoles r s v ordered is in
      subst (λ w. stated_plainly reading x same_role w ≡ Some (body.EquivRoles r s)) pair.2 (ap Some pair.1)

  disjoint_role-back : (r s : List ℕ) (v : Value) → in_order (iri_text r) (iri_text s) ≡ true → value_plainly writing x disjoint_role (body.DisjointRoles r s) ≡ Some v → stated_plainly reading x disjoint_role v ≡ Some (body.DisjointRoles r s)
  unfolding value_plainly stated_plainly
  disjoint_role-back r s v ordered is =
      let pair = role_pair-back body.DisjointRoles r s v ordered is in
      subst (λ w. stated_plainly reading x disjoint_role w ≡ Some (body.DisjointRoles r s)) pair.2 (ap Some pair.1)

  domain-back : (r : List ℕ) (c : ClassExpr) (v : Value) → value_plainly writing x has_domain (body.Domain r c) ≡ Some v → stated_plainly reading x has_domain v ≡ Some (body.Domain r c)
  unfolding value_plainly stated_plainly
  domain-back r c v is =
      let found = where_true_some (bytes_eq x r) (as_id (class_id writing c)) v is in
      let id = id_back (class_id writing c) v found.1 in
      subst (λ w. stated_plainly reading x has_domain w ≡ Some (body.Domain r c)) id.2
      (λ i. Some (body.Domain (same_bytes x r found.0 i) (class_id-back c id.0 id.1 i)))

  range-back : (r : List ℕ) (c : ClassExpr) (v : Value) → value_plainly writing x has_range (body.Range r c) ≡ Some v → stated_plainly reading x has_range v ≡ Some (body.Range r c)
  unfolding value_plainly stated_plainly
  range-back r c v is =
      let found = where_true_some (bytes_eq x r) (as_id (class_id writing c)) v is in
      let id = id_back (class_id writing c) v found.1 in
      subst (λ w. stated_plainly reading x has_range w ≡ Some (body.Range r c)) id.2
      (λ i. Some (body.Range (same_bytes x r found.0 i) (class_id-back c id.0 id.1 i)))

  member-back : (c : ClassExpr) (j : List ℕ) (v : Value) → value_plainly writing x member (body.ClassAssertion c j) ≡ Some v → stated_plainly reading x member v ≡ Some (body.ClassAssertion c j)
  unfolding value_plainly stated_plainly
  member-back c j v is =
      let found = where_true_some (bytes_eq x j) (as_id (class_id writing c)) v is in
      let id = id_back (class_id writing c) v found.1 in
      subst (λ w. stated_plainly reading x member w ≡ Some (body.ClassAssertion c j)) id.2
      (λ i. Some (body.ClassAssertion (class_id-back c id.0 id.1 i) (same_bytes x j found.0 i)))

  related-back : (r a b : List ℕ) (v : Value) → value_plainly writing x related (body.RoleAssertion r a b) ≡ Some v → stated_plainly reading x related v ≡ Some (body.RoleAssertion r a b)
  unfolding value_plainly stated_plainly
  related-back r a b v is =
      let found = where_true_some (bytes_eq x a) (option_and_then (λ role. option_map (λ id. value.Pair role id) (writing.id b)) (writing.role_id r)) v is in
      let role = option_and_then_some (λ role. option_map (λ id. value.Pair role id) (writing.id b)) (writing.role_id r) v found.1 in
      let id = option_map_some (λ id. value.Pair role.0 id) (writing.id b) v role.2 in
      subst (λ w. stated_plainly reading x related w ≡ Some (body.RoleAssertion r a b)) id.2
      (λ i. Some (body.RoleAssertion ((agree.role_ids r role.0 role.1).1 i) (same_bytes x a found.0 i) ((agree.ids b id.0 id.1).1 i)))

  -- a character of a relation
  character-back : (character : Character) (r : List ℕ) (v : Value) → where_true (bytes_eq x r) (Some (value.Bool true)) ≡ Some v → stated_plainly reading x (has_character character) v ≡ Some (character_body character r)
  unfolding stated_plainly
  character-back character r v is =
      let found = where_true_some (bytes_eq x r) (Some (value.Bool true)) v is in
      subst (λ w. stated_plainly reading x (has_character character) w ≡ Some (character_body character r)) (same_Some (value.Bool true) v found.1)
      (ap (λ y. Some (character_body character y)) (same_bytes x r found.0))

  -- ---- all statements

  pub statement-back : (statement : Statement) (one : Body) (v : Value) → is_proper_body one ≡ true → value_plainly writing x statement one ≡ Some v → stated_plainly reading x statement v ≡ Some one
  unfolding value_plainly is_proper_body is_proper_pair is_proper_role_pair
  statement-back below_class (body.Sub c d) v proper is = below-back c d v is
  statement-back restricted (body.Sub c d) v proper is = restricted-back c d v is
  statement-back same_class (body.Equiv c d) v proper is = equivalent-back c d v (and_parts _ _ proper).1 is
  statement-back disjoint_class (body.Disjoint c d) v proper is = disjoint-back c d v (and_parts _ _ proper).1 is
  statement-back below_role (body.SubRole r s) v proper is = below_role-back r s v is
  statement-back same_role (body.EquivRoles r s) v proper is = same_role-back r s v (and_parts _ _ proper).1 is
  statement-back disjoint_role (body.DisjointRoles r s) v proper is = disjoint_role-back r s v (and_parts _ _ proper).1 is
  statement-back inverse_role (body.Inverse r s) v proper is = inverse-back r s v (and_parts _ _ proper).1 is
  statement-back (has_character transitive) (body.Transitive r) v proper is = character-back transitive r v is
  statement-back (has_character reflexive) (body.Reflexive r) v proper is = character-back reflexive r v is
  statement-back (has_character symmetric) (body.Symmetric r) v proper is = character-back symmetric r v is
  statement-back (has_character asymmetric) (body.Asymmetric r) v proper is = character-back asymmetric r v is
  statement-back (has_character functional) (body.Functional r) v proper is = character-back functional r v is
  statement-back (has_character inverse_functional) (body.InverseFunctional r) v proper is = character-back inverse_functional r v is
  statement-back has_domain (body.Domain r c) v proper is = domain-back r c v is
  statement-back has_range (body.Range r c) v proper is = range-back r c v is
  statement-back over (body.Chain r s t) v proper is = over-back r s t v is
  statement-back chain (body.Chain r s t) v proper is = chain-back r s t v is
  statement-back member (body.ClassAssertion c j) v proper is = member-back c j v is
  statement-back related (body.RoleAssertion r a b) v proper is = related-back r a b v is
  statement-back _ _ v proper is = absurd (none-some v is)
