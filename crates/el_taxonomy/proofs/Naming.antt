-- The edges between the classes of numbers, and their order.
use Rattle.std.proofs.Common.{◌≡◌, ℕ, zero, suc, ◌<◌, Bool, true, false, List, [], ◌∷◌, IsPermutation, Option, None, Some, slice_get, refl, sym, ap, subst, ◌∙◌, arith, true≢false}
use Rattle.std.specs.Cmp.{IsTotalOrder}
use Rattle.std.specs.FinMap.{nat_cmp-IsAntisymmetric, slice_cmp-IsAntisymmetric}
use Rattle.std.specs.List.{AllByRecursion, IsDistinct}
use Rattle.std.specs.List.Sorted.{IsSorted}
use Rattle.std.specs.Cmp.Lexicographic.{slice_cmp}
use Rattle.std.specs.Ordering.{is_eq, is_lt, nat_cmp, ordering_reverse, ordering_then}
use Rattle.std.specs.declared.cmp.Ordering.{Ordering}
use Rattle.std.specs.declared.cmp.Ordering.TheVariants.{Equal, Greater, Less}
use Rattle.std.proofs.lemmas.Cmp.{nat_list_cmp_total, on_total, then_total}
use Rattle.std.proofs.lemmas.List.MinMax.{ranks_by}
use Rattle.std.proofs.lemmas.List.Sorted.{sorted_far}
use Rattle.std.proofs.lemmas.Map.Keys.{IsDistinct-IsPermutation}
use Rattle.std.proofs.lemmas.Option.{get_or_from_slice_get, slice_get_within}
use Rattle.fact_rows.specs.Member.{In, NoRepeats, here, more, none, there}
use Rattle.fact_rows.proofs.Members.{by_bool, contains_from_in, from_flat_map, in_flat_map, in_from_contains, in_none, in_one, in_permuted, in_unpermuted}
use Rattle.fact_rows.proofs.Places.{in_from_get}
use Rattle.fact_rows.proofs.Repeats.{repeats_append}
use Rattle.rel_io.proofs.Options.{none_there, same_there}
use Rattle.owl_axioms.specs.Proper.{AreProper}
use Rattle.owl_axioms.specs.declared.body.Axiom.{Axiom}
use Rattle.owl_axioms.specs.declared.expr.ClassExpr.{ClassExpr}
use Rattle.owl_axioms.specs.declared.expr.ClassExpr.TheVariants as expr
use Rattle.direct_above.specs.Direct.{AreDirect}
use Rattle.el_part.specs.Part.{PartState, view_of}
use Rattle.el_rules.specs.Occurs.{IsDeclared}
use Rattle.el_rules.specs.Rules.{ElView}
use Rattle.el_saturate.specs.Table.{Facts}
use Rattle.el_taxonomy.specs.Direct.{AreDirectEdges, AreFactsOf, comes_first, edge_of}
use Rattle.el_taxonomy.specs.Taxonomy.{IsDirectEdge}
use Rattle.el_taxonomy.specs.declared.edge.Edge.{Edge}
use Rattle.el_taxonomy.specs.inner.Named.{class_if, class_numbered, edge_between, edge_numbered, edges_numbered}
use Rattle.el_taxonomy.specs.inner.Numbers.{AreClasses, AreDeclared, AreTold, IsNumberOf, class_name, exprs_of}
use Rattle.el_taxonomy.proofs.Bridge.{direct_there, ground_of, numbers_below, one_number, there_direct}
use Rattle.el_taxonomy.proofs.Numbers.{classes_same, name_is, named_class}
use Rattle.el_taxonomy.proofs.Occurring.{class_not_special}

-- ---- the class of a number

pub numbered : (exprs : List ClassExpr) (class : List ℕ) (k : ℕ) → IsNumberOf exprs class k → class_numbered exprs k ≡ Some class
unfolding class_if
numbered exprs class k h = ap class_if h ∙ named_class class

named_expr : (o : Option ClassExpr) (class : List ℕ) → class_if o ≡ Some class → o ≡ Some (expr.Class class)
unfolding class_if
named_expr None class h = absurd (none_there h)
named_expr (Some c) class h = ap Some (name_is c class h)

no_name : (o : Option ClassExpr) → ((class : List ℕ) → ¬ (o ≡ Some (expr.Class class))) → class_if o ≡ None
unfolding class_if
no_name None isnt = refl
no_name (Some c) isnt = by (class_name c) refl
  where
    by : (n : Option (List ℕ)) → class_name c ≡ n → n ≡ None
    by None e = refl
    by (Some a) e = absurd (isnt a (ap Some (name_is c a e)))

pub not_numbered : (exprs : List ClassExpr) (k : ℕ) → ((class : List ℕ) → ¬ (IsNumberOf exprs class k)) → class_numbered exprs k ≡ None
not_numbered exprs k isnt = no_name (slice_get exprs k) isnt

-- ---- the edge of a pair

between_are : (one other : Option (List ℕ)) (e : Edge) → In e (edge_between one other) → (one ≡ Some e.sub) × (other ≡ Some e.sup)
between_are (Some a) (Some b) e i = let s : e ≡ edge_of a b = in_one i in (ap (λ (x : Edge). Some x.sub) (sym s), ap (λ (x : Edge). Some x.sup) (sym s))
between_are (Some a) None e i = in_none i
between_are None other e i = in_none i

between_once : (one other : Option (List ℕ)) → NoRepeats (edge_between one other)
between_once (Some a) (Some b) = more in_none none
between_once (Some a) None = none
between_once None other = none

edge_numbers : (exprs : List ClassExpr) (p : ℕ × ℕ) (e : Edge) → In e (edge_numbered exprs p) → IsNumberOf exprs e.sub p.0 × IsNumberOf exprs e.sup p.1
edge_numbers exprs p e i =
    let are = between_are (class_numbered exprs p.0) (class_numbered exprs p.1) e i in
    (named_expr (slice_get exprs p.0) e.sub are.0, named_expr (slice_get exprs p.1) e.sup are.1)

numbers_edge : (exprs : List ClassExpr) (sub super : List ℕ) (i j : ℕ) → IsNumberOf exprs sub i → IsNumberOf exprs super j → In (edge_of sub super) (edge_numbered exprs (i, j))
numbers_edge exprs sub super i j one other =
    let same : edge_numbered exprs (i, j) ≡ edge_of sub super ∷ [] = λ k. edge_between (numbered exprs sub i one k) (numbered exprs super j other k) in
    subst (In (edge_of sub super)) (sym same) here

-- ---- the order of edges

abbrev pub edge_cmp : Edge → Edge → Ordering
edge_cmp one other = ordering_then (slice_cmp nat_cmp one.sub other.sub) (slice_cmp nat_cmp one.sup other.sup)

edge_total : IsTotalOrder edge_cmp
edge_total = then_total (on_total (λ (e : Edge). e.sub) nat_list_cmp_total) (on_total (λ (e : Edge). e.sup) nat_list_cmp_total)

same_edge : Edge → Edge → Bool
same_edge one other = is_eq (edge_cmp one other)

both_equal : (one other : Ordering) → is_eq (ordering_then one other) ≡ true → (one ≡ Equal) × (other ≡ Equal)
both_equal Less other h = absurd (true≢false (sym h))
both_equal Greater other h = absurd (true≢false (sym h))
both_equal Equal Less h = absurd (true≢false (sym h))
both_equal Equal Equal h = (refl, refl)
both_equal Equal Greater h = absurd (true≢false (sym h))

same_edge_tells : (one other : Edge) → same_edge one other ≡ true → one ≡ other
unfolding same_edge
same_edge_tells one other h =
    let p = both_equal (slice_cmp nat_cmp one.sub other.sub) (slice_cmp nat_cmp one.sup other.sup) h in
    let sub = slice_cmp-IsAntisymmetric nat_cmp-IsAntisymmetric one.sub other.sub p.0 in
    let super = slice_cmp-IsAntisymmetric nat_cmp-IsAntisymmetric one.sup other.sup p.1 in
    λ i. record { sub = sub i; sup = super i }

reverse_equal : (o : Ordering) → is_eq (ordering_reverse o) ≡ is_eq o
reverse_equal Less = refl
reverse_equal Equal = refl
reverse_equal Greater = refl

same_edge_flips : (one other : Edge) → same_edge one other ≡ same_edge other one
unfolding same_edge
same_edge_flips one other = ap is_eq (edge_total.antisymm one other) ∙ reverse_equal (edge_cmp other one)

apart : (xs : List Edge) → NoRepeats xs → IsDistinct same_edge xs
unfolding IsDistinct
apart [] once = tt
apart (x ∷ xs) (more isnt once) = (others xs isnt, apart xs once)
  where
    others : (ys : List Edge) → (In x ys → ⊥) → AllByRecursion (λ y. same_edge x y ≡ false) ys
    others [] isnt = tt
    others (y ∷ ys) isnt = (
      by_bool (same_edge x y) (λ same. absurd (isnt (subst (λ z. In z (y ∷ ys)) (sym (same_edge_tells x y same)) here))) (λ other. other),
      others ys (λ i. isnt (there i)),
    )

apart_from : (x : Edge) (ys : List Edge) (j : ℕ) (other : Edge) → AllByRecursion (λ y. same_edge x y ≡ false) ys → slice_get ys j ≡ Some other → same_edge x other ≡ false
apart_from x [] j other all at = absurd (none_there at)
apart_from x (y ∷ ys) zero other all at = subst (λ z. same_edge x z ≡ false) (same_there at) all.0
apart_from x (y ∷ ys) (suc j) other all at = apart_from x ys j other all.1 at

apart_at : (ys : List Edge) (i j : ℕ) (one other : Edge) → IsDistinct same_edge ys → slice_get ys i ≡ Some one → slice_get ys j ≡ Some other → i < j → same_edge one other ≡ false
unfolding IsDistinct
apart_at [] i j one other all one_at other_at low = absurd (none_there one_at)
apart_at (y ∷ ys) zero zero one other all one_at other_at low = absurd (omega (arith, low))
apart_at (y ∷ ys) zero (suc j) one other all one_at other_at low = subst (λ z. same_edge z other ≡ false) (same_there one_at) (apart_from y ys j other all.0 other_at)
apart_at (y ∷ ys) (suc i) zero one other all one_at other_at low = absurd (omega (arith, low))
apart_at (y ∷ ys) (suc i) (suc j) one other all one_at other_at low = apart_at ys i j one other all.1 one_at other_at (omega (arith, low))

less_from : (one other : Ordering) → other ≡ ordering_reverse one → is_lt other ≡ false → is_eq one ≡ false → is_lt one ≡ true
less_from Less other e low differs = refl
less_from Equal other e low differs = absurd (true≢false differs)
less_from Greater other e low differs = absurd (true≢false (sym (ap is_lt e) ∙ low))

strictly : (xs ys : List Edge) → IsPermutation xs ys → NoRepeats xs → IsSorted edge_cmp ys
    → (i j : ℕ) (one other : Edge) → slice_get ys i ≡ Some one → slice_get ys j ≡ Some other → i < j → comes_first one other ≡ true
unfolding same_edge
strictly xs ys moved once sorted i j one other one_at other_at low =
    let far = sorted_far (λ a b. is_lt (edge_cmp a b)) (ranks_by edge_total (λ (e : Edge). e)) ys sorted i j one (omega (arith, low)) (slice_get_within ys j other other_at) in
    let isnt : is_lt (edge_cmp other one) ≡ false = (λ k. is_lt (edge_cmp (sym (get_or_from_slice_get ys j other one other_at) k) (sym (get_or_from_slice_get ys i one one one_at) k))) ∙ far in
    less_from (edge_cmp one other) (edge_cmp other one) (edge_total.antisymm other one) isnt
    (apart_at ys i j one other (IsDistinct-IsPermutation same_edge same_edge_flips xs ys moved (apart xs once)) one_at other_at low)

-- ---- the direct edges

module _ (axioms : List Axiom) (trees : List ClassExpr) (part : PartState) (limit : ℕ) (table : Facts) (are : AreFactsOf axioms trees part limit table) where
  abbrev exprs : List ClassExpr
  exprs = exprs_of trees part

  abbrev view : ElView
  view = view_of trees part

  one_pair : (p q : ℕ × ℕ) (e : Edge) → In e (edge_numbered exprs p) → In e (edge_numbered exprs q) → p ≡ q
  one_pair p q e i j =
      let one = edge_numbers exprs p e i in
      let other = edge_numbers exprs q e j in
      let ground = ground_of axioms trees part limit table are in
      let a = one_number trees part table ground e.sub p.0 q.0 one.0 other.0 in
      let b = one_number trees part table ground e.sup p.1 q.1 one.1 other.1 in
      λ k. (a k, b k)

  edges_once : (pairs : List (ℕ × ℕ)) → NoRepeats pairs → NoRepeats (edges_numbered exprs pairs)
  edges_once [] once = none
  edges_once (p ∷ pairs) (more isnt once) =
      repeats_append (between_once (class_numbered exprs p.0) (class_numbered exprs p.1)) (edges_once pairs once)
      (λ e i j. let f = from_flat_map (edge_numbered exprs) pairs j in isnt (subst (λ q. In q pairs) (sym (one_pair p f.it e i f.out)) f.inside))

  module _ (told : List (List ℕ)) (classes declareds : List Bool) (are_classes : AreClasses exprs classes) (are_declared : AreDeclared exprs axioms declareds) (are_told : AreTold exprs axioms told)
      (pairs : List (ℕ × ℕ)) (direct : AreDirect table.table.below told classes declareds pairs) where
    edge_direct : AreProper axioms → (sub super : List ℕ) → In (edge_of sub super) (edges_numbered exprs pairs) → IsDirectEdge axioms view sub super
    edge_direct proper sub super i =
        let f = from_flat_map (edge_numbered exprs) pairs i in
        let p = f.it in
        let n = edge_numbers exprs p (edge_of sub super) f.out in
        let on = direct.on p.0 p.1 f.inside in
        let d = (are_declared.each p.0).0 on.0 in
        let class : d.0 ≡ sub = classes_same d.0 sub (same_there (sym d.1 ∙ n.0)) in
        let special = class_not_special axioms trees part limit table are proper sub (in_from_get exprs p.0 (expr.Class sub) n.0) in
        direct_there axioms trees part limit table are told classes declareds are_classes are_declared are_told p.0 p.1 sub super n.0 n.1
        (record { declared = subst (IsDeclared axioms) class d.2; no_thing = special.0; no_nothing = special.1 }) on.1

    direct_edge : (sub super : List ℕ) → IsDirectEdge axioms view sub super → In (edge_of sub super) (edges_numbered exprs pairs)
    direct_edge sub super edge =
        let n = numbers_below axioms trees part limit table are sub super edge.below in
        let i = n.0.0 in
        let j = n.1.0 in
        let flagged = (are_declared.each i).1 (sub, n.0.1, edge.declared.declared) in
        in_flat_map (edge_numbered exprs) (direct.each i j flagged (there_direct axioms trees part limit table are told classes declareds are_classes are_declared are_told i j sub super n.0.1 n.1.1 edge)) (numbers_edge exprs sub super i j n.0.1 n.1.1)

    pub direct_edges : AreProper axioms → (edges sorted : List Edge) → edges ≡ edges_numbered exprs pairs → IsPermutation edges sorted → IsSorted edge_cmp sorted → AreDirectEdges axioms view sorted
    direct_edges proper edges sorted is moved order = record {
      exactly = λ sub super. (
        λ held. edge_direct proper sub super (subst (In (edge_of sub super)) is (in_unpermuted edges sorted moved (edge_of sub super) (in_from_contains sorted (edge_of sub super) held))),
        λ edge. contains_from_in (in_permuted edges sorted moved (edge_of sub super) (subst (In (edge_of sub super)) (sym is) (direct_edge sub super edge))),
      );
      sorted = strictly edges sorted moved (subst NoRepeats (sym is) (edges_once pairs direct.once)) order;
    }
