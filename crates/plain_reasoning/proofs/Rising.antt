-- Lists of edges that rise, and what stands at their places.
use Rattle.std.proofs.Common.{◌≡◌, ℕ, zero, suc, ◌<◌, true, false, List, [], ◌∷◌, Some, None, map, slice_get, refl, sym, ap, subst, ◌∙◌, true≢false, arith}
use Rattle.std.specs.Cmp.{then_total, on_total}
use Rattle.std.specs.Cmp.Lexicographic.{nat_list_cmp_total, slice_cmp}
use Rattle.std.specs.FinMap.{nat_cmp-IsAntisymmetric, slice_cmp-IsAntisymmetric}
use Rattle.std.specs.Ordering.{is_lt, nat_cmp, ordering_then}
use Rattle.std.specs.declared.cmp.Ordering.{Ordering}
use Rattle.std.specs.declared.cmp.Ordering.TheVariants.{Equal, Greater, Less}
use Rattle.std.specs.List.{AllByRecursion, IsDistinct}
use Rattle.text_sets.proofs.KeyLemmas.{never_below_itself}
use Rattle.text_sets.specs.Sorted.{IsBelowOn, IsKeyOrder, RisesOn}
use Rattle.owl_axioms.proofs.Same.{same_axiom-true}
use Rattle.owl_axioms.specs.Same.{same_axiom}
use Rattle.owl_axioms.specs.declared.body.Axiom.{Axiom}
use Rattle.reduce_edges.specs.Edges.{Pair, class_name, edge, edge_in}
use Rattle.el_taxonomy.specs.Direct.{comes_first}
use Rattle.el_taxonomy.specs.Reason.{inclusion_of}
use Rattle.el_taxonomy.specs.declared.edge.Edge.{Edge}
use Rattle.plain_reasoning.specs.Edges.{edge_cmp}
use Rattle.plain_reasoning.proofs.Told.{is_false}

-- ---- the order of edges

both_equal : (one other : Ordering) → ordering_then one other ≡ Equal → (one ≡ Equal) × (other ≡ Equal)
both_equal Less other h = let no : Less ≡ Equal = h in absurd (cc)
both_equal Equal other h = (refl, h)
both_equal Greater other h = let no : Greater ≡ Equal = h in absurd (cc)

ties : (one other : Edge) → edge_cmp one other ≡ Equal → one ≡ other
ties one other h =
    let same = both_equal (slice_cmp nat_cmp one.sub other.sub) (slice_cmp nat_cmp one.sup other.sup) h in
    let text = slice_cmp-IsAntisymmetric nat_cmp-IsAntisymmetric in
    λ i. record { sub = text one.sub other.sub same.0 i; sup = text one.sup other.sup same.1 i }

pub edge_order : IsKeyOrder edge_cmp
edge_order = record {
  total = then_total (on_total (λ (e : Edge). e.sub) nat_list_cmp_total) (on_total (λ (e : Edge). e.sup) nat_list_cmp_total);
  ties = ties;
}

less_is : (o : Ordering) → is_lt o ≡ true → o ≡ Less
less_is Less h = refl
less_is Equal h = absurd (true≢false (sym h))
less_is Greater h = absurd (true≢false (sym h))

-- ---- by places

abbrev pub Follow : List Edge → Type 0
Follow edges = (i j : ℕ) (one other : Edge) → slice_get edges i ≡ Some one → slice_get edges j ≡ Some other → i < j → comes_first one other ≡ true

abbrev self : Edge → Edge
self e = e

nothing_there : {P : Type 0} (e : Edge) (i : ℕ) → slice_get [] i ≡ Some e → P
nothing_there e i h = let no : None ≡ Some e = h in absurd (cc)

some_same : (e f : Edge) → Some e ≡ Some f → e ≡ f
some_same e f h = cc

below_at : (first : Edge) (edges : List Edge) → IsBelowOn edge_cmp self first edges → (j : ℕ) (other : Edge) → slice_get edges j ≡ Some other → comes_first first other ≡ true
below_at first [] below j other h = nothing_there other j h
below_at first (e ∷ edges) below zero other h = ap is_lt (subst (λ f. edge_cmp first f ≡ Less) (some_same e other h) below.0)
below_at first (e ∷ edges) below (suc j) other h = below_at first edges below.1 j other h

pub rising_follow : (edges : List Edge) → RisesOn edge_cmp self edges → Follow edges
rising_follow [] rises i j one other h k less = nothing_there one i h
rising_follow (e ∷ edges) rises i zero one other h k less = absurd (omega (arith, less))
rising_follow (e ∷ edges) rises zero (suc j) one other h k less = subst (λ f. comes_first f other ≡ true) (some_same e one h) (below_at e edges rises.0 j other k)
rising_follow (e ∷ edges) rises (suc i) (suc j) one other h k less = rising_follow edges rises.1 i j one other h k (omega (arith, less))

at_below : (first : Edge) (edges : List Edge) → ((j : ℕ) (other : Edge) → slice_get edges j ≡ Some other → comes_first first other ≡ true) → IsBelowOn edge_cmp self first edges
at_below first [] follows = tt
at_below first (e ∷ edges) follows = (less_is (edge_cmp first e) (follows zero e refl), at_below first edges (λ j other h. follows (suc j) other h))

pub follow_rising : (edges : List Edge) → Follow edges → RisesOn edge_cmp self edges
follow_rising [] follow = tt
follow_rising (e ∷ edges) follow = (
  at_below e edges (λ j other h. follow zero (suc j) e other refl h (omega arith)),
  follow_rising edges (λ i j one other h k less. follow (suc i) (suc j) one other h k (omega (arith, less))),
)

-- ---- the inclusions of rising edges are all different

edge_said : (a b : List ℕ) → let p : Pair = (a, b) in edge_in (edge a b) ≡ Some p
unfolding edge_in class_name
edge_said a b = refl

same_pair : (p q : Pair) → Some p ≡ Some q → p ≡ q
same_pair p q h = cc

same_edge : (e f : Edge) → inclusion_of e ≡ inclusion_of f → e ≡ f
same_edge e f is =
    let p : Pair = (e.sub, e.sup) in let q : Pair = (f.sub, f.sup) in
    let same : p ≡ q = same_pair p q (sym (edge_said e.sub e.sup) ∙ ap (λ (a : Axiom). edge_in a.body) is ∙ edge_said f.sub f.sup) in
    λ i. record { sub = (same i).0; sup = (same i).1 }

less_apart : (e f : Edge) → edge_cmp e f ≡ Less → same_axiom (inclusion_of e) (inclusion_of f) ≡ false
less_apart e f less = is_false (same_axiom (inclusion_of e) (inclusion_of f)) (λ h. never_below_itself edge_cmp edge_order self e f (same_edge e f (same_axiom-true (inclusion_of e) (inclusion_of f) h)) less)

apart_below : (e : Edge) (edges : List Edge) → IsBelowOn edge_cmp self e edges → AllByRecursion (λ a. same_axiom (inclusion_of e) a ≡ false) (map inclusion_of edges)
apart_below e [] below = tt
apart_below e (f ∷ edges) below = (less_apart e f below.0, apart_below e edges below.1)

pub inclusions_apart : (edges : List Edge) → RisesOn edge_cmp self edges → IsDistinct same_axiom (map inclusion_of edges)
unfolding IsDistinct
inclusions_apart [] rises = tt
inclusions_apart (e ∷ edges) rises = (apart_below e edges rises.0, inclusions_apart edges rises.1)
