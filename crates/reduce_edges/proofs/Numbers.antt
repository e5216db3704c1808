-- Edges between numbers stand for edges between names.
use Rattle.std.proofs.Common.{◌≡◌, ℕ, ◌+◌, zero, suc, List, [], ◌∷◌, ◌++◌, None, Some, Option, length, map, slice_get, take, inl, inr, refl, sym, ap, subst, ◌∙◌, append_assoc, append-nil, nat_eq, true, false, true≢false}
use Rattle.std.specs.Cmp.Lexicographic.{pointwise}
use Rattle.std.specs.List.{AllByRecursion, IsDistinct}
use Rattle.std.proofs.lemmas.Cmp.{nat_list_eq_equiv}
use Rattle.std.proofs.lemmas.List.{map-append, take_more}
use Rattle.std.proofs.lemmas.Map.Keys.{IsDistinct-head, IsDistinct-tail}
use Rattle.std.proofs.lemmas.Option.{get_or_from_slice_get, slice_get_within}
use Rattle.edge_detours.proofs.RankLemmas.{from_get_map, get_map}
use Rattle.edge_detours.specs.Reach.{AreWithin, Edges}
use Rattle.fact_rows.proofs.Members.{from_map, in_map}
use Rattle.fact_rows.proofs.Places.{get_inside}
use Rattle.fact_rows.specs.Member.{In}
use Rattle.owl_axioms.proofs.Members as list
use Rattle.owl_axioms.specs.declared.body.Axiom.{Axiom}
use Rattle.owl_axioms.specs.declared.body.Body.{Body}
use Rattle.owl_axioms.specs.declared.body.Body.TheVariants as body
use Rattle.owl_axioms.specs.declared.expr.ClassExpr.{ClassExpr}
use Rattle.owl_axioms.specs.declared.expr.ClassExpr.TheVariants as expr
use Rattle.owl_ontology.proofs.Entries.{all_at}
use Rattle.reduce_edges.specs.Edges.{Pair, class_name, edge, edge_in, edge_list, edges_of, pair_of}
use Rattle.reduce_edges.specs.inner.Numbered.{AreApart, AreMore, StandFor, both_some, named}

-- ---- parts of what is the same

pub cons_same : {A : Type 0} (x y : A) (xs ys : List A) → x ∷ xs ≡ y ∷ ys → (x ≡ y) × (xs ≡ ys)
cons_same x y xs ys same = (cc, cc)

pub some_same : {A : Type 0} (x y : A) → Some x ≡ Some y → x ≡ y
some_same x y same = cc

pub none_some : {A : Type 0} {P : Type 0} (x : A) → None ≡ Some x → P
none_some x same = absurd (cc)

abbrev Names : Type 0
Names = Option (List ℕ) × Option (List ℕ)

pub names_parts : (names : List (List ℕ)) (e : ℕ × ℕ) (p : Pair) → named names e ≡ both_some p → (slice_get names e.0 ≡ Some p.0) × (slice_get names e.1 ≡ Some p.1)
names_parts names e p same = (ap (λ (n : Names). n.0) same, ap (λ (n : Names). n.1) same)

pub of_parts : (names : List (List ℕ)) (e : ℕ × ℕ) (p : Pair) → slice_get names e.0 ≡ Some p.0 → slice_get names e.1 ≡ Some p.1 → named names e ≡ both_some p
of_parts names e p one other = λ i. (one i, other i)

-- ---- one edge more

pub stands_more : (before after : List (List ℕ)) (es : Edges) (ps : List Pair) → AreMore before after → StandFor before es ps → StandFor after es ps
stands_more before after [] [] more stands = refl
stands_more before after [] (p ∷ ps) more stands = absurd (cc)
stands_more before after (e ∷ es) [] more stands = absurd (cc)
stands_more before after (e ∷ es) (p ∷ ps) more stands =
    let parts = cons_same (named before e) (both_some p) (map (named before) es) (map both_some ps) stands in
    let names = names_parts before e p parts.0 in
    let first = of_parts after e p (more e.0 p.0 names.0) (more e.1 p.1 names.1) in
    let rest : map (named after) es ≡ map both_some ps = stands_more before after es ps more parts.1 in
    λ i. first i ∷ rest i

pub stands_push : (before after : List (List ℕ)) (es : Edges) (ps : List Pair) (e : ℕ × ℕ) (p : Pair) → AreMore before after → slice_get after e.0 ≡ Some p.0 → slice_get after e.1 ≡ Some p.1 → StandFor before es ps → StandFor after (es ++ e ∷ []) (ps ++ p ∷ [])
stands_push before after es ps e p more one other stands =
    let old : map (named after) es ≡ map both_some ps = stands_more before after es ps more stands in
    let new = of_parts after e p one other in
    map-append (named after) es (e ∷ []) ∙ (λ i. old i ++ new i ∷ []) ∙ sym (map-append both_some ps (p ∷ []))

-- ---- the edges of axioms

edges_push : (axioms : List Axiom) (a : Axiom) → edges_of (axioms ++ a ∷ []) ≡ edges_of axioms ++ edge_list (edge_in a.body)
edges_push [] a = append-nil (edge_list (edge_in a.body))
edges_push (b ∷ axioms) a = ap (λ rest. edge_list (edge_in b.body) ++ rest) (edges_push axioms a) ∙ sym (append_assoc (edge_list (edge_in b.body)) (edges_of axioms) (edge_list (edge_in a.body)))

pub take_at : {A : Type 0} (xs : List A) (i : ℕ) (x : A) → slice_get xs i ≡ Some x → take (i + 1) xs ≡ take i xs ++ x ∷ []
take_at xs i x at = take_more xs i x (slice_get_within xs i x at) ∙ ap (λ y. take i xs ++ y ∷ []) (get_or_from_slice_get xs i x x at)

pub edges_at : (axioms : List Axiom) (i : ℕ) (a : Axiom) → slice_get axioms i ≡ Some a → edges_of (take (i + 1) axioms) ≡ edges_of (take i axioms) ++ edge_list (edge_in a.body)
edges_at axioms i a at = ap edges_of (take_at axioms i a at) ∙ edges_push (take i axioms) a

pub edge_said : (sub super : List ℕ) → (let p : Pair = (sub, super) in edge_in (edge sub super) ≡ Some p)
unfolding class_name edge_in
edge_said sub super = refl

class_is : (c : ClassExpr) (a : List ℕ) → class_name c ≡ Some a → c ≡ expr.Class a
unfolding class_name
class_is (expr.Class iri) a is = ap expr.Class (some_same iri a is)
class_is other a is = none_some a is

pair_parts : (one other : Option (List ℕ)) (p : Pair) → pair_of one other ≡ Some p → (one ≡ Some p.0) × (other ≡ Some p.1)
pair_parts None other p is = none_some p is
pair_parts (Some a) None p is = none_some p is
pair_parts (Some a) (Some c) p is = let q : Pair = (a, c) in let same = some_same q p is in (ap (λ (r : Pair). Some r.0) same, ap (λ (r : Pair). Some r.1) same)

pub said_edge : (b : Body) (p : Pair) → edge_in b ≡ Some p → b ≡ edge p.0 p.1
unfolding edge_in
said_edge (body.Sub c d) p is =
    let parts = pair_parts (class_name c) (class_name d) p is in
    let sub = class_is c p.0 parts.0 in
    let super = class_is d p.1 parts.1 in
    λ i. body.Sub (sub i) (super i)
said_edge other p is = none_some p is

-- one edge is said by one axiom of them
in_list : (said : Option Pair) (p : Pair) → said ≡ Some p → list.In p (edge_list said)
in_list None p is = none_some p is
in_list (Some q) p is = inl (some_same q p is)

from_list : (said : Option Pair) (p : Pair) → list.In p (edge_list said) → said ≡ Some p
from_list None p here = absurd here
from_list (Some q) p (inl is) = ap Some is
from_list (Some q) p (inr later) = absurd later

append_left : {A : Type 0} (x : A) (xs ys : List A) → list.In x xs → list.In x (xs ++ ys)
append_left x [] ys here = absurd here
append_left x (y ∷ xs) ys (inl is) = inl is
append_left x (y ∷ xs) ys (inr later) = inr (append_left x xs ys later)

append_right : {A : Type 0} (x : A) (xs ys : List A) → list.In x ys → list.In x (xs ++ ys)
append_right x [] ys here = here
append_right x (y ∷ xs) ys here = inr (append_right x xs ys here)

by_parts : {A P : Type 0} (x : A) (xs ys : List A) → list.In x (xs ++ ys) → (list.In x xs → P) → (list.In x ys → P) → P
by_parts x [] ys here first second = second here
by_parts x (y ∷ xs) ys (inl is) first second = first (inl is)
by_parts x (y ∷ xs) ys (inr later) first second = by_parts x xs ys later (λ h. first (inr h)) second

pub in_edges : (axioms : List Axiom) (one : Axiom) (p : Pair) → list.In one axioms → edge_in one.body ≡ Some p → list.In p (edges_of axioms)
in_edges [] one p here is = absurd here
in_edges (a ∷ axioms) one p (inl same) is = append_left p (edge_list (edge_in a.body)) (edges_of axioms) (in_list (edge_in a.body) p (ap (λ (x : Axiom). edge_in x.body) same ∙ is))
in_edges (a ∷ axioms) one p (inr later) is = append_right p (edge_list (edge_in a.body)) (edges_of axioms) (in_edges axioms one p later is)

pub record SaidBy (axioms : List Axiom) (p : Pair) : Type 0 where
  pub one : Axiom
  pub stands : list.In one axioms
  pub says : edge_in one.body ≡ Some p

pub from_edges : (axioms : List Axiom) (p : Pair) → list.In p (edges_of axioms) → SaidBy axioms p
from_edges [] p here = absurd here
from_edges (a ∷ axioms) p here =
    by_parts p (edge_list (edge_in a.body)) (edges_of axioms) here
    (λ first. let said : SaidBy (a ∷ axioms) p = record { one = a; stands = inl refl; says = from_list (edge_in a.body) p first } in said)
    (λ rest. let found = from_edges axioms p rest in let said : SaidBy (a ∷ axioms) p = record { one = found.one; stands = inr found.stands; says = found.says } in said)

-- ---- places

pub record Stands (names : List (List ℕ)) (e : ℕ × ℕ) (p : Pair) : Type 0 where
  pub sub : slice_get names e.0 ≡ Some p.0
  pub super : slice_get names e.1 ≡ Some p.1

pub record PairAt (names : List (List ℕ)) (ps : List Pair) (k : ℕ) (e : ℕ × ℕ) : Type 0 where
  pub pair : Pair
  pub at : slice_get ps k ≡ Some pair
  pub stands : Stands names e pair

pub record EdgeAt (names : List (List ℕ)) (es : Edges) (k : ℕ) (p : Pair) : Type 0 where
  pub pair : ℕ × ℕ
  pub at : slice_get es k ≡ Some pair
  pub stands : Stands names pair p

stands_by : (names : List (List ℕ)) (e : ℕ × ℕ) (p : Pair) → named names e ≡ both_some p → Stands names e p
stands_by names e p same = let parts = names_parts names e p same in record { sub = parts.0; super = parts.1 }

pub pair_at : (names : List (List ℕ)) (es : Edges) (ps : List Pair) (k : ℕ) (e : ℕ × ℕ) → StandFor names es ps → slice_get es k ≡ Some e → PairAt names ps k e
pair_at names es ps k e stands at =
    let found = from_get_map both_some ps k (named names e) (ap (λ ns. slice_get ns k) (sym stands) ∙ get_map (named names) es k e at) in
    record { pair = found.it; at = found.at; stands = stands_by names e found.it found.is }

pub edge_at : (names : List (List ℕ)) (es : Edges) (ps : List Pair) (k : ℕ) (p : Pair) → StandFor names es ps → slice_get ps k ≡ Some p → EdgeAt names es k p
edge_at names es ps k p stands at =
    let found = from_get_map (named names) es k (both_some p) (ap (λ ns. slice_get ns k) stands ∙ get_map both_some ps k p at) in
    record { pair = found.it; at = found.at; stands = stands_by names found.it p (sym found.is) }

-- each number has a name
pub stands_within : (names : List (List ℕ)) (es : Edges) (ps : List Pair) → StandFor names es ps → AreWithin (length names) es
stands_within names es ps stands a c found_in =
    let there : In (named names (a, c)) (map both_some ps) = subst (λ ns. In (named names (a, c)) ns) stands (in_map (named names) found_in) in
    let found = from_map both_some ps there in
    let parts = names_parts names (a, c) found.it found.is in
    (get_inside names a found.it.0 parts.0, get_inside names c found.it.1 parts.1)

not_behind : (x : List ℕ) (names : List (List ℕ)) (n : ℕ) (a : List ℕ) → AllByRecursion (λ y. pointwise nat_eq x y ≡ false) names → slice_get names n ≡ Some a → x ≡ a → ⊥
not_behind x names n a all at is = true≢false (sym (subst (λ y. pointwise nat_eq x y ≡ true) is (nat_list_eq_equiv.refl x)) ∙ all_at (λ y. pointwise nat_eq x y ≡ false) names n a all at)

-- different names have different numbers
pub apart_from : (names : List (List ℕ)) → IsDistinct (pointwise nat_eq) names → AreApart names
apart_from [] apart m n a one other = none_some a one
apart_from (x ∷ names) apart zero zero a one other = refl
apart_from (x ∷ names) apart zero (suc n) a one other = absurd (not_behind x names n a (IsDistinct-head (pointwise nat_eq) x names apart) other (some_same x a one))
apart_from (x ∷ names) apart (suc m) zero a one other = absurd (not_behind x names m a (IsDistinct-head (pointwise nat_eq) x names apart) one (some_same x a other))
apart_from (x ∷ names) apart (suc m) (suc n) a one other = ap suc (apart_from names (IsDistinct-tail (pointwise nat_eq) x names apart) m n a one other)
