-- The index of a pool, node by node.
use Rattle.std.proofs.Common.{◌≡◌, ℕ, zero, suc, ◌+◌, ◌<◌, ◌≤◌, ◌⊎◌, Bool, true, List, [], ◌∷◌, ◌++◌, Option, None, Some, inl, inr, get_or, length, nat_lt, replicate, slice_get, take, refl, sym, ap, subst, ◌∙◌, add-one, arith}
use Rattle.std.specs.List.{list_all}
use Rattle.std.proofs.lemmas.Bool.{cases_lt}
use Rattle.std.proofs.lemmas.Option.{slice_get-get_or}
use Rattle.fact_rows.specs.Member.{In, here, there}
use Rattle.fact_rows.proofs.Members.{in_cons, in_none, in_parts}
use Rattle.name_lists.proofs.ListLemmas.{in_from, in_kept, in_with, long_with}
use Rattle.name_lists.proofs.NamedLemmas.{added_from, added_has, added_keeps}
use Rattle.name_lists.specs.Lists.{HasNumber, NamedState, list_with}
use Rattle.expr_pool.proofs.Lists.{both, lt_from}
use Rattle.expr_pool.proofs.PartLemmas.{in_map, parts_of_cell}
use Rattle.expr_pool.specs.Part.{parts_of}
use Rattle.expr_pool.specs.Pool.{AreDifferent, IsBefore, nodes_of, tree_at, tree_of}
use Rattle.expr_pool.specs.declared.cell.Cell.{Cell}
use Rattle.expr_pool.specs.declared.cell.Cell.TheVariants as cell
use Rattle.expr_pool.specs.declared.cell.Node.{Node}
use Rattle.owl_axioms.proofs.Adding.{take_suc}
use Rattle.owl_axioms.specs.declared.expr.ClassExpr.{ClassExpr}
use Rattle.owl_axioms.specs.declared.name.Name.{Name}
use Rattle.locality_core.proofs.Cells.{layer_of, out_of}
use Rattle.locality_core.specs.Verdicts.{IsIndex, top_name, top_name_of}
use Rattle.locality_core.specs.inner.Renewal.{IsAbove, IsIndexTo, IsUsedBy, cell_name}

none_some : {X P : Type 0} (x : X) → None ≡ Some x → P
none_some x h = absurd cc

some_is : {X : Type 0} {x y : X} → Some x ≡ Some y → x ≡ y
some_is h = cc

pub passes : {X : Type 0} (test : X → Bool) (x : X) (xs : List X) → list_all test xs ≡ true → In x xs → test x ≡ true
passes test x [] h k = in_none k
passes test x (y ∷ xs) h k = let p = both (test y) (list_all test xs) h in elim (in_cons k) [
  | inl e ↦ ap test e ∙ p.0
  | inr m ↦ passes test x xs p.1 m
]

-- ---- the parts of a node

pub above_none : (old : List (List ℕ)) (at : ℕ) → IsAbove old [] at old
above_none old at = record { long = refl; has = λ n h. in_none h; kept = λ j i h. h; from = λ j i h. inl h }

above_more : (old mid : List (List ℕ)) (ns : List Node) (n : Node) (at : ℕ) → IsAbove old ns at mid → n.place < length mid → IsAbove old (ns ++ n ∷ []) at (list_with mid n.place at)
above_more old mid ns n at a l = record {
  long = long_with mid n.place at ∙ a.long;
  has = λ m h. elim (in_parts ns h) [
    | inl k ↦ in_kept mid n.place at m.place at (a.has m k)
    | inr k ↦ elim (in_cons k) [
      | inl e ↦ subst (λ (q : Node). In at (get_or (list_with mid n.place at) q.place [])) (sym e) (in_with mid n.place at l)
      | inr z ↦ in_none z
    ]
  ];
  kept = λ j i h. in_kept mid n.place at j i (a.kept j i h);
  from = λ j i h. elim (in_from mid n.place at j i h) [
    | inl k ↦ a.from j i k
    | inr e ↦ inr e
  ];
}

pub above_next : (old mid new : List (List ℕ)) (ns : List Node) (k : ℕ) (n : Node) (at : ℕ) → IsAbove old (take k ns) at mid → slice_get ns k ≡ Some n → n.place < length mid → new ≡ list_with mid n.place at → IsAbove old (take (k + 1) ns) at new
above_next old mid new ns k n at a here_is l is =
    subst (λ xs. IsAbove old xs at new) (sym (ap (λ m. take m ns) (add-one k) ∙ take_suc ns k n here_is))
    (subst (λ ys. IsAbove old (take k ns ++ n ∷ []) at ys) (sym is) (above_more old mid (take k ns) n at a l))

take_all : (ns : List Node) (k : ℕ) → length ns ≤ k → take k ns ≡ ns
take_all [] zero h = refl
take_all [] (suc k) h = refl
take_all (n ∷ ns) zero h = absurd (omega (arith, h))
take_all (n ∷ ns) (suc k) h = ap (λ xs. n ∷ xs) (take_all ns k (omega (arith, h)))

pub above_all : (old new : List (List ℕ)) (ns : List Node) (k at : ℕ) → length ns ≤ k → IsAbove old (take k ns) at new → IsAbove old ns at new
above_all old new ns k at l a = subst (λ xs. IsAbove old xs at new) (take_all ns k l) a

-- a node among those before a place
pub node_within : (ns : List Node) (k bound : ℕ) (n : Node) → list_all (λ (m : Node). nat_lt m.place bound) ns ≡ true → slice_get ns k ≡ Some n → n.place < bound
node_within [] k bound n h here_is = none_some n here_is
node_within (m ∷ ns) k bound n h here_is = lt_from n.place bound (passes (λ (m : Node). nat_lt m.place bound) n (m ∷ ns) h (in_at (m ∷ ns) k here_is))
  where
    in_at : (xs : List Node) (i : ℕ) → slice_get xs i ≡ Some n → In n xs
    in_at [] i e = none_some n e
    in_at (x ∷ xs) zero e = subst (λ y. In n (y ∷ xs)) (sym (some_is e)) here
    in_at (x ∷ xs) (suc i) e = there (in_at xs i e)

-- ---- the name of a node

layer_name : (ts : List ClassExpr) (c : Cell) → top_name_of (layer_of ts c) ≡ cell_name c
unfolding layer_of cell_name
layer_name ts cell.Thing = refl
layer_name ts cell.Nothing = refl
layer_name ts (cell.Class iri) = refl
layer_name ts (cell.And ns) = refl
layer_name ts (cell.Or ns) = refl
layer_name ts (cell.Not n) = refl
layer_name ts (cell.Some r n) = refl
layer_name ts (cell.All r n) = refl
layer_name ts (cell.Min k r n) = refl
layer_name ts (cell.Max k r n) = refl
layer_name ts (cell.Exact k r n) = refl

tree_name : (ts : List ClassExpr) (c : Cell) → top_name (tree_of ts c) ≡ cell_name c
unfolding top_name
tree_name ts c = ap top_name_of (out_of ts c) ∙ layer_name ts c

used_has : (o : Option Name) (old new : NamedState) (at : ℕ) (n : Name) → IsUsedBy o old at new → o ≡ Some n → HasNumber new n at
used_has None old new at n u e = none_some n e
used_has (Some m) old new at n (have, a) e = subst (λ q. HasNumber new q at) (some_is e) (added_has old have m at new a)

used_keeps : (o : Option Name) (old new : NamedState) (at : ℕ) → IsUsedBy o old at new → (n : Name) (i : ℕ) → HasNumber old n i → HasNumber new n i
used_keeps None old new at u n i h = subst (λ s. HasNumber s n i) (sym u) h
used_keeps (Some m) old new at (have, a) n i h = added_keeps old have m at new a n i h

used_from : (o : Option Name) (old new : NamedState) (at : ℕ) → IsUsedBy o old at new → (s i : ℕ) → In i (get_or new.lists s []) → In i (get_or old.lists s []) ⊎ (i ≡ at)
used_from None old new at u s i h = inl (subst (λ (t : NamedState). In i (get_or t.lists s [])) u h)
used_from (Some m) old new at (have, a) s i h = added_from old have m at new a s i h

-- ---- one node more

no_list : (n j i : ℕ) → In i (get_or (replicate n []) j []) → ⊥
no_list zero j i h = in_none h
no_list (suc n) zero i h = in_none h
no_list (suc n) (suc j) i h = no_list n j i h

long_replicate : (n : ℕ) → length (replicate {A = List ℕ} n []) ≡ n
long_replicate zero = refl
long_replicate (suc n) = ap suc (long_replicate n)

pub index_none : (ts : List ClassExpr) (n : ℕ) (wholes : List (List ℕ)) (uses : NamedState) → wholes ≡ replicate n [] → n ≡ length ts → uses.lists ≡ [] → IsIndexTo ts 0 wholes uses
index_none ts n wholes uses is long none = record {
  parts = λ i j t p l. absurd (omega (arith, l));
  names = λ i t m l. absurd (omega (arith, l));
  many = ap length is ∙ long_replicate n ∙ long;
  above = λ j i h. absurd (no_list n j i (subst (λ ls. In i (get_or ls j [])) is h));
  using = λ s i h. in_none (subst (λ ls. In i (get_or ls s [])) none h);
}

module _ (ts : List ClassExpr) (different : AreDifferent ts) (to : ℕ) (within : to < length ts) (c : Cell) (at_is : slice_get ts to ≡ Some (tree_of ts c)) (before : IsBefore to c)
    (wholes : List (List ℕ)) (uses : NamedState) (x : IsIndexTo ts to wholes uses) (wholes' : List (List ℕ)) (uses' : NamedState) (a : IsAbove wholes (nodes_of c) to wholes') (u : IsUsedBy (cell_name c) uses to uses') where
  part_here : (j : ℕ) (p : ClassExpr) → slice_get ts j ≡ Some p → In p (parts_of (tree_of ts c)) → In to (get_or wholes' j [])
  part_here j p h is =
      let n : (n : Node) × In n (nodes_of c) × (tree_at ts n ≡ p) = in_map (tree_at ts) (nodes_of c) p (subst (λ ps. In p ps) (parts_of_cell ts c) is) in
      let l : n.0.place < to = lt_from n.0.place to (passes (λ (m : Node). nat_lt m.place to) n.0 (nodes_of c) before n.1) in
      let at : slice_get ts n.0.place ≡ Some p = slice_get-get_or ts n.0.place _ (omega (arith, l, within)) ∙ ap Some n.2 in
      subst (λ k. In to (get_or wholes' k [])) (different n.0.place j p at h) (a.has n.0 n.1)

  pub index_next : IsIndexTo ts (to + 1) wholes' uses'
  index_next = record {
    parts = λ i j t p l h k is. elim (cases_lt i to) [
      | inl less ↦ a.kept j i (x.parts i j t p less h k is)
      | inr last ↦
          let e : to ≡ i = omega (arith, l, last) in
          let same : tree_of ts c ≡ t = some_is (sym at_is ∙ ap (slice_get ts) e ∙ h) in
          subst (λ m. In m (get_or wholes' j [])) e (part_here j p k (subst (λ q. In p (parts_of q)) (sym same) is))
    ];
    names = λ i t n l h is. elim (cases_lt i to) [
      | inl less ↦ used_keeps (cell_name c) uses uses' to u n i (x.names i t n less h is)
      | inr last ↦
          let e : to ≡ i = omega (arith, l, last) in
          let same : tree_of ts c ≡ t = some_is (sym at_is ∙ ap (slice_get ts) e ∙ h) in
          subst (λ m. HasNumber uses' n m) e (used_has (cell_name c) uses uses' to n u (sym (tree_name ts c) ∙ ap top_name same ∙ is))
    ];
    many = a.long ∙ x.many;
    above = λ j i h. elim (a.from j i h) [
      | inl k ↦ x.above j i k
      | inr e ↦ subst (λ m. m < length ts) (sym e) within
    ];
    using = λ s i h. elim (used_from (cell_name c) uses uses' to u s i h) [
      | inl k ↦ x.using s i k
      | inr e ↦ subst (λ m. m < length ts) (sym e) within
    ];
  }

-- the same, as the loop knows it
pub index_step : (ts : List ClassExpr) → AreDifferent ts → (to : ℕ) → to < length ts → (p : ℕ) → p ≡ to → (c : Cell) → slice_get ts p ≡ Some (tree_of ts c) → IsBefore p c → (wholes : List (List ℕ)) (uses : NamedState)
    → IsIndexTo ts to wholes uses → (wholes' : List (List ℕ)) (uses' : NamedState) (ns : List Node) → ns ≡ nodes_of c → IsAbove wholes ns to wholes' → IsUsedBy (cell_name c) uses to uses' → IsIndexTo ts (to + 1) wholes' uses'
index_step ts different to within p e c at_is before wholes uses x wholes' uses' ns is a u =
    index_next ts different to within c (subst (λ i. slice_get ts i ≡ Some (tree_of ts c)) e at_is) (subst (λ i. IsBefore i c) e before) wholes uses x wholes' uses' (subst (λ ms. IsAbove wholes ms to wholes') is a) u

below_all : (ts : List ClassExpr) (i : ℕ) (t : ClassExpr) → slice_get ts i ≡ Some t → i < length ts
below_all [] i t h = none_some t h
below_all (x ∷ ts) zero t h = omega arith
below_all (x ∷ ts) (suc i) t h = let l = below_all ts i t h in omega (arith, l)

pub index_all : (ts : List ClassExpr) (to : ℕ) (wholes : List (List ℕ)) (uses : NamedState) → length ts ≤ to → IsIndexTo ts to wholes uses → IsIndex ts wholes uses
index_all ts to wholes uses l x = record {
  parts = λ i j t p h k is. let w = below_all ts i t h in x.parts i j t p (omega (arith, l, w)) h k is;
  names = λ i t n h is. let w = below_all ts i t h in x.names i t n (omega (arith, l, w)) h is;
  many = x.many;
  above = x.above;
  using = x.using;
}
