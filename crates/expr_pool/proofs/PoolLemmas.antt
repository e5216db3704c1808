-- What a pool knows of its cells and trees.
use Rattle.std.proofs.Common.{◌≡◌, ℕ, ◌+◌, ◌<◌, ◌≤◌, Bool, true, false, ◌&&◌, ◌⊎◌, cond, nat_eq, if◌then◌else◌, List, [], ◌∷◌, ◌++◌, zero, suc, Some, inl, inr, get_or, length, map, nat_lt, slice_get, take, drop, refl, sym, ap, subst, ◌∙◌, true≢false, arith}
use Rattle.std.specs.List.{list_all, list_any}
use Rattle.std.proofs.lemmas.Bool.{eq-eqb, eqb-true}
use Rattle.std.proofs.lemmas.Map.Keys.{any_passes_from_place}
use Rattle.std.proofs.lemmas.Option.{get_or_from_slice_get, slice_get-get_or, slice_get_within}
use Rattle.indexmap.specs.IndexSet.{insert_key}
use Rattle.owl_axioms.proofs.Same.{same_expr-true}
use Rattle.owl_axioms.specs.contracts.expr.ClassExprEq.TheImpl.Laws as expr_laws
use Rattle.owl_axioms.specs.contracts.expr.ClassExprPartialEq.TheImpl as expr_eq
use Rattle.owl_axioms.specs.declared.expr.ClassExpr.{ClassExpr}
use Rattle.owl_axioms.specs.declared.expr.ClassExpr.TheOpen.{ClassExpr-F}
use Rattle.owl_axioms.specs.declared.expr.ClassExpr.TheVariants as expr
use Rattle.owl_axioms.specs.declared.expr.ClassExpr.TheViews.{out-ClassExpr, out-roll-ClassExpr, roll-ClassExpr}
use Rattle.expr_pool.proofs.Lists.{all_at, all_more, and_true, both, get_grown, get_or_left, get_map, get_snoc, grew_append, grew_more, grew_same, head_is, lt_from, lt_to, map_back, map_get, map_same, map_snoc, none_some, some_is, tail_is, take_get}
use Rattle.expr_pool.proofs.SameCell.{same_cell, same_cell-true}
use Rattle.expr_pool.specs.Pool.{AreDifferent, Grew, IsCellOf, IsPool, IsWithin, are_ordered, is_before, nodes_of, stand, tree_at, tree_of, trees_from, trees_of}
use Rattle.expr_pool.specs.contracts.cell.CellEq.TheImpl.Laws as cell_laws
use Rattle.expr_pool.specs.declared.cell.Cell.{Cell}
use Rattle.expr_pool.specs.declared.cell.Cell.TheVariants as cell
use Rattle.expr_pool.specs.declared.cell.Node.{Node}

abbrev same_expr : ClassExpr → ClassExpr → Bool
same_expr = expr_eq.ghosts.eq

abbrev pub below : List ClassExpr → Node → Bool
below ts n = nat_lt n.place (length ts)

-- ---- one node more at the end changes no tree

tree_at_left : (ts more : List ClassExpr) (n : Node) → below ts n ≡ true → tree_at (ts ++ more) n ≡ tree_at ts n
tree_at_left ts more n h = get_or_left ts more n.place _ (lt_from _ _ h)

pub tree_of_left : (ts more : List ClassExpr) (c : Cell) → is_before (length ts) c ≡ true → tree_of (ts ++ more) c ≡ tree_of ts c
unfolding tree_of nodes_of
tree_of_left ts more cell.Thing h = refl
tree_of_left ts more cell.Nothing h = refl
tree_of_left ts more (cell.Class iri) h = refl
tree_of_left ts more (cell.And ns) h = ap expr.And (map_same (below ts) (tree_at (ts ++ more)) (tree_at ts) (tree_at_left ts more) ns h)
tree_of_left ts more (cell.Or ns) h = ap expr.Or (map_same (below ts) (tree_at (ts ++ more)) (tree_at ts) (tree_at_left ts more) ns h)
tree_of_left ts more (cell.Not n) h = ap (λ t. expr.Not t) (tree_at_left ts more n (and_true _ h))
tree_of_left ts more (cell.Some r n) h = ap (λ t. expr.Some r t) (tree_at_left ts more n (and_true _ h))
tree_of_left ts more (cell.All r n) h = ap (λ t. expr.All r t) (tree_at_left ts more n (and_true _ h))
tree_of_left ts more (cell.Min k r n) h = ap (λ t. expr.Min k r t) (tree_at_left ts more n (and_true _ h))
tree_of_left ts more (cell.Max k r n) h = ap (λ t. expr.Max k r t) (tree_at_left ts more n (and_true _ h))
tree_of_left ts more (cell.Exact k r n) h = ap (λ t. expr.Exact k r t) (tree_at_left ts more n (and_true _ h))

-- ---- different trees: a tree tells its node, and so its cell

place_in : ClassExpr → List ClassExpr → ℕ
place_in t [] = 0
place_in t (x ∷ ts) = cond (same_expr t x) 0 (suc (place_in t ts))

here_first : (x : ClassExpr) (ts : List ClassExpr) (t : ClassExpr) → x ≡ t → same_expr t x ≡ false → ⊥
here_first x ts t is e = true≢false (sym (subst (λ y. same_expr t y ≡ true) (sym is) (expr_laws.laws-law.refl t)) ∙ e)

found_by : (x : ClassExpr) (ts : List ClassExpr) (t : ClassExpr) → (same_expr t x ≡ false → slice_get ts (place_in t ts) ≡ Some t) → slice_get (x ∷ ts) (place_in t (x ∷ ts)) ≡ Some t
unfolding place_in
found_by x ts t later =
    elim (same_expr t x) as (λ b. same_expr t x ≡ b → slice_get (x ∷ ts) (cond b 0 (suc (place_in t ts))) ≡ Some t) [
      | true ↦ λ e. ap Some (sym (same_expr-true t x e))
      | false ↦ λ e. later e
    ] refl

found : (ts : List ClassExpr) (i : ℕ) (t : ClassExpr) → slice_get ts i ≡ Some t → slice_get ts (place_in t ts) ≡ Some t
found [] i t h = none_some t h
found (x ∷ ts) zero t h = found_by x ts t (λ e. absurd (here_first x ts t (some_is h) e))
found (x ∷ ts) (suc i) t h = found_by x ts t (λ e. found ts i t h)

abbrev node_in : List ClassExpr → ClassExpr → Node
node_in ts t = record { place = place_in t ts }

node_back : (ts : List ClassExpr) → AreDifferent ts → (n : Node) → below ts n ≡ true → node_in ts (tree_at ts n) ≡ n
node_back ts different n h =
    let here : slice_get ts n.place ≡ Some (tree_at ts n) = slice_get-get_or ts n.place _ (lt_from _ _ h) in
    let e : place_in (tree_at ts n) ts ≡ n.place = different _ _ _ (found ts n.place (tree_at ts n) here) here in
    λ i. record { place = e i }

back : (ClassExpr → Node) → ClassExpr-F ClassExpr → Cell
back g ClassExpr-F.Thing = cell.Thing
back g ClassExpr-F.Nothing = cell.Nothing
back g (ClassExpr-F.Class iri) = cell.Class iri
back g (ClassExpr-F.And ts) = cell.And (map g ts)
back g (ClassExpr-F.Or ts) = cell.Or (map g ts)
back g (ClassExpr-F.Not t) = cell.Not (g t)
back g (ClassExpr-F.Some r t) = cell.Some r (g t)
back g (ClassExpr-F.All r t) = cell.All r (g t)
back g (ClassExpr-F.Min k r t) = cell.Min k r (g t)
back g (ClassExpr-F.Max k r t) = cell.Max k r (g t)
back g (ClassExpr-F.Exact k r t) = cell.Exact k r (g t)

cell_back : (ts : List ClassExpr) → AreDifferent ts → (c : Cell) → is_before (length ts) c ≡ true → back (node_in ts) (out-ClassExpr (tree_of ts c)) ≡ c
unfolding tree_of nodes_of roll-ClassExpr denote.Hole.Carrier.roll back
cell_back ts different cell.Thing h = ap (back (node_in ts)) (out-roll-ClassExpr ClassExpr-F.Thing)
cell_back ts different cell.Nothing h = ap (back (node_in ts)) (out-roll-ClassExpr ClassExpr-F.Nothing)
cell_back ts different (cell.Class iri) h = ap (back (node_in ts)) (out-roll-ClassExpr (ClassExpr-F.Class iri))
cell_back ts different (cell.And ns) h = ap (back (node_in ts)) (out-roll-ClassExpr (ClassExpr-F.And (map (tree_at ts) ns))) ∙ ap cell.And (map_back (below ts) (tree_at ts) (node_in ts) (node_back ts different) ns h)
cell_back ts different (cell.Or ns) h = ap (back (node_in ts)) (out-roll-ClassExpr (ClassExpr-F.Or (map (tree_at ts) ns))) ∙ ap cell.Or (map_back (below ts) (tree_at ts) (node_in ts) (node_back ts different) ns h)
cell_back ts different (cell.Not n) h = ap (back (node_in ts)) (out-roll-ClassExpr (ClassExpr-F.Not (tree_at ts n))) ∙ ap (λ m. cell.Not m) (node_back ts different n (and_true _ h))
cell_back ts different (cell.Some r n) h = ap (back (node_in ts)) (out-roll-ClassExpr (ClassExpr-F.Some r (tree_at ts n))) ∙ ap (λ m. cell.Some r m) (node_back ts different n (and_true _ h))
cell_back ts different (cell.All r n) h = ap (back (node_in ts)) (out-roll-ClassExpr (ClassExpr-F.All r (tree_at ts n))) ∙ ap (λ m. cell.All r m) (node_back ts different n (and_true _ h))
cell_back ts different (cell.Min k r n) h = ap (back (node_in ts)) (out-roll-ClassExpr (ClassExpr-F.Min k r (tree_at ts n))) ∙ ap (λ m. cell.Min k r m) (node_back ts different n (and_true _ h))
cell_back ts different (cell.Max k r n) h = ap (back (node_in ts)) (out-roll-ClassExpr (ClassExpr-F.Max k r (tree_at ts n))) ∙ ap (λ m. cell.Max k r m) (node_back ts different n (and_true _ h))
cell_back ts different (cell.Exact k r n) h = ap (back (node_in ts)) (out-roll-ClassExpr (ClassExpr-F.Exact k r (tree_at ts n))) ∙ ap (λ m. cell.Exact k r m) (node_back ts different n (and_true _ h))

pub same_tree : (ts : List ClassExpr) → AreDifferent ts → (c d : Cell) → is_before (length ts) c ≡ true → is_before (length ts) d ≡ true → tree_of ts c ≡ tree_of ts d → c ≡ d
same_tree ts different c d hc hd e = sym (cell_back ts different c hc) ∙ ap (λ t. back (node_in ts) (out-ClassExpr t)) e ∙ cell_back ts different d hd

-- ---- cells in order

pub is_before_more : (m n : ℕ) → m ≤ n → (c : Cell) → is_before m c ≡ true → is_before n c ≡ true
is_before_more m n le c = all_more (λ (k : Node). nat_lt k.place m) (λ (k : Node). nat_lt k.place n) (λ k h. lt_to k.place n (let l : k.place < m = lt_from _ _ h in omega arith)) (nodes_of c)

ordered_within : (k n : ℕ) (cs : List Cell) → k + length cs ≤ n → are_ordered k cs ≡ true → list_all (is_before n) cs ≡ true
ordered_within k n [] le h = refl
ordered_within k n (c ∷ cs) le h =
    let parts : (is_before k c ≡ true) × (are_ordered (k + 1) cs ≡ true) = both _ _ h in
    let first : is_before n c ≡ true = is_before_more k n (omega arith) c parts.0 in
    let rest : list_all (is_before n) cs ≡ true = ordered_within (k + 1) n cs (omega arith) parts.1 in
    λ i. first i && rest i

ordered_snoc : (k n : ℕ) (cs : List Cell) (c : Cell) → k + length cs ≡ n → are_ordered k cs ≡ true → is_before n c ≡ true → are_ordered k (cs ++ c ∷ []) ≡ true
ordered_snoc k n [] c e h b = let b' : is_before k c ≡ true = is_before_more n k (omega arith) c b in λ i. b' i && true
ordered_snoc k n (d ∷ cs) c e h b =
    let parts : (is_before k d ≡ true) × (are_ordered (k + 1) cs ≡ true) = both _ _ h in
    let rest : are_ordered (k + 1) (cs ++ c ∷ []) ≡ true = ordered_snoc (k + 1) n cs c (omega arith) parts.1 b in
    λ i. parts.0 i && rest i

pub ordered_at : (k : ℕ) (cs : List Cell) (i : ℕ) (c : Cell) → are_ordered k cs ≡ true → slice_get cs i ≡ Some c → is_before (k + i) c ≡ true
ordered_at k [] i c h at = none_some c at
ordered_at k (d ∷ cs) zero c h at = is_before_more k (k + 0) (omega arith) c (subst (λ x. is_before k x ≡ true) (some_is at) (both _ _ h).0)
ordered_at k (d ∷ cs) (suc i) c h at = is_before_more (k + 1 + i) (k + suc i) (omega arith) c (ordered_at (k + 1) cs i c (both _ _ h).1 at)

-- ---- one cell more

trees_from_snoc : (ts : List ClassExpr) (cs : List Cell) (c : Cell) → trees_from ts (cs ++ c ∷ []) ≡ trees_from ts cs ++ tree_of (trees_from ts cs) c ∷ []
trees_from_snoc ts [] c = refl
trees_from_snoc ts (d ∷ cs) c = trees_from_snoc (ts ++ tree_of ts d ∷ []) cs c

pub trees_of_snoc : (cs : List Cell) (c : Cell) → trees_of (cs ++ c ∷ []) ≡ trees_of cs ++ tree_of (trees_of cs) c ∷ []
unfolding trees_of
trees_of_snoc cs c = trees_from_snoc [] cs c

length_map : {X Y : Type 0} (f : X → Y) (xs : List X) → length (map f xs) ≡ length xs
length_map f [] = refl
length_map f (x ∷ xs) = ap suc (length_map f xs)

-- the parts of a pool
abbrev Stands : List ClassExpr → List Cell → Type 0
Stands ts cs = (map (tree_of ts) cs ≡ ts) × (are_ordered 0 cs ≡ true) × AreDifferent ts

pub as_pool : (cs : List Cell) → IsPool cs → Stands (trees_of cs) cs
unfolding IsPool
as_pool cs h = h

pub to_pool : (cs : List Cell) → Stands (trees_of cs) cs → IsPool cs
unfolding IsPool
to_pool cs h = h

pub as_long : (ts : List ClassExpr) (cs : List Cell) → Stands ts cs → length ts ≡ length cs
as_long ts cs s = sym (ap length s.0) ∙ length_map (tree_of ts) cs

all_within : (ts : List ClassExpr) (cs : List Cell) → Stands ts cs → list_all (is_before (length ts)) cs ≡ true
all_within ts cs s = ordered_within 0 (length ts) cs (let e : length ts ≡ length cs = as_long ts cs s in omega arith) s.1

-- a cell that is not there has a tree that is not there
pub fresh : (ts : List ClassExpr) (cs : List Cell) (c : Cell) → Stands ts cs → is_before (length ts) c ≡ true → list_any (same_cell c) cs ≡ false → (i : ℕ) → slice_get ts i ≡ Some (tree_of ts c) → ⊥
fresh ts cs c s within new i h =
    let d : (d : Cell) × (slice_get cs i ≡ Some d) × (tree_of ts d ≡ tree_of ts c) = get_map (tree_of ts) cs i (tree_of ts c) (ap (λ l. slice_get l i) s.0 ∙ h) in
    let is : d.0 ≡ c = same_tree ts s.2 d.0 c (all_at (is_before (length ts)) cs i d.0 (all_within ts cs s) d.1) within d.2 in
    true≢false (sym (any_passes_from_place (same_cell c) cs i d.0 d.1 (subst (λ e. same_cell c e ≡ true) (sym is) (cell_laws.laws-law.refl c))) ∙ new)

different_snoc : (ts : List ClassExpr) (t : ClassExpr) → AreDifferent ts → ((i : ℕ) → slice_get ts i ≡ Some t → ⊥) → AreDifferent (ts ++ t ∷ [])
different_snoc ts t different new i j u hi hj = cases (get_snoc ts t i u hi) (get_snoc ts t j u hj)
  where
    cases : (slice_get ts i ≡ Some u) ⊎ ((i ≡ length ts) × (t ≡ u)) → (slice_get ts j ≡ Some u) ⊎ ((j ≡ length ts) × (t ≡ u)) → i ≡ j
    cases (inl a) (inl b) = different i j u a b
    cases (inl a) (inr b) = absurd (new i (a ∙ ap Some (sym b.1)))
    cases (inr a) (inl b) = absurd (new j (b ∙ ap Some (sym a.1)))
    cases (inr a) (inr b) = a.0 ∙ sym b.0

stands_snoc : (ts : List ClassExpr) (cs : List Cell) (c : Cell) → Stands ts cs → is_before (length ts) c ≡ true → list_any (same_cell c) cs ≡ false → Stands (ts ++ tree_of ts c ∷ []) (cs ++ c ∷ [])
stands_snoc ts cs c s within new =
    let us : List ClassExpr = ts ++ tree_of ts c ∷ [] in
    let olds : map (tree_of us) cs ≡ ts = map_same (is_before (length ts)) (tree_of us) (tree_of ts) (tree_of_left ts (tree_of ts c ∷ [])) cs (all_within ts cs s) ∙ s.0 in
    let last : tree_of us c ≡ tree_of ts c = tree_of_left ts (tree_of ts c ∷ []) c within in (
      map_snoc (tree_of us) cs c ∙ (λ i. olds i ++ last i ∷ []),
      ordered_snoc 0 (length ts) cs c (let e : length ts ≡ length cs = as_long ts cs s in omega arith) s.1 within,
      different_snoc ts (tree_of ts c) s.2 (fresh ts cs c s within new),
    )

pub pool_snoc : (cs : List Cell) (c : Cell) → IsPool cs → IsWithin cs c → list_any (same_cell c) cs ≡ false → IsPool (cs ++ c ∷ [])
pool_snoc cs c pool within new = to_pool (cs ++ c ∷ []) (subst (λ ts. Stands ts (cs ++ c ∷ [])) (sym (trees_of_snoc cs c)) (stands_snoc (trees_of cs) cs c (as_pool cs pool) within new))

-- ---- `insert_key`, which looks first whether the cell is there

abbrev Inserted : List Cell → Cell → List Cell → Type 0
Inserted old c new = IsPool new × Grew (trees_of old) (trees_of new)

inserted_at : (b : Bool) (cs : List Cell) (c : Cell) → list_any (same_cell c) cs ≡ b → IsPool cs → IsWithin cs c → Inserted cs c (if b then cs else cs ++ c ∷ [])
inserted_at true cs c e pool within = (pool, grew_same (trees_of cs))
inserted_at false cs c e pool within = (pool_snoc cs c pool within e, subst (Grew (trees_of cs)) (sym (trees_of_snoc cs c)) (grew_append (trees_of cs) (tree_of (trees_of cs) c ∷ [])))

pub inserted : (cs : List Cell) (c : Cell) → IsPool cs → IsWithin cs c → Inserted cs c (insert_key same_cell cs c)
inserted cs c pool within = inserted_at (list_any (same_cell c) cs) cs c refl pool within

-- the tree of a cell that is there
pub tree_of_place : (cs : List Cell) (i : ℕ) (c : Cell) → IsPool cs → slice_get cs i ≡ Some c → slice_get (trees_of cs) i ≡ Some (tree_of (trees_of cs) c)
tree_of_place cs i c pool h = sym (ap (λ l. slice_get l i) (as_pool cs pool).0) ∙ map_get (tree_of (trees_of cs)) cs i c h

-- growth keeps the tree of a cell whose nodes were there
tree_of_grown_at : (b : Bool) (cs : List Cell) (c d : Cell) → IsWithin cs d → tree_of (trees_of (if b then cs else cs ++ c ∷ [])) d ≡ tree_of (trees_of cs) d
tree_of_grown_at true cs c d within = refl
tree_of_grown_at false cs c d within = ap (λ ts. tree_of ts d) (trees_of_snoc cs c) ∙ tree_of_left (trees_of cs) (tree_of (trees_of cs) c ∷ []) d within

pub inserted_node : (cs new : List Cell) (c k : Cell) (i : ℕ) → IsPool cs → IsWithin cs c → new ≡ insert_key same_cell cs c → slice_get new i ≡ Some k → same_cell c k ≡ true → slice_get (trees_of new) i ≡ Some (tree_of (trees_of cs) c)
inserted_node cs new c k i pool within is at same =
    let there : slice_get (insert_key same_cell cs c) i ≡ Some c = ap (λ l. slice_get l i) (sym is) ∙ at ∙ ap Some (sym (same_cell-true c k same)) in
    ap (λ l. slice_get (trees_of l) i) is ∙ tree_of_place (insert_key same_cell cs c) i c (inserted cs c pool within).0 there ∙ ap Some (tree_of_grown_at (list_any (same_cell c) cs) cs c c within)

-- ---- the cell of each layer

part_below : (ts : List ClassExpr) (n : Node) (t : ClassExpr) → slice_get ts n.place ≡ Some t → below ts n ≡ true
part_below ts n t h = lt_to n.place (length ts) (slice_get_within ts n.place t h)

part_is : (ts : List ClassExpr) (n : Node) (t : ClassExpr) → slice_get ts n.place ≡ Some t → tree_at ts n ≡ t
part_is ts n t h = get_or_from_slice_get ts n.place t _ h

parts_below : (ts : List ClassExpr) (ns : List Node) (es : List ClassExpr) → stand ts ns ≡ map Some es → list_all (below ts) ns ≡ true
parts_below ts [] es h = refl
parts_below ts (n ∷ ns) [] h = absurd cc
parts_below ts (n ∷ ns) (e ∷ es) h = let a : below ts n ≡ true = part_below ts n e (head_is h) in let b : list_all (below ts) ns ≡ true = parts_below ts ns es (tail_is h) in λ i. a i && b i

parts_are : (ts : List ClassExpr) (ns : List Node) (es : List ClassExpr) → stand ts ns ≡ map Some es → map (tree_at ts) ns ≡ es
parts_are ts [] [] h = refl
parts_are ts [] (e ∷ es) h = absurd cc
parts_are ts (n ∷ ns) [] h = absurd cc
parts_are ts (n ∷ ns) (e ∷ es) h = λ i. part_is ts n e (head_is h) i ∷ parts_are ts ns es (tail_is h) i

pub stand_more : (old new : List ClassExpr) (ns : List Node) (es : List ClassExpr) → Grew old new → stand old ns ≡ map Some es → stand new ns ≡ map Some es
stand_more old new [] es g h = h
stand_more old new (n ∷ ns) [] g h = absurd cc
stand_more old new (n ∷ ns) (e ∷ es) g h = λ i. get_grown old new n.place e g (head_is h) i ∷ stand_more old new ns es g (tail_is h) i

pub cell_class : (ts : List ClassExpr) (iri : List ℕ) → IsCellOf ts (expr.Class iri) (cell.Class iri)
unfolding tree_of nodes_of
cell_class ts iri = (refl, refl)

pub cell_thing : (ts : List ClassExpr) → IsCellOf ts expr.Thing cell.Thing
unfolding tree_of nodes_of
cell_thing ts = (refl, refl)

pub cell_nothing : (ts : List ClassExpr) → IsCellOf ts expr.Nothing cell.Nothing
unfolding tree_of nodes_of
cell_nothing ts = (refl, refl)

pub cell_and : (ts : List ClassExpr) (ns : List Node) (es : List ClassExpr) → stand ts ns ≡ map Some es → IsCellOf ts (expr.And es) (cell.And ns)
unfolding tree_of nodes_of
cell_and ts ns es h = (parts_below ts ns es h, ap expr.And (parts_are ts ns es h))

pub cell_or : (ts : List ClassExpr) (ns : List Node) (es : List ClassExpr) → stand ts ns ≡ map Some es → IsCellOf ts (expr.Or es) (cell.Or ns)
unfolding tree_of nodes_of
cell_or ts ns es h = (parts_below ts ns es h, ap expr.Or (parts_are ts ns es h))

pub cell_not : (ts : List ClassExpr) (n : Node) (e : ClassExpr) → slice_get ts n.place ≡ Some e → IsCellOf ts (expr.Not e) (cell.Not n)
unfolding tree_of nodes_of
cell_not ts n e h = (let b : below ts n ≡ true = part_below ts n e h in λ i. b i && true, ap (λ t. expr.Not t) (part_is ts n e h))

pub cell_some : (ts : List ClassExpr) (r : List ℕ) (n : Node) (e : ClassExpr) → slice_get ts n.place ≡ Some e → IsCellOf ts (expr.Some r e) (cell.Some r n)
unfolding tree_of nodes_of
cell_some ts r n e h = (let b : below ts n ≡ true = part_below ts n e h in λ i. b i && true, ap (λ t. expr.Some r t) (part_is ts n e h))

pub cell_all : (ts : List ClassExpr) (r : List ℕ) (n : Node) (e : ClassExpr) → slice_get ts n.place ≡ Some e → IsCellOf ts (expr.All r e) (cell.All r n)
unfolding tree_of nodes_of
cell_all ts r n e h = (let b : below ts n ≡ true = part_below ts n e h in λ i. b i && true, ap (λ t. expr.All r t) (part_is ts n e h))

pub cell_min : (ts : List ClassExpr) (k : ℕ) (r : List ℕ) (n : Node) (e : ClassExpr) → slice_get ts n.place ≡ Some e → IsCellOf ts (expr.Min k r e) (cell.Min k r n)
unfolding tree_of nodes_of
cell_min ts k r n e h = (let b : below ts n ≡ true = part_below ts n e h in λ i. b i && true, ap (λ t. expr.Min k r t) (part_is ts n e h))

pub cell_max : (ts : List ClassExpr) (k : ℕ) (r : List ℕ) (n : Node) (e : ClassExpr) → slice_get ts n.place ≡ Some e → IsCellOf ts (expr.Max k r e) (cell.Max k r n)
unfolding tree_of nodes_of
cell_max ts k r n e h = (let b : below ts n ≡ true = part_below ts n e h in λ i. b i && true, ap (λ t. expr.Max k r t) (part_is ts n e h))

pub cell_exact : (ts : List ClassExpr) (k : ℕ) (r : List ℕ) (n : Node) (e : ClassExpr) → slice_get ts n.place ≡ Some e → IsCellOf ts (expr.Exact k r e) (cell.Exact k r n)
unfolding tree_of nodes_of
cell_exact ts k r n e h = (let b : below ts n ≡ true = part_below ts n e h in λ i. b i && true, ap (λ t. expr.Exact k r t) (part_is ts n e h))

-- ---- a pool as a whole

pub pool_none : IsPool []
unfolding IsPool trees_of
pool_none = (refl, refl, λ i j t h k. none_some t h)

pub trees_none : trees_of [] ≡ []
unfolding trees_of
trees_none = refl

pub pool_long : (cs : List Cell) → IsPool cs → length (trees_of cs) ≡ length cs
pool_long cs pool = as_long (trees_of cs) cs (as_pool cs pool)

pub pool_different : (cs : List Cell) → IsPool cs → AreDifferent (trees_of cs)
pool_different cs pool = (as_pool cs pool).2

pub pool_before : (cs : List Cell) (i : ℕ) (c : Cell) → IsPool cs → slice_get cs i ≡ Some c → is_before i c ≡ true
pool_before cs i c pool h = is_before_more (0 + i) i (omega arith) c (ordered_at 0 cs i c (as_pool cs pool).1 h)

pub same_nodes : (ts : List ClassExpr) → AreDifferent ts → (a b : Node) → a.place < length ts → b.place < length ts → (nat_eq a.place b.place ≡ true → tree_at ts a ≡ tree_at ts b) × (tree_at ts a ≡ tree_at ts b → nat_eq a.place b.place ≡ true)
same_nodes ts different a b la lb = (
  λ e. ap (λ p. get_or ts p expr.Thing) (eqb-true a.place b.place e),
  λ e.
      let at_a : slice_get ts a.place ≡ Some (tree_at ts a) = slice_get-get_or ts a.place _ la in
      let at_b : slice_get ts b.place ≡ Some (tree_at ts a) = slice_get-get_or ts b.place _ lb ∙ ap Some (sym e) in
      eq-eqb a.place b.place (different a.place b.place (tree_at ts a) at_a at_b),
)

-- ---- the first nodes alone

take_drop : {X : Type 0} (n : ℕ) (xs : List X) → xs ≡ take n xs ++ drop n xs
take_drop zero xs = refl
take_drop (suc n) [] = refl
take_drop (suc n) (x ∷ xs) = ap (λ l. x ∷ l) (take_drop n xs)

trees_from_grew : (ts : List ClassExpr) (cs : List Cell) → take (length ts) (trees_from ts cs) ≡ ts
trees_from_grew ts [] = grew_same ts
trees_from_grew ts (c ∷ cs) = grew_more ts (ts ++ tree_of ts c ∷ []) (trees_from (ts ++ tree_of ts c ∷ []) cs) (grew_append ts (tree_of ts c ∷ [])) (trees_from_grew (ts ++ tree_of ts c ∷ []) cs)

pub length_snoc : {X : Type 0} (xs : List X) (x : X) → length (xs ++ x ∷ []) ≡ length xs + 1
length_snoc [] x = refl
length_snoc (y ∷ xs) x = let e : length (xs ++ x ∷ []) ≡ length xs + 1 = length_snoc xs x in omega arith

trees_from_take : (n : ℕ) (ts : List ClassExpr) (cs : List Cell) → n ≤ length cs → trees_from ts (take n cs) ≡ take (length ts + n) (trees_from ts cs)
trees_from_take zero ts cs le = let e : length ts ≡ length ts + 0 = omega arith in sym (trees_from_grew ts cs) ∙ ap (λ m. take m (trees_from ts cs)) e
trees_from_take (suc n) ts [] le = absurd (omega arith)
trees_from_take (suc n) ts (c ∷ cs) le =
    let us : List ClassExpr = ts ++ tree_of ts c ∷ [] in
    let e : length us + n ≡ length ts + suc n = let k : length us ≡ length ts + 1 = length_snoc ts (tree_of ts c) in omega arith in
    trees_from_take n us cs (omega arith) ∙ ap (λ m. take m (trees_from us cs)) e

pub trees_of_take : (n : ℕ) (cs : List Cell) → n ≤ length cs → trees_of (take n cs) ≡ take n (trees_of cs)
unfolding trees_of
trees_of_take n cs le = let e : 0 + n ≡ n = omega arith in trees_from_take n [] cs le ∙ ap (λ m. take m (trees_from [] cs)) e

ordered_take : (k n : ℕ) (cs : List Cell) → are_ordered k cs ≡ true → are_ordered k (take n cs) ≡ true
ordered_take k zero cs h = refl
ordered_take k (suc n) [] h = refl
ordered_take k (suc n) (c ∷ cs) h =
    let parts : (is_before k c ≡ true) × (are_ordered (k + 1) cs ≡ true) = both _ _ h in
    let rest : are_ordered (k + 1) (take n cs) ≡ true = ordered_take (k + 1) n cs parts.1 in
    λ i. parts.0 i && rest i

map_take : {X Y : Type 0} (f : X → Y) (n : ℕ) (xs : List X) → map f (take n xs) ≡ take n (map f xs)
map_take f zero xs = refl
map_take f (suc n) [] = refl
map_take f (suc n) (x ∷ xs) = ap (λ l. f x ∷ l) (map_take f n xs)

length_take : {X : Type 0} (n : ℕ) (xs : List X) → n ≤ length xs → length (take n xs) ≡ n
length_take zero xs le = refl
length_take (suc n) [] le = absurd (omega arith)
length_take (suc n) (x ∷ xs) le = ap suc (length_take n xs (omega arith))

stands_take : (n : ℕ) (ts : List ClassExpr) (cs : List Cell) → n ≤ length cs → Stands ts cs → Stands (take n ts) (take n cs)
stands_take n ts cs le s =
    let long : length ts ≡ length cs = as_long ts cs s in
    let short : length (take n ts) ≡ n = length_take n ts (omega arith) in
    let few : length (take n cs) ≡ n = length_take n cs le in
    let ordered : are_ordered 0 (take n cs) ≡ true = ordered_take 0 n cs s.1 in
    let within : list_all (is_before (length (take n ts))) (take n cs) ≡ true = ordered_within 0 (length (take n ts)) (take n cs) (omega arith) ordered in
    let same : map (tree_of (take n ts)) (take n cs) ≡ map (tree_of ts) (take n cs) =
    map_same (is_before (length (take n ts))) (tree_of (take n ts)) (tree_of ts) (λ c h. sym (tree_of_left (take n ts) (drop n ts) c h) ∙ ap (λ l. tree_of l c) (sym (take_drop n ts))) (take n cs) within in (
      same ∙ map_take (tree_of ts) n cs ∙ ap (take n) s.0,
      ordered,
      λ i j t h k. s.2 i j t (take_get n ts i t h) (take_get n ts j t k),
    )

pub pool_take : (n : ℕ) (cs : List Cell) → n ≤ length cs → IsPool cs → IsPool (take n cs)
pool_take n cs le pool = to_pool (take n cs) (subst (λ ts. Stands ts (take n cs)) (sym (trees_of_take n cs le)) (stands_take n (trees_of cs) cs le (as_pool cs pool)))

pub take_next : {X : Type 0} (i : ℕ) (es : List X) (e : X) → slice_get es i ≡ Some e → take (suc i) es ≡ take i es ++ e ∷ []
take_next i [] e h = none_some e h
take_next zero (x ∷ es) e h = ap (λ y. y ∷ []) (some_is h)
take_next (suc i) (x ∷ es) e h = ap (λ l. x ∷ l) (take_next i es e h)

pub stand_push : (old new : List ClassExpr) (ns : List Node) (n : Node) (es : List ClassExpr) (i : ℕ) (e : ClassExpr) → Grew old new → stand old ns ≡ map Some (take i es) → slice_get new n.place ≡ Some e → slice_get es i ≡ Some e → stand new (ns ++ n ∷ []) ≡ map Some (take (i + 1) es)
stand_push old new ns n es i e g h here at =
    let next : suc i ≡ i + 1 = omega arith in
    let front : stand new ns ≡ map Some (take i es) = stand_more old new ns (take i es) g h in
    map_snoc (λ (m : Node). slice_get new m.place) ns n ∙ (λ j. front j ++ here j ∷ []) ∙ sym (map_snoc (λ (x : ClassExpr). Some x) (take i es) e) ∙ ap (map Some) (sym (take_next i es e at)) ∙ ap (λ k. map Some (take k es)) next

pub grew_twice : (a b c : List ClassExpr) → Grew a b → Grew b c → Grew a c
grew_twice = grew_more
