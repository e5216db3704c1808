-- Marked nodes and the parts of their trees.
use Rattle.std.proofs.Common.{◌≡◌, ℕ, ◌+◌, ◌<◌, ◌≤◌, ◌⊎◌, Bool, true, List, [], ◌∷◌, zero, suc, Some, inl, inr, get_or, length, map, slice_get, slice_set, refl, sym, ap, subst, ◌∙◌, arith}
use Rattle.std.proofs.lemmas.Option.{get_or_from_slice_get, slice_get-get_or}
use Rattle.owl_axioms.specs.declared.expr.ClassExpr.{ClassExpr}
use Rattle.owl_axioms.specs.declared.expr.ClassExpr.TheOpen.{ClassExpr-F}
use Rattle.owl_axioms.specs.declared.expr.ClassExpr.TheVariants as expr
use Rattle.owl_axioms.specs.declared.expr.ClassExpr.TheViews.{out-roll-ClassExpr, roll-ClassExpr}
use Rattle.fact_rows.specs.Member.{In, here, there}
use Rattle.expr_pool.proofs.Lists.{both, lt_from, none_some}
use Rattle.expr_pool.proofs.PoolLemmas.{is_before_more}
use Rattle.expr_pool.specs.Laws.{PartsAreThere}
use Rattle.expr_pool.specs.Part.{AreBefore, AreClosed, AreMarked, AreReached, AreSound, start, part, IsMarked, Keeps, flag_nodes, layer_parts, parts_at, parts_of}
use Rattle.expr_pool.specs.Pool.{is_before, nodes_of, tree_at, tree_of}
use Rattle.expr_pool.specs.declared.cell.Cell.{Cell}
use Rattle.expr_pool.specs.declared.cell.Cell.TheVariants as cell
use Rattle.expr_pool.specs.declared.cell.Node.{Node}

-- ---- members

in_none : {A : Type 0} (x : A) → In x [] → ⊥
in_none x i = elim i [ ]

-- each member of a mapped list comes from a member
pub in_map : {A B : Type 0} (f : A → B) (xs : List A) (y : B) → In y (map f xs) → (x : A) × In x xs × (f x ≡ y)
in_map f [] y i = absurd (in_none y i)
in_map f (x ∷ xs) _ here = (x, here, refl)
in_map f (x ∷ xs) y (there i) = let r = in_map f xs y i in (r.0, there r.1, r.2)

-- the parts of a cell's tree are the trees of its nodes
pub parts_of_cell : (ts : List ClassExpr) (c : Cell) → parts_of (tree_of ts c) ≡ map (tree_at ts) (nodes_of c)
unfolding parts_of layer_parts tree_of nodes_of roll-ClassExpr denote.Hole.Carrier.roll
parts_of_cell ts cell.Thing = ap layer_parts (out-roll-ClassExpr ClassExpr-F.Thing)
parts_of_cell ts cell.Nothing = ap layer_parts (out-roll-ClassExpr ClassExpr-F.Nothing)
parts_of_cell ts (cell.Class iri) = ap layer_parts (out-roll-ClassExpr (ClassExpr-F.Class iri))
parts_of_cell ts (cell.And ns) = ap layer_parts (out-roll-ClassExpr (ClassExpr-F.And (map (tree_at ts) ns)))
parts_of_cell ts (cell.Or ns) = ap layer_parts (out-roll-ClassExpr (ClassExpr-F.Or (map (tree_at ts) ns)))
parts_of_cell ts (cell.Not n) = ap layer_parts (out-roll-ClassExpr (ClassExpr-F.Not (tree_at ts n)))
parts_of_cell ts (cell.Some r n) = ap layer_parts (out-roll-ClassExpr (ClassExpr-F.Some r (tree_at ts n)))
parts_of_cell ts (cell.All r n) = ap layer_parts (out-roll-ClassExpr (ClassExpr-F.All r (tree_at ts n)))
parts_of_cell ts (cell.Min k r n) = ap layer_parts (out-roll-ClassExpr (ClassExpr-F.Min k r (tree_at ts n)))
parts_of_cell ts (cell.Max k r n) = ap layer_parts (out-roll-ClassExpr (ClassExpr-F.Max k r (tree_at ts n)))
parts_of_cell ts (cell.Exact k r n) = ap layer_parts (out-roll-ClassExpr (ClassExpr-F.Exact k r (tree_at ts n)))

set_kept : (fs : List Bool) (k i : ℕ) → IsMarked fs i → IsMarked (slice_set fs k true) i
set_kept [] k i h = none_some true h
set_kept (f ∷ fs) zero zero h = refl
set_kept (f ∷ fs) zero (suc i) h = h
set_kept (f ∷ fs) (suc k) zero h = h
set_kept (f ∷ fs) (suc k) (suc i) h = set_kept fs k i h

set_marks : (fs : List Bool) (k : ℕ) → k < length fs → IsMarked (slice_set fs k true) k
set_marks [] k lt = absurd (omega arith)
set_marks (f ∷ fs) zero lt = refl
set_marks (f ∷ fs) (suc k) lt = set_marks fs k (omega arith)

set_sound : (fs : List Bool) (k i : ℕ) → IsMarked (slice_set fs k true) i → IsMarked fs i ⊎ (k ≡ i)
set_sound [] k i h = none_some true h
set_sound (f ∷ fs) zero zero h = inr refl
set_sound (f ∷ fs) zero (suc i) h = inl h
set_sound (f ∷ fs) (suc k) zero h = inl h
set_sound (f ∷ fs) (suc k) (suc i) h = elim (set_sound fs k i h) [
  | inl m ↦ inl m
  | inr e ↦ inr (ap suc e)
]

set_long : (fs : List Bool) (k : ℕ) → length (slice_set fs k true) ≡ length fs
set_long [] k = refl
set_long (f ∷ fs) zero = refl
set_long (f ∷ fs) (suc k) = ap suc (set_long fs k)

pub flag_kept : (ns : List Node) (fs : List Bool) → Keeps fs (flag_nodes fs ns)
flag_kept [] fs i h = h
flag_kept (n ∷ ns) fs i h = flag_kept ns (slice_set fs n.place true) i (set_kept fs n.place i h)

pub flag_long : (ns : List Node) (fs : List Bool) → length (flag_nodes fs ns) ≡ length fs
flag_long [] fs = refl
flag_long (n ∷ ns) fs = flag_long ns (slice_set fs n.place true) ∙ set_long fs n.place

pub flag_marks : (ns : List Node) (fs : List Bool) (m : ℕ) (n : Node) → length fs ≡ m → AreBefore m ns → In n ns → IsMarked (flag_nodes fs ns) n.place
flag_marks [] fs m n long before i = absurd (in_none n i)
flag_marks (n ∷ ns) fs m _ long before here =
    let lt : n.place < m = lt_from n.place m (both _ _ before).0 in
    flag_kept ns (slice_set fs n.place true) n.place (set_marks fs n.place (omega arith))
flag_marks (k ∷ ns) fs m n long before (there i) = flag_marks ns (slice_set fs k.place true) m n (set_long fs k.place ∙ long) (both _ _ before).1 i

pub flag_sound : (ns : List Node) (fs : List Bool) (i : ℕ) → IsMarked (flag_nodes fs ns) i → IsMarked fs i ⊎ ((n : Node) × In n ns × (n.place ≡ i))
flag_sound [] fs i h = inl h
flag_sound (n ∷ ns) fs i h = elim (flag_sound ns (slice_set fs n.place true) i h) [
  | inl m ↦ elim (set_sound fs n.place i m) [
    | inl k ↦ inl k
    | inr e ↦ inr (n, here, e)
  ]
  | inr r ↦ inr (r.0, there r.1, r.2)
]

in_mapped : {A B : Type 0} (f : A → B) (xs : List A) (x : A) → In x xs → In (f x) (map f xs)
in_mapped f [] x i = absurd (in_none x i)
in_mapped f (x ∷ xs) _ here = here
in_mapped f (y ∷ xs) x (there i) = there (in_mapped f xs x i)

pub all_in : (m : ℕ) (ns : List Node) (n : Node) → AreBefore m ns → In n ns → n.place < m
all_in m [] n before i = absurd (in_none n i)
all_in m (n ∷ ns) _ before here = lt_from n.place m (both _ _ before).0
all_in m (k ∷ ns) n before (there i) = all_in m ns n (both _ _ before).1 i

-- the trees of a node's parts
pub parts_are_nodes : (ts : List ClassExpr) (at : ℕ) (c : Cell) → slice_get ts at ≡ Some (tree_of ts c) → parts_at ts at ≡ map (tree_at ts) (nodes_of c)
parts_are_nodes ts at c h = ap parts_of (get_or_from_slice_get ts at (tree_of ts c) expr.Thing h) ∙ parts_of_cell ts c

pub nodes_before : (ts : List ClassExpr) (at : ℕ) (c : Cell) → at < length ts → is_before at c ≡ true → AreBefore (length ts) (nodes_of c)
nodes_before ts at c lt before = is_before_more at (length ts) (omega arith) c before

pub marks_parts : (ts : List ClassExpr) (fs : List Bool) (at : ℕ) (c : Cell) → length fs ≡ length ts → at < length ts → slice_get ts at ≡ Some (tree_of ts c) → is_before at c ≡ true → AreMarked ts (flag_nodes fs (nodes_of c)) (parts_at ts at)
marks_parts ts fs at c long lt h before t i =
    let n : (n : Node) × In n (nodes_of c) × (tree_at ts n ≡ t) = in_map (tree_at ts) (nodes_of c) t (subst (In t) (parts_are_nodes ts at c h) i) in
    let within : n.0.place < length ts = all_in (length ts) (nodes_of c) n.0 (nodes_before ts at c lt before) n.1 in (
      n.0.place,
      slice_get-get_or ts n.0.place expr.Thing within ∙ ap Some n.2,
      flag_marks (nodes_of c) fs (length ts) n.0 long (nodes_before ts at c lt before) n.1,
    )

pub marks_sound : (ts : List ClassExpr) (fs : List Bool) (at : ℕ) (c : Cell) → slice_get ts at ≡ Some (tree_of ts c) → is_before at c ≡ true → IsMarked fs at → AreReached ts at fs (flag_nodes fs (nodes_of c))
marks_sound ts fs at c h before marked i m = elim (flag_sound (nodes_of c) fs i m) [
  | inl k ↦ inl k
  | inr r ↦ inr (subst (λ p. p < at) r.2 (all_in at (nodes_of c) r.0 before r.1), marked, subst (In (get_or ts i expr.Thing)) (sym (parts_are_nodes ts at c h)) (subst (λ p. In (get_or ts p expr.Thing) (map (tree_at ts) (nodes_of c))) r.2 (in_mapped (tree_at ts) (nodes_of c) r.0 r.1)))
]

-- ---- from the last node to the first

pub closed_none : (ts : List ClassExpr) (fs : List Bool) → AreClosed ts fs 0
closed_none ts fs i lt le m = absurd (omega arith)

pub sound_first : (ts : List ClassExpr) (fs : List Bool) → AreSound ts fs fs
sound_first ts fs i m = start m

pub sound_next : (ts : List ClassExpr) (at : ℕ) (old fs gs : List Bool) → AreSound ts old fs → AreReached ts at fs gs → AreSound ts old gs
sound_next ts at old fs gs sound reached i m = elim (reached i m) [
  | inl k ↦ sound i k
  | inr r ↦ part (sound at r.1) r.2
]

marked_more : (ts : List ClassExpr) (fs gs : List Bool) (ps : List ClassExpr) → Keeps fs gs → AreMarked ts fs ps → AreMarked ts gs ps
marked_more ts fs gs ps kept marked t i = let m = marked t i in (m.0, m.1, kept m.0 m.2)

closed_at : (ts : List ClassExpr) (at done : ℕ) (fs gs : List Bool) → at + done + 1 ≡ length ts → Keeps fs gs → (IsMarked fs at → AreMarked ts gs (parts_at ts at)) → AreClosed ts fs done → (i : ℕ) → i < length ts → length ts ≤ i + (done + 1) → IsMarked fs i → AreMarked ts gs (parts_at ts i)
closed_at ts at done fs gs e kept parts closed i lt le m = elim (either) [
  | inl is ↦ subst (λ k. AreMarked ts gs (parts_at ts k)) is (parts (subst (IsMarked fs) (sym is) m))
  | inr above ↦ marked_more ts fs gs (parts_at ts i) kept (closed i lt above m)
]
  where
    either : (at ≡ i) ⊎ (length ts ≤ i + done)
    either = grind arith

pub closed_next : (ts : List ClassExpr) (at done : ℕ) (fs gs : List Bool) → at + done + 1 ≡ length ts → Keeps fs gs → (IsMarked fs at → AreMarked ts gs (parts_at ts at)) → AreReached ts at fs gs → AreClosed ts fs done → AreClosed ts gs (done + 1)
closed_next ts at done fs gs e kept parts reached closed i lt le m = elim (reached i m) [
  | inl k ↦ closed_at ts at done fs gs e kept parts closed i lt le k
  | inr r ↦ absurd (let l : i < at = r.0 in omega arith)
]

pub keeps_next : (fs gs hs : List Bool) → Keeps fs gs → Keeps gs hs → Keeps fs hs
keeps_next fs gs hs a b i m = b i (a i m)

-- the parts of a tree have nodes before its own
pub parts_there : (ts : List ClassExpr) (at : ℕ) (c : Cell) → PartsAreThere ts at c
parts_there ts at c fits before t i =
    let n = in_map (tree_at ts) (nodes_of c) t (subst (In t) (parts_of_cell ts c) i) in
    let below : n.0.place < at = all_in at (nodes_of c) n.0 before n.1 in
    let within : n.0.place < length ts = omega (arith, below, fits) in
    (n.0.place, below, slice_get-get_or ts n.0.place expr.Thing within ∙ ap Some n.2)
