-- Interning trees one after the other.
use Rattle.std.proofs.Common.{◌≡◌, ℕ, ◌+◌, ◌<◌, Bool, true, false, List, [], ◌∷◌, ◌++◌, zero, suc, Some, inl, inr, if◌then◌else◌, length, slice_get, take, refl, sym, ap, subst, ◌∙◌, arith}
use Rattle.std.specs.List.{list_any}
use Rattle.std.proofs.lemmas.Option.{slice_get_within}
use Rattle.indexmap.specs.IndexSet.{insert_key}
use Rattle.owl_axioms.specs.declared.expr.ClassExpr.{ClassExpr}
use Rattle.owl_axioms.specs.declared.expr.ClassExpr.TheOpen.{ClassExpr-F}
use Rattle.owl_axioms.specs.declared.expr.ClassExpr.TheVariants as expr
use Rattle.owl_axioms.specs.declared.expr.ClassExpr.TheViews.{out-roll-ClassExpr, roll-ClassExpr}
use Rattle.fact_rows.specs.Member.{In, here, there}
use Rattle.fact_rows.proofs.Members.{in_none, in_one, in_left, in_right}
use Rattle.expr_pool.proofs.Lists.{get_map, get_snoc}
use Rattle.expr_pool.proofs.PartLemmas.{parts_there}
use Rattle.expr_pool.proofs.PoolLemmas.{as_pool, length_snoc, pool_before, pool_different, take_next, trees_of_snoc, fresh}
use Rattle.expr_pool.proofs.SameCell.{same_cell}
use Rattle.expr_pool.specs.Interned.{AddsInside, HasNode, IsLastOrKnown}
use Rattle.expr_pool.specs.Laws.{PartsHaveNodes}
use Rattle.expr_pool.specs.Part.{Inside, deeper, itself, layer_parts, parts_of}
use Rattle.expr_pool.specs.Pool.{IsPool, IsWithin, tree_of, trees_of}
use Rattle.expr_pool.specs.inner.Visited.{EndsWith, Visits, only_part}
use Rattle.expr_pool.specs.declared.cell.Cell.{Cell}

-- ---- the parts of each kind of tree

pub parts_thing : parts_of expr.Thing ≡ []
unfolding parts_of layer_parts roll-ClassExpr denote.Hole.Carrier.roll
parts_thing = ap layer_parts (out-roll-ClassExpr ClassExpr-F.Thing)

pub parts_nothing : parts_of expr.Nothing ≡ []
unfolding parts_of layer_parts roll-ClassExpr denote.Hole.Carrier.roll
parts_nothing = ap layer_parts (out-roll-ClassExpr ClassExpr-F.Nothing)

pub parts_class : (iri : List ℕ) → parts_of (expr.Class iri) ≡ []
unfolding parts_of layer_parts roll-ClassExpr denote.Hole.Carrier.roll
parts_class iri = ap layer_parts (out-roll-ClassExpr (ClassExpr-F.Class iri))

pub parts_and : (es : List ClassExpr) → parts_of (expr.And es) ≡ es
unfolding parts_of layer_parts roll-ClassExpr denote.Hole.Carrier.roll
parts_and es = ap layer_parts (out-roll-ClassExpr (ClassExpr-F.And es))

pub parts_or : (es : List ClassExpr) → parts_of (expr.Or es) ≡ es
unfolding parts_of layer_parts roll-ClassExpr denote.Hole.Carrier.roll
parts_or es = ap layer_parts (out-roll-ClassExpr (ClassExpr-F.Or es))

pub parts_not : (e : ClassExpr) → parts_of (expr.Not e) ≡ only_part e
unfolding parts_of layer_parts roll-ClassExpr denote.Hole.Carrier.roll
parts_not e = ap layer_parts (out-roll-ClassExpr (ClassExpr-F.Not e))

pub parts_some : (r : List ℕ) (e : ClassExpr) → parts_of (expr.Some r e) ≡ only_part e
unfolding parts_of layer_parts roll-ClassExpr denote.Hole.Carrier.roll
parts_some r e = ap layer_parts (out-roll-ClassExpr (ClassExpr-F.Some r e))

pub parts_all : (r : List ℕ) (e : ClassExpr) → parts_of (expr.All r e) ≡ only_part e
unfolding parts_of layer_parts roll-ClassExpr denote.Hole.Carrier.roll
parts_all r e = ap layer_parts (out-roll-ClassExpr (ClassExpr-F.All r e))

pub parts_min : (n : ℕ) (r : List ℕ) (e : ClassExpr) → parts_of (expr.Min n r e) ≡ only_part e
unfolding parts_of layer_parts roll-ClassExpr denote.Hole.Carrier.roll
parts_min n r e = ap layer_parts (out-roll-ClassExpr (ClassExpr-F.Min n r e))

pub parts_max : (n : ℕ) (r : List ℕ) (e : ClassExpr) → parts_of (expr.Max n r e) ≡ only_part e
unfolding parts_of layer_parts roll-ClassExpr denote.Hole.Carrier.roll
parts_max n r e = ap layer_parts (out-roll-ClassExpr (ClassExpr-F.Max n r e))

pub parts_exact : (n : ℕ) (r : List ℕ) (e : ClassExpr) → parts_of (expr.Exact n r e) ≡ only_part e
unfolding parts_of layer_parts roll-ClassExpr denote.Hole.Carrier.roll
parts_exact n r e = ap layer_parts (out-roll-ClassExpr (ClassExpr-F.Exact n r e))

-- ---- what is there

-- what stands in a part stands in the whole
pub inside_more : {a b c : ClassExpr} → Inside a b → Inside b c → Inside a c
inside_more o itself = o
inside_more o (deeper i p) = deeper (inside_more o i) p

inside_part : {t p s : ClassExpr} → In p (parts_of t) → Inside p s → Inside t s
inside_part i o = inside_more (deeper itself i) o

-- the parts of a tree that is there, one layer down
abbrev LayerThere : List ClassExpr → Type 0
LayerThere trees = (i : ℕ) (t : ClassExpr) → slice_get trees i ≡ Some t → (p : ClassExpr) → In p (parts_of t) → (j : ℕ) × (j < i) × (slice_get trees j ≡ Some p)

layer_there : (cs : List Cell) → IsPool cs → LayerThere (trees_of cs)
layer_there cs pool i t at p in_parts_of =
    let found = get_map (tree_of (trees_of cs)) cs i t (ap (λ l. slice_get l i) (as_pool cs pool).0 ∙ at) in
    let within : i < length (trees_of cs) = slice_get_within (trees_of cs) i t at in
    parts_there (trees_of cs) i found.0 (omega (arith, within)) (pool_before cs i found.0 pool found.1) p (subst (λ u. In p (parts_of u)) (sym found.2) in_parts_of)

-- and at whatever depth
all_there : (trees : List ClassExpr) → LayerThere trees → PartsHaveNodes trees
all_there trees layer i t at _ itself = (i, omega arith, at)
all_there trees layer i t at p (deeper {t = u} inside part) =
    let up = all_there trees layer i t at u inside in
    let down = layer up.0 u up.2 p part in
    (down.0, omega (arith, up.1, down.1), down.2)

pub pool_has_parts : (cs : List Cell) → IsPool cs → PartsHaveNodes (trees_of cs)
pool_has_parts cs pool = all_there (trees_of cs) (layer_there cs pool)

-- ---- interning one after the other

pub visits_none : (old trees : List ClassExpr) → Visits old trees old
visits_none old trees = record { known = λ h. refl; only = λ t h. inl h }

pub visits_more : (old xs ys new : List ClassExpr) → ((t : ClassExpr) → In t xs → In t ys) → Visits old xs new → Visits old ys new
visits_more old xs ys new more v = record {
  known = λ h. v.known (λ t i. h t (more t i));
  only = λ t h. elim (v.only t h) [
    | inl o ↦ inl o
    | inr r ↦ inr (r.0, more r.0 r.1, r.2)
  ];
}

pub visits_next : (old xs mid ys new : List ClassExpr) → Visits old xs mid → Visits mid ys new → Visits old (xs ++ ys) new
visits_next old xs mid ys new v w = record {
  known = λ h.
      let same : mid ≡ old = v.known (λ t i. h t (in_left ys i)) in
      w.known (λ t i. subst (λ ts. HasNode ts t) (sym same) (h t (in_right xs i))) ∙ same;
  only = λ t h. elim (w.only t h) [
    | inl o ↦ elim (v.only t o) [
      | inl k ↦ inl k
      | inr r ↦ inr (r.0, in_left ys r.1, r.2)
    ]
    | inr r ↦ inr (r.0, in_right xs r.1, r.2)
  ];
}

pub visits_same : (old xs ys new : List ClassExpr) → xs ≡ ys → Visits old xs new → Visits old ys new
visits_same old xs ys new e v = subst (λ zs. Visits old zs new) e v

pub ends_same : (old xs ys new : List ClassExpr) → xs ≡ ys → EndsWith old xs new → EndsWith old ys new
ends_same old xs ys new e v = subst (λ zs. EndsWith old zs new) e v

pub ends_none : (old trees : List ClassExpr) → EndsWith old trees old
ends_none old trees = inl refl

-- one tree more
pub ends_next : (old xs mid new : List ClassExpr) (t : ClassExpr) (place : ℕ) → EndsWith old xs mid → IsLastOrKnown mid new place → slice_get new place ≡ Some t → EndsWith old (xs ++ t ∷ []) new
ends_next old xs mid new t place e l at = elim l [
  | inr long ↦ inr (t, in_right xs here, place, at, long)
  | inl same ↦ subst (λ n. EndsWith old (xs ++ t ∷ []) n) (sym same) (elim e [
    | inl k ↦ inl k
    | inr r ↦ inr (r.0, in_left (t ∷ []) r.1, r.2, r.3, r.4)
  ])
]

pub ends_one : (old new : List ClassExpr) (t : ClassExpr) (place : ℕ) → IsLastOrKnown old new place → slice_get new place ≡ Some t → EndsWith old (only_part t) new
ends_one old new t place l at = ends_next old [] old new t place (inl refl) l at

in_take : {X : Type 0} (n : ℕ) (xs : List X) (x : X) → In x (take n xs) → In x xs
in_take zero xs x i = in_none i
in_take (suc n) [] x i = i
in_take (suc n) (y ∷ xs) _ here = here
in_take (suc n) (y ∷ xs) x (there i) = there (in_take n xs x i)

pub visits_taken : (n : ℕ) (old trees new : List ClassExpr) → Visits old (take n trees) new → Visits old trees new
visits_taken n old trees new v = visits_more old (take n trees) trees new (in_take n trees) v

pub taken_next : (trees : List ClassExpr) (i : ℕ) (t : ClassExpr) → slice_get trees i ≡ Some t → take i trees ++ only_part t ≡ take (i + 1) trees
taken_next trees i t at = let next : suc i ≡ i + 1 = omega arith in sym (take_next i trees t at) ∙ ap (λ k. take k trees) next

-- ---- a tree after its parts

one_is : (t : ClassExpr) (p : ClassExpr) → In p (only_part t) → p ≡ t
one_is t p i = in_one i

pub visits_tree : (cs : List Cell) (tree : ClassExpr) (mid new : List ClassExpr) → IsPool cs → Visits (trees_of cs) (parts_of tree) mid → Visits mid (only_part tree) new → Visits (trees_of cs) (only_part tree) new
visits_tree cs tree mid new pool v w = record {
  known = λ h.
      let old = h tree here in
      let same : mid ≡ trees_of cs = v.known (λ p i. let part = layer_there cs pool old.0 tree old.1 p i in (part.0, part.2)) in
      w.known (λ t i. subst (λ u. HasNode mid u) (sym (one_is tree t i)) (subst (λ ts. HasNode ts tree) (sym same) old)) ∙ same;
  only = λ t h. elim (w.only t h) [
    | inl o ↦ elim (v.only t o) [
      | inl k ↦ inl k
      | inr r ↦ inr (tree, here, inside_part r.1 r.2)
    ]
    | inr r ↦ inr (tree, here, subst (λ u. Inside u t) (one_is tree r.0 r.1) r.2)
  ];
}

-- where its parts alone fail
pub visits_parts : (cs : List Cell) (tree : ClassExpr) (mid : List ClassExpr) → IsPool cs → Visits (trees_of cs) (parts_of tree) mid → Visits (trees_of cs) (only_part tree) mid
visits_parts cs tree mid pool v = visits_tree cs tree mid mid pool v (visits_none mid (only_part tree))

-- a tree whose node is not new has no new part behind it
pub last_tree : (cs ds : List Cell) (tree : ClassExpr) (new : List ClassExpr) (place : ℕ) → IsPool ds → EndsWith (trees_of cs) (parts_of tree) (trees_of ds) → IsLastOrKnown (trees_of ds) new place → slice_get new place ≡ Some tree → IsLastOrKnown (trees_of cs) new place
last_tree cs ds tree new place pool e l at = elim l [
  | inr long ↦ inr long
  | inl same ↦ elim e [
    | inl k ↦ inl (same ∙ k)
    | inr r ↦ absurd (
        let here_too : slice_get (trees_of ds) place ≡ Some tree = ap (λ ts. slice_get ts place) (sym same) ∙ at in
        let part = layer_there ds pool place tree here_too r.0 r.1 in
        let one : part.0 ≡ r.2 = pool_different ds pool part.0 r.2 r.0 part.2 r.3 in
        let within : place < length (trees_of ds) = slice_get_within (trees_of ds) place tree here_too in
        omega (arith, one, within, part.1, r.4))
  ]
]

-- ---- one cell

pub inserts_one : (b : Bool) (cs : List Cell) (c : Cell) → list_any (same_cell c) cs ≡ b → IsPool cs → IsWithin cs c → Visits (trees_of cs) (only_part (tree_of (trees_of cs) c)) (trees_of (if b then cs else cs ++ c ∷ []))
inserts_one true cs c e pool within = visits_none (trees_of cs) (only_part (tree_of (trees_of cs) c))
inserts_one false cs c e pool within = record {
  known = λ h. let old = h (tree_of (trees_of cs) c) here in absurd (fresh (trees_of cs) cs c (as_pool cs pool) within e old.0 old.1);
  only = λ t h. elim (get_snoc (trees_of cs) (tree_of (trees_of cs) c) h.0 t (ap (λ ts. slice_get ts h.0) (sym (trees_of_snoc cs c)) ∙ h.1)) [
    | inl o ↦ inl (h.0, o)
    | inr r ↦ inr (tree_of (trees_of cs) c, here, subst (λ u. Inside u t) (sym r.1) itself)
  ];
}

pub inserts_visit : (cs new : List Cell) (c : Cell) → IsPool cs → IsWithin cs c → new ≡ insert_key same_cell cs c → Visits (trees_of cs) (only_part (tree_of (trees_of cs) c)) (trees_of new)
inserts_visit cs new c pool within is = subst (λ ds. Visits (trees_of cs) (only_part (tree_of (trees_of cs) c)) (trees_of ds)) (sym is) (inserts_one (list_any (same_cell c) cs) cs c refl pool within)

last_at : (b : Bool) (cs : List Cell) (c : Cell) (place : ℕ) → list_any (same_cell c) cs ≡ b → IsPool cs → IsWithin cs c → slice_get (trees_of (if b then cs else cs ++ c ∷ [])) place ≡ Some (tree_of (trees_of cs) c) → IsLastOrKnown (trees_of cs) (trees_of (if b then cs else cs ++ c ∷ [])) place
last_at true cs c place e pool within at = inl refl
last_at false cs c place e pool within at = elim (get_snoc (trees_of cs) (tree_of (trees_of cs) c) place (tree_of (trees_of cs) c) (ap (λ ts. slice_get ts place) (sym (trees_of_snoc cs c)) ∙ at)) [
  | inl o ↦ absurd (fresh (trees_of cs) cs c (as_pool cs pool) within e place o)
  | inr r ↦ inr (ap length (trees_of_snoc cs c) ∙ length_snoc (trees_of cs) (tree_of (trees_of cs) c) ∙ ap (λ n. n + 1) (sym r.0))
]

pub inserts_last : (cs new : List Cell) (c : Cell) (place : ℕ) → IsPool cs → IsWithin cs c → new ≡ insert_key same_cell cs c → slice_get (trees_of new) place ≡ Some (tree_of (trees_of cs) c) → IsLastOrKnown (trees_of cs) (trees_of new) place
inserts_last cs new c place pool within is at =
    subst (λ ds. IsLastOrKnown (trees_of cs) (trees_of ds) place) (sym is) (last_at (list_any (same_cell c) cs) cs c place refl pool within (ap (λ ds. slice_get (trees_of ds) place) (sym is) ∙ at))

-- ---- what the caller reads

pub known_from : (seen old new : List ClassExpr) (tree : ClassExpr) → seen ≡ old → Visits seen (only_part tree) new → HasNode old tree → new ≡ old
known_from seen old new tree is v h = v.known (λ t i. subst (λ u. HasNode seen u) (sym (one_is tree t i)) (subst (λ ts. HasNode ts tree) (sym is) h)) ∙ is

pub only_from : (seen old new : List ClassExpr) (tree : ClassExpr) → seen ≡ old → Visits seen (only_part tree) new → AddsInside old tree new
only_from seen old new tree is v t h = elim (v.only t h) [
  | inl o ↦ inl (subst (λ ts. HasNode ts t) is o)
  | inr r ↦ inr (subst (λ u. Inside u t) (one_is tree r.0 r.1) r.2)
]
