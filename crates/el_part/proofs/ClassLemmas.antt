-- A map of classes, one node after the other.
use Rattle.std.proofs.Common.{◌≡◌, ℕ, zero, ◌+◌, ◌≤◌, true, false, List, [], ◌∷◌, ◌++◌, suc, Option, None, Some, cond, inl, inr, length, map, slice_get, take, refl, sym, ap, subst, ◌∙◌, arith, true≢false}
use Rattle.std.proofs.lemmas.Bool.{eqb-true, eq-eqb}
use Rattle.fact_rows.specs.Member.{In, here}
use Rattle.fact_rows.proofs.Members.{and_parts, by_bool, in_left, in_one, in_parts, in_right}
use Rattle.owl_axioms.proofs.Adding.{take_suc}
use Rattle.owl_axioms.specs.declared.expr.ClassExpr.{ClassExpr}
use Rattle.owl_axioms.specs.declared.expr.ClassExpr.TheOpen.{ClassExpr-F}
use Rattle.owl_axioms.specs.declared.expr.ClassExpr.TheVariants as expr
use Rattle.owl_axioms.specs.declared.expr.ClassExpr.TheViews.{out-ClassExpr, out-roll-ClassExpr, roll-ClassExpr}
use Rattle.expr_pool.specs.Pool.{AreDifferent, tree_at, tree_of}
use Rattle.expr_pool.specs.declared.cell.Cell.{Cell}
use Rattle.expr_pool.specs.declared.cell.Cell.TheVariants as cell
use Rattle.expr_pool.specs.declared.cell.Node.{Node}
use Rattle.el_part.specs.Part.{IsNodeOf}
use Rattle.el_part.specs.inner.ClassMap.{AreClassesOf, same_iri, with_class}

-- ---- IRIs

pub iri_tells : (a b : List ℕ) → same_iri a b ≡ true → a ≡ b
iri_tells [] [] h = refl
iri_tells [] (y ∷ b) h = absurd (true≢false (sym h))
iri_tells (x ∷ a) [] h = absurd (true≢false (sym h))
iri_tells (x ∷ a) (y ∷ b) h =
    let p = and_parts _ _ h in
    let first = eqb-true x y p.0 in
    let rest = iri_tells a b p.1 in λ i. first i ∷ rest i

pub iri_itself : (a : List ℕ) → same_iri a a ≡ true
iri_itself [] = refl
iri_itself (x ∷ a) = rw (eq-eqb x x refl) (iri_itself a)

-- ---- the IRI of a tree that is a class

abbrev name_in : ClassExpr-F ClassExpr → Option (List ℕ)
name_in (ClassExpr-F.Class iri) = Some iri
name_in _ = None

name_of : ClassExpr → Option (List ℕ)
name_of t = name_in (out-ClassExpr t)

cell_name : Cell → Option (List ℕ)
cell_name (cell.Class iri) = Some iri
cell_name _ = None

named_class : (iri : List ℕ) → name_of (expr.Class iri) ≡ Some iri
unfolding name_of roll-ClassExpr denote.Hole.Carrier.roll
named_class iri = ap name_in (out-roll-ClassExpr (ClassExpr-F.Class iri))

named_cell : (ts : List ClassExpr) (c : Cell) → name_of (tree_of ts c) ≡ cell_name c
unfolding name_of cell_name tree_of roll-ClassExpr denote.Hole.Carrier.roll
named_cell ts cell.Thing = ap name_in (out-roll-ClassExpr ClassExpr-F.Thing)
named_cell ts cell.Nothing = ap name_in (out-roll-ClassExpr ClassExpr-F.Nothing)
named_cell ts (cell.Class iri) = ap name_in (out-roll-ClassExpr (ClassExpr-F.Class iri))
named_cell ts (cell.And ns) = ap name_in (out-roll-ClassExpr (ClassExpr-F.And (map (tree_at ts) ns)))
named_cell ts (cell.Or ns) = ap name_in (out-roll-ClassExpr (ClassExpr-F.Or (map (tree_at ts) ns)))
named_cell ts (cell.Not n) = ap name_in (out-roll-ClassExpr (ClassExpr-F.Not (tree_at ts n)))
named_cell ts (cell.Some r n) = ap name_in (out-roll-ClassExpr (ClassExpr-F.Some r (tree_at ts n)))
named_cell ts (cell.All r n) = ap name_in (out-roll-ClassExpr (ClassExpr-F.All r (tree_at ts n)))
named_cell ts (cell.Min k r n) = ap name_in (out-roll-ClassExpr (ClassExpr-F.Min k r (tree_at ts n)))
named_cell ts (cell.Max k r n) = ap name_in (out-roll-ClassExpr (ClassExpr-F.Max k r (tree_at ts n)))
named_cell ts (cell.Exact k r n) = ap name_in (out-roll-ClassExpr (ClassExpr-F.Exact k r (tree_at ts n)))

class_cell : (ts : List ClassExpr) (c : Cell) (iri : List ℕ) → cell_name c ≡ Some iri → tree_of ts c ≡ expr.Class iri
unfolding cell_name tree_of
class_cell ts cell.Thing iri h = absurd cc
class_cell ts cell.Nothing iri h = absurd cc
class_cell ts (cell.Class other) iri h = let e : other ≡ iri = cc in ap (λ a. expr.Class a) e
class_cell ts (cell.And ns) iri h = absurd cc
class_cell ts (cell.Or ns) iri h = absurd cc
class_cell ts (cell.Not n) iri h = absurd cc
class_cell ts (cell.Some r n) iri h = absurd cc
class_cell ts (cell.All r n) iri h = absurd cc
class_cell ts (cell.Min k r n) iri h = absurd cc
class_cell ts (cell.Max k r n) iri h = absurd cc
class_cell ts (cell.Exact k r n) iri h = absurd cc

with_name : Option (List ℕ) → Node → (List ℕ → Option Node) → List ℕ → Option Node
with_name None n f other = f other
with_name (Some iri) n f other = cond (same_iri iri other) (Some n) (f other)

with_is : (c : Cell) (n : Node) (f : List ℕ → Option Node) (other : List ℕ) → with_class c n f other ≡ with_name (cell_name c) n f other
unfolding with_class with_name cell_name
with_is cell.Thing n f other = refl
with_is cell.Nothing n f other = refl
with_is (cell.Class iri) n f other = refl
with_is (cell.And ns) n f other = refl
with_is (cell.Or ns) n f other = refl
with_is (cell.Not m) n f other = refl
with_is (cell.Some r m) n f other = refl
with_is (cell.All r m) n f other = refl
with_is (cell.Min k r m) n f other = refl
with_is (cell.Max k r m) n f other = refl
with_is (cell.Exact k r m) n f other = refl

-- ---- one node more

pub same_node : (m n : Node) → m.place ≡ n.place → m ≡ n
same_node m n e = λ i. record { place = e i }

module _ (ts : List ClassExpr) (different : AreDifferent ts) (xs : List Node) (n : Node) (c : Cell) (at : IsNodeOf ts n (tree_of ts c)) (old : List ℕ → Option Node) (are : AreClassesOf ts xs old) where
  -- the node is that of a class exactly where its cell has a name
  class_at : (iri : List ℕ) → IsNodeOf ts n (expr.Class iri) → cell_name c ≡ Some iri
  class_at iri h =
      let e : Some (tree_of ts c) ≡ Some (expr.Class iri) = sym at ∙ h in
      let f : tree_of ts c ≡ expr.Class iri = cc in
      sym (named_cell ts c) ∙ ap name_of f ∙ named_class iri

  at_class : (iri : List ℕ) → cell_name c ≡ Some iri → IsNodeOf ts n (expr.Class iri)
  at_class iri h = at ∙ ap Some (class_cell ts c iri h)

  abbrev Found : List ℕ → Node → Type 0
  Found iri m = In m (xs ++ n ∷ []) × IsNodeOf ts m (expr.Class iri)

  to_new : (o : Option (List ℕ)) → cell_name c ≡ o → (iri : List ℕ) (m : Node) → with_name o n old iri ≡ Some m → Found iri m
  unfolding with_name
  to_new None e iri m h = let f = (are iri m).0 h in (in_left (n ∷ []) f.0, f.1)
  to_new (Some name) e iri m h =
      by_bool (same_iri name iri)
      (λ (t : same_iri name iri ≡ true).
      let k : Some n ≡ Some m = sym (ap (λ b. cond b (Some n) (old iri)) t) ∙ h in
      let s : n ≡ m = cc in
      subst (Found iri) s (in_right xs here, at_class iri (e ∙ ap Some (iri_tells name iri t))))
      (λ (t : same_iri name iri ≡ false).
      let f = (are iri m).0 (sym (ap (λ b. cond b (Some n) (old iri)) t) ∙ h) in (in_left (n ∷ []) f.0, f.1))

  kept : (o : Option (List ℕ)) → cell_name c ≡ o → (iri : List ℕ) (m : Node) → In m xs → IsNodeOf ts m (expr.Class iri) → with_name o n old iri ≡ Some m
  unfolding with_name
  kept None e iri m i h = (are iri m).1 (i, h)
  kept (Some name) e iri m i h =
      by_bool (same_iri name iri)
      (λ (t : same_iri name iri ≡ true).
      let s : n ≡ m = same_node n m (different n.place m.place (expr.Class iri) (at_class iri (e ∙ ap Some (iri_tells name iri t))) h) in
      ap (λ b. cond b (Some n) (old iri)) t ∙ ap Some s)
      (λ (t : same_iri name iri ≡ false). ap (λ b. cond b (Some n) (old iri)) t ∙ (are iri m).1 (i, h))

  latest : (iri : List ℕ) → IsNodeOf ts n (expr.Class iri) → with_name (cell_name c) n old iri ≡ Some n
  unfolding with_name
  latest iri h = ap (λ o. with_name o n old iri) (class_at iri h) ∙ ap (λ b. cond b (Some n) (old iri)) (iri_itself iri)

  pub class_more : (new : List ℕ → Option Node) → ((iri : List ℕ) → new iri ≡ with_class c n old iri) → AreClassesOf ts (xs ++ n ∷ []) new
  class_more new is iri m = (
    λ h. to_new (cell_name c) refl iri m (sym (is iri ∙ with_is c n old iri) ∙ h),
    λ f. is iri ∙ with_is c n old iri ∙ elim (in_parts xs f.0) [
      | inl i ↦ kept (cell_name c) refl iri m i f.1
      | inr j ↦ subst (λ k. with_name (cell_name c) n old iri ≡ Some k) (sym (in_one j)) (latest iri (subst (λ k. IsNodeOf ts k (expr.Class iri)) (in_one j) f.1))
    ],
  )

pub class_next : (ts : List ClassExpr) (nodes : List Node) (i : ℕ) (n : Node) (c : Cell) (old new : List ℕ → Option Node) → AreDifferent ts → slice_get nodes i ≡ Some n → IsNodeOf ts n (tree_of ts c) → AreClassesOf ts (take i nodes) old → ((iri : List ℕ) → new iri ≡ with_class c n old iri) → AreClassesOf ts (take (i + 1) nodes) new
class_next ts nodes i n c old new different here_is at are is =
    let next : suc i ≡ i + 1 = omega arith in
    subst (λ xs. AreClassesOf ts xs new) (sym (take_suc nodes i n here_is) ∙ ap (λ k. take k nodes) next) (class_more ts different (take i nodes) n c at old are new is)

take_all : {X : Type 0} (n : ℕ) (xs : List X) → length xs ≤ n → take n xs ≡ xs
take_all zero [] h = refl
take_all zero (x ∷ xs) h = absurd (omega arith)
take_all (suc n) [] h = refl
take_all (suc n) (x ∷ xs) h = ap (λ l. x ∷ l) (take_all n xs (omega (arith, h)))

pub class_done : (ts : List ClassExpr) (nodes : List Node) (i : ℕ) (classes : List ℕ → Option Node) → length nodes ≤ i → AreClassesOf ts (take i nodes) classes → AreClassesOf ts nodes classes
class_done ts nodes i classes h are = subst (λ xs. AreClassesOf ts xs classes) (take_all i nodes h) are
