-- Axioms over nodes, and what they stand for.
use Rattle.std.proofs.Common.{◌≡◌, ℕ, ◌+◌, ◌<◌, Bool, true, false, List, [], ◌∷◌, ◌++◌, suc, Option, None, Some, inl, inr, length, map, slice_get, take, refl, sym, ap, subst, ◌∙◌, arith}
use Rattle.std.specs.List.{list_all}
use Rattle.std.proofs.lemmas.Option.{get_or_from_slice_get, slice_get-get_or, slice_get_within}
use Rattle.fact_rows.specs.Member.{In, here, there}
use Rattle.fact_rows.proofs.Members.{in_cons, in_none, in_one, in_parts}
use Rattle.owl_axioms.specs.declared.body.Axiom.{Axiom}
use Rattle.owl_axioms.specs.declared.body.Body.{Body}
use Rattle.owl_axioms.specs.declared.body.Body.TheVariants as body
use Rattle.owl_axioms.specs.declared.expr.ClassExpr.{ClassExpr}
use Rattle.owl_axioms.specs.declared.expr.ClassExpr.TheVariants as expr
use Rattle.std.proofs.lemmas.Grind.{flat_map-append}
use Rattle.owl_axioms.proofs.Adding.{take_suc}
use Rattle.expr_pool.proofs.Lists.{get_grown}
use Rattle.expr_pool.specs.Pool.{Grew, tree_at}
use Rattle.expr_pool.specs.declared.cell.Node.{Node}
use Rattle.el_rules.specs.ElPart.{el_axioms, el_bodies, if_el, is_el}
use Rattle.el_part.specs.Part.{IsNodeOf, body_of, nodes_in}
use Rattle.el_part.specs.declared.el_axiom.ElAxiom.{ElAxiom}
use Rattle.el_part.specs.declared.el_axiom.ElAxiom.TheVariants as el
use Rattle.el_part.specs.inner.Made.{AreWithin, IsPair, Stand}

-- ---- one axiom

within_node : (ts : List ClassExpr) (n : Node) (t : ClassExpr) → IsNodeOf ts n t → n.place < length ts
within_node ts n t h = slice_get_within ts n.place t h

tree_is : (ts : List ClassExpr) (n : Node) (t : ClassExpr) → IsNodeOf ts n t → tree_at ts n ≡ t
tree_is ts n t h = get_or_from_slice_get ts n.place t expr.Thing h

pub stand_none : (ts : List ClassExpr) → Stand ts [] []
stand_none ts = (refl, λ a i. in_none i)

stand_one : (ts : List ClassExpr) (a : ElAxiom) (b : Body) → body_of ts a ≡ b → ((n : Node) → In n (nodes_in a) → n.place < length ts) → Stand ts (a ∷ []) (b ∷ [])
stand_one ts a b is within = (ap (λ x. x ∷ []) is, λ x i n j. within n (subst (λ y. In n (nodes_in y)) (in_one i) j))

pub stand_append : (ts : List ClassExpr) (xs ys : List ElAxiom) (bs cs : List Body) → Stand ts xs bs → Stand ts ys cs → Stand ts (xs ++ ys) (bs ++ cs)
stand_append ts xs ys bs cs s t = (
  map_append xs ∙ (λ i. s.0 i ++ t.0 i),
  λ a i. elim (in_parts xs i) [
    | inl j ↦ s.1 a j
    | inr j ↦ t.1 a j
  ],
)
  where
    map_append : (xs : List ElAxiom) → map (body_of ts) (xs ++ ys) ≡ map (body_of ts) xs ++ map (body_of ts) ys
    map_append [] = refl
    map_append (x ∷ xs) = ap (λ l. body_of ts x ∷ l) (map_append xs)

-- ---- nodes keep their trees

tree_grown : (old new : List ClassExpr) → Grew old new → (n : Node) → n.place < length old → tree_at new n ≡ tree_at old n
tree_grown old new g n l = tree_is new n (tree_at old n) (get_grown old new n.place (tree_at old n) g (slice_get-get_or old n.place expr.Thing l))

pub grown_within : (old new : List ClassExpr) → Grew old new → (n : Node) → n.place < length old → n.place < length new
grown_within old new g n l = slice_get_within new n.place (tree_at old n) (get_grown old new n.place (tree_at old n) g (slice_get-get_or old n.place expr.Thing l))

body_grown : (old new : List ClassExpr) → Grew old new → (a : ElAxiom) → ((n : Node) → In n (nodes_in a) → n.place < length old) → body_of new a ≡ body_of old a
unfolding body_of nodes_in
body_grown old new g (el.Sub c d) h = λ i. body.Sub (tree_grown old new g c (h c here) i) (tree_grown old new g d (h d (there here)) i)
body_grown old new g (el.Disjoint c d) h = λ i. body.Disjoint (tree_grown old new g c (h c here) i) (tree_grown old new g d (h d (there here)) i)
body_grown old new g (el.Domain r c) h = λ i. body.Domain r (tree_grown old new g c (h c here) i)
body_grown old new g (el.SubRole r s) h = refl
body_grown old new g (el.Chain r s t) h = refl

bodies_grown : (old new : List ClassExpr) → Grew old new → (xs : List ElAxiom) → AreWithin old xs → map (body_of new) xs ≡ map (body_of old) xs
bodies_grown old new g [] w = refl
bodies_grown old new g (a ∷ xs) w =
    let first = body_grown old new g a (w a here) in
    let rest = bodies_grown old new g xs (λ x i. w x (there i)) in λ i. first i ∷ rest i

pub stand_grown : (old new : List ClassExpr) (xs : List ElAxiom) (bs : List Body) → Grew old new → Stand old xs bs → Stand new xs bs
stand_grown old new xs bs g s = (bodies_grown old new g xs s.1 ∙ s.0, λ a i n j. grown_within old new g n (s.1 a i n j))

-- ---- what is made of an axiom

if_el_true : (exprs : List ClassExpr) (said : List Body) → list_all is_el exprs ≡ true → if_el exprs said ≡ said
if_el_true exprs said h = rw h refl

if_el_false : (exprs : List ClassExpr) (said : List Body) → list_all is_el exprs ≡ false → if_el exprs said ≡ []
if_el_false exprs said h = rw h refl

stand_same : (ts : List ClassExpr) (xs ys : List ElAxiom) (bs cs : List Body) → ys ≡ xs → cs ≡ bs → Stand ts xs bs → Stand ts ys cs
stand_same ts xs ys bs cs e f s = subst (λ l. Stand ts l cs) (sym e) (subst (Stand ts xs) (sym f) s)

module _ (ts : List ClassExpr) (c d : ClassExpr) where
  pair_within : (x y : Node) → IsNodeOf ts x c → IsNodeOf ts y d → (n : Node) → In n (x ∷ y ∷ []) → n.place < length ts
  pair_within x y g h n i = elim (in_cons i) [
    | inl e ↦ subst (λ m. m.place < length ts) (sym e) (within_node ts x c g)
    | inr j ↦ subst (λ m. m.place < length ts) (sym (in_one j)) (within_node ts y d h)
  ]

  one_sub : (x y : Node) → IsNodeOf ts x c → IsNodeOf ts y d → Stand ts (el.Sub x y ∷ []) (body.Sub c d ∷ [])
  unfolding body_of nodes_in
  one_sub x y g h = stand_one ts (el.Sub x y) (body.Sub c d) (λ i. body.Sub (tree_is ts x c g i) (tree_is ts y d h i)) (pair_within x y g h)

  one_disjoint : (x y : Node) → IsNodeOf ts x c → IsNodeOf ts y d → Stand ts (el.Disjoint x y ∷ []) (body.Disjoint c d ∷ [])
  unfolding body_of nodes_in
  one_disjoint x y g h = stand_one ts (el.Disjoint x y) (body.Disjoint c d) (λ i. body.Disjoint (tree_is ts x c g i) (tree_is ts y d h i)) (pair_within x y g h)

  pair_of : (o : Option (Node × Node)) (p : Node × Node) → IsPair ts c d o → o ≡ Some p → IsPair ts c d (Some p)
  pair_of o p h e = subst (IsPair ts c d) e h

  none_of : (o : Option (Node × Node)) → IsPair ts c d o → o ≡ None → list_all is_el (c ∷ d ∷ []) ≡ false
  none_of o h e = subst (IsPair ts c d) e h

  pub sub_made : (o : Option (Node × Node)) (p : Node × Node) (made : List ElAxiom) → IsPair ts c d o → o ≡ Some p → made ≡ el.Sub p.0 p.1 ∷ [] → Stand ts made (el_bodies (body.Sub c d))
  unfolding el_bodies
  sub_made o p made h e m =
      let k = pair_of o p h e in
      stand_same ts (el.Sub p.0 p.1 ∷ []) made (body.Sub c d ∷ []) (el_bodies (body.Sub c d)) m (if_el_true (c ∷ d ∷ []) (body.Sub c d ∷ []) k.0) (one_sub p.0 p.1 k.1 k.2)

  pub sub_none : (o : Option (Node × Node)) (made : List ElAxiom) → IsPair ts c d o → o ≡ None → made ≡ [] → Stand ts made (el_bodies (body.Sub c d))
  unfolding el_bodies
  sub_none o made h e m = stand_same ts [] made [] (el_bodies (body.Sub c d)) m (if_el_false (c ∷ d ∷ []) (body.Sub c d ∷ []) (none_of o h e)) (stand_none ts)

  pub disjoint_made : (o : Option (Node × Node)) (p : Node × Node) (made : List ElAxiom) → IsPair ts c d o → o ≡ Some p → made ≡ el.Disjoint p.0 p.1 ∷ [] → Stand ts made (el_bodies (body.Disjoint c d))
  unfolding el_bodies
  disjoint_made o p made h e m =
      let k = pair_of o p h e in
      stand_same ts (el.Disjoint p.0 p.1 ∷ []) made (body.Disjoint c d ∷ []) (el_bodies (body.Disjoint c d)) m (if_el_true (c ∷ d ∷ []) (body.Disjoint c d ∷ []) k.0) (one_disjoint p.0 p.1 k.1 k.2)

  pub disjoint_none : (o : Option (Node × Node)) (made : List ElAxiom) → IsPair ts c d o → o ≡ None → made ≡ [] → Stand ts made (el_bodies (body.Disjoint c d))
  unfolding el_bodies
  disjoint_none o made h e m = stand_same ts [] made [] (el_bodies (body.Disjoint c d)) m (if_el_false (c ∷ d ∷ []) (body.Disjoint c d ∷ []) (none_of o h e)) (stand_none ts)

  pub equiv_none : (o : Option (Node × Node)) (made : List ElAxiom) → IsPair ts c d o → o ≡ None → made ≡ [] → Stand ts made (el_bodies (body.Equiv c d))
  unfolding el_bodies
  equiv_none o made h e m = stand_same ts [] made [] (el_bodies (body.Equiv c d)) m (if_el_false (c ∷ d ∷ []) (body.Sub c d ∷ body.Sub d c ∷ []) (none_of o h e)) (stand_none ts)

pub equiv_made : (ts : List ClassExpr) (c d : ClassExpr) (o : Option (Node × Node)) (p : Node × Node) (made : List ElAxiom) → IsPair ts c d o → o ≡ Some p → made ≡ el.Sub p.0 p.1 ∷ el.Sub p.1 p.0 ∷ [] → Stand ts made (el_bodies (body.Equiv c d))
unfolding el_bodies
equiv_made ts c d o p made h e m =
    let k = pair_of ts c d o p h e in
    stand_same ts (el.Sub p.0 p.1 ∷ el.Sub p.1 p.0 ∷ []) made (body.Sub c d ∷ body.Sub d c ∷ []) (el_bodies (body.Equiv c d)) m (if_el_true (c ∷ d ∷ []) (body.Sub c d ∷ body.Sub d c ∷ []) k.0)
    (stand_append ts (el.Sub p.0 p.1 ∷ []) (el.Sub p.1 p.0 ∷ []) (body.Sub c d ∷ []) (body.Sub d c ∷ []) (one_sub ts c d p.0 p.1 k.1 k.2) (one_sub ts d c p.1 p.0 k.2 k.1))

one_el : (c : ClassExpr) (b : Bool) → is_el c ≡ b → list_all is_el (c ∷ []) ≡ b
one_el c true e = rw e refl
one_el c false e = rw e refl

pub domain_made : (ts : List ClassExpr) (r : List ℕ) (c : ClassExpr) (n : Node) (made : List ElAxiom) → is_el c ≡ true → IsNodeOf ts n c → made ≡ el.Domain r n ∷ [] → Stand ts made (el_bodies (body.Domain r c))
unfolding el_bodies body_of nodes_in
domain_made ts r c n made e h m =
    stand_same ts (el.Domain r n ∷ []) made (body.Domain r c ∷ []) (el_bodies (body.Domain r c)) m (if_el_true (c ∷ []) (body.Domain r c ∷ []) (one_el c true e))
    (stand_one ts (el.Domain r n) (body.Domain r c) (ap (λ t. body.Domain r t) (tree_is ts n c h)) (λ k i. subst (λ m. m.place < length ts) (sym (in_one i)) (within_node ts n c h)))

pub domain_none : (ts : List ClassExpr) (r : List ℕ) (c : ClassExpr) (made : List ElAxiom) → is_el c ≡ false → made ≡ [] → Stand ts made (el_bodies (body.Domain r c))
unfolding el_bodies
domain_none ts r c made e m = stand_same ts [] made [] (el_bodies (body.Domain r c)) m (if_el_false (c ∷ []) (body.Domain r c ∷ []) (one_el c false e)) (stand_none ts)

pub none_made : (ts : List ClassExpr) (b : Body) (made : List ElAxiom) → el_bodies b ≡ [] → made ≡ [] → Stand ts made (el_bodies b)
none_made ts b made e m = stand_same ts [] made [] (el_bodies b) m e (stand_none ts)

pub sub_role_made : (ts : List ClassExpr) (r s : List ℕ) (made : List ElAxiom) → made ≡ el.SubRole r s ∷ [] → Stand ts made (el_bodies (body.SubRole r s))
unfolding el_bodies body_of nodes_in
sub_role_made ts r s made m = stand_same ts (el.SubRole r s ∷ []) made (body.SubRole r s ∷ []) (body.SubRole r s ∷ []) m refl (stand_one ts (el.SubRole r s) (body.SubRole r s) refl (λ n i. in_none i))

pub equiv_roles_made : (ts : List ClassExpr) (r s : List ℕ) (made : List ElAxiom) → made ≡ el.SubRole r s ∷ el.SubRole s r ∷ [] → Stand ts made (el_bodies (body.EquivRoles r s))
unfolding el_bodies body_of nodes_in
equiv_roles_made ts r s made m =
    stand_same ts (el.SubRole r s ∷ el.SubRole s r ∷ []) made (body.SubRole r s ∷ body.SubRole s r ∷ []) (body.SubRole r s ∷ body.SubRole s r ∷ []) m refl
    (stand_append ts (el.SubRole r s ∷ []) (el.SubRole s r ∷ []) (body.SubRole r s ∷ []) (body.SubRole s r ∷ []) (stand_one ts (el.SubRole r s) (body.SubRole r s) refl (λ n i. in_none i)) (stand_one ts (el.SubRole s r) (body.SubRole s r) refl (λ n i. in_none i)))

pub chain_made : (ts : List ClassExpr) (r s t : List ℕ) (made : List ElAxiom) → made ≡ el.Chain r s t ∷ [] → Stand ts made (el_bodies (body.Chain r s t))
unfolding el_bodies body_of nodes_in
chain_made ts r s t made m = stand_same ts (el.Chain r s t ∷ []) made (body.Chain r s t ∷ []) (body.Chain r s t ∷ []) m refl (stand_one ts (el.Chain r s t) (body.Chain r s t) refl (λ n i. in_none i))

pub transitive_made : (ts : List ClassExpr) (r : List ℕ) (made : List ElAxiom) → made ≡ el.Chain r r r ∷ [] → Stand ts made (el_bodies (body.Transitive r))
unfolding el_bodies body_of nodes_in
transitive_made ts r made m = stand_same ts (el.Chain r r r ∷ []) made (body.Chain r r r ∷ []) (body.Chain r r r ∷ []) m refl (stand_one ts (el.Chain r r r) (body.Chain r r r) refl (λ n i. in_none i))

-- ---- the axioms of an ontology, one after the other

pub stand_next : (old new : List ClassExpr) (xs ys : List ElAxiom) (axioms : List Axiom) (i : ℕ) (a : Axiom) → Grew old new → Stand old xs (el_axioms (take i axioms)) → Stand new ys (el_bodies a.body) → slice_get axioms i ≡ Some a → Stand new (xs ++ ys) (el_axioms (take (i + 1) axioms))
stand_next old new xs ys axioms i a g s t at =
    let next : suc i ≡ i + 1 = omega arith in
    let said : el_axioms (take (i + 1) axioms) ≡ el_axioms (take i axioms) ++ (el_bodies a.body ++ []) = sym (ap (λ n. el_axioms (take n axioms)) next) ∙ ap el_axioms (take_suc axioms i a at) ∙ flat_map-append (λ (x : Axiom). el_bodies x.body) (take i axioms) (a ∷ []) in
    stand_same new (xs ++ ys) (xs ++ ys) (el_axioms (take i axioms) ++ el_bodies a.body) (el_axioms (take (i + 1) axioms)) refl (said ∙ ap (λ l. el_axioms (take i axioms) ++ l) (append_none (el_bodies a.body)))
    (stand_append new xs ys (el_axioms (take i axioms)) (el_bodies a.body) (stand_grown old new xs (el_axioms (take i axioms)) g s) t)
  where
    append_none : (bs : List Body) → bs ++ [] ≡ bs
    append_none [] = refl
    append_none (b ∷ bs) = ap (λ l. b ∷ l) (append_none bs)
