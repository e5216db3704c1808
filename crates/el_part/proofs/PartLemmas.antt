-- What is taken from an ontology is its EL part.
use Rattle.std.proofs.Common.{◌≡◌, ◌<◌, List, [], ◌∷◌, ◌++◌, Option, Some, inl, inr, length, map, refl, sym, ap, subst, ◌∙◌}
use Rattle.std.specs.List.{flat_map}
use Rattle.std.proofs.lemmas.Option.{get_or_from_slice_get, slice_get-get_or, slice_get_within}
use Rattle.fact_rows.specs.Member.{In, here, there}
use Rattle.fact_rows.proofs.Members.{from_flat_map, from_map, in_cons, in_flat_map, in_left, in_map, in_none, in_parts, in_right}
use Rattle.owl_axioms.specs.declared.body.Axiom.{Axiom}
use Rattle.owl_axioms.specs.declared.body.Body.{Body}
use Rattle.owl_axioms.specs.declared.expr.ClassExpr.{ClassExpr}
use Rattle.owl_axioms.specs.declared.expr.ClassExpr.TheVariants as expr
use Rattle.expr_pool.proofs.Lists.{head_is, tail_is}
use Rattle.expr_pool.proofs.PartLemmas.{all_in}
use Rattle.expr_pool.proofs.PoolLemmas.{stand_more}
use Rattle.expr_pool.specs.Part.{AreBefore, Inside, itself, parts_of}
use Rattle.expr_pool.specs.Pool.{Grew, stand, tree_at}
use Rattle.expr_pool.specs.declared.cell.Node.{Node}
use Rattle.el_rules.specs.ElPart.{el_axioms}
use Rattle.el_rules.specs.Occurs.{Occurs, declared, exprs_in, nothing, part, standing, thing}
use Rattle.el_rules.specs.Rules.{IsElPartOf}
use Rattle.el_part.proofs.OccurLemmas.{before_all}
use Rattle.el_part.proofs.Parts.{declared_named, inside_occurs, named_occurs, occurs_el}
use Rattle.el_part.specs.Part.{FitsPool, IsNodeOf, PartState, body_of, nodes_in, view_of}
use Rattle.el_part.specs.declared.el_axiom.ElAxiom.{ElAxiom}
use Rattle.el_part.specs.declared.el_axiom.ElAxiom.TheVariants as el
use Rattle.el_part.specs.inner.Made.{Stand, named_trees}
use Rattle.el_part.specs.inner.Reached.{AreOccurring, StartWithNames}

stand_member : (ts : List ClassExpr) (ns : List Node) (es : List ClassExpr) (n : Node) → stand ts ns ≡ map Some es → In n ns → (t : ClassExpr) × IsNodeOf ts n t × In t es
stand_member ts [] es n s i = in_none i
stand_member ts (m ∷ ns) [] n s i = absurd cc
stand_member ts (m ∷ ns) (e ∷ es) n s i = elim (in_cons i) [
  | inl is ↦ (e, subst (λ k. IsNodeOf ts k e) (sym is) (head_is s), here)
  | inr j ↦ let r = stand_member ts ns es n (tail_is s) j in (r.0, r.1, there r.2)
]

member_stand : (ts : List ClassExpr) (ns : List Node) (es : List ClassExpr) (t : ClassExpr) → stand ts ns ≡ map Some es → In t es → (n : Node) × In n ns × IsNodeOf ts n t
member_stand ts [] [] t s i = in_none i
member_stand ts [] (e ∷ es) t s i = absurd cc
member_stand ts (m ∷ ns) [] t s i = in_none i
member_stand ts (m ∷ ns) (e ∷ es) t s i = elim (in_cons i) [
  | inl is ↦ (m, here, head_is s ∙ ap Some (sym is))
  | inr j ↦ let r = member_stand ts ns es t (tail_is s) j in (r.0, there r.1, r.2)
]

start_of : (ts : List ClassExpr) (ns more : List Node) (rest : List (Option ClassExpr)) → stand ts ns ≡ Some expr.Thing ∷ Some expr.Nothing ∷ rest → StartWithNames ts (ns ++ more)
start_of ts [] more rest s = absurd cc
start_of ts (x ∷ []) more rest s = absurd cc
start_of ts (x ∷ y ∷ ns) more rest s = record { first = (x, refl, head_is s); second = (y, refl, head_is (tail_is s)) }

exprs_of_body : (ts : List ClassExpr) (a : ElAxiom) → exprs_in (body_of ts a) ≡ map (tree_at ts) (nodes_in a)
unfolding exprs_in body_of nodes_in
exprs_of_body ts (el.Sub c d) = refl
exprs_of_body ts (el.Disjoint c d) = refl
exprs_of_body ts (el.Domain r c) = refl
exprs_of_body ts (el.SubRole r s) = refl
exprs_of_body ts (el.Chain r s t) = refl

module _ (axioms : List Axiom) (early ts : List ClassExpr) (grew : Grew early ts) (named : List Node) (are_named : stand early named ≡ map Some (named_trees axioms)) (made : List ElAxiom) (stands : Stand ts made (el_axioms axioms)) where
  abbrev roots : List Node
  roots = named ++ flat_map nodes_in made

  named_now : stand ts named ≡ map Some (named_trees axioms)
  named_now = stand_more early ts named (named_trees axioms) grew are_named

  pub start : StartWithNames ts roots
  start = start_of ts named (flat_map nodes_in made) _ named_now

  root_within : (n : Node) → In n roots → n.place < length ts
  root_within n i = elim (in_parts named i) [
    | inl j ↦ let r = stand_member ts named (named_trees axioms) n named_now j in slice_get_within ts n.place r.0 r.1
    | inr j ↦ let f = from_flat_map nodes_in made j in stands.1 f.it f.inside n f.out
  ]

  pub before : AreBefore (length ts) roots
  before = before_all (length ts) roots root_within

  root_occurs : (n : Node) → In n roots → Occurs axioms (tree_at ts n)
  root_occurs n i = elim (in_parts named i) [
    | inl j ↦
        let r = stand_member ts named (named_trees axioms) n named_now j in
        subst (Occurs axioms) (sym (get_or_from_slice_get ts n.place r.0 expr.Thing r.1)) (named_occurs axioms r.0 r.2)
    | inr j ↦
        let f = from_flat_map nodes_in made j in
        standing (subst (In (body_of ts f.it)) stands.0 (in_map (body_of ts) f.inside)) (subst (In (tree_at ts n)) (sym (exprs_of_body ts f.it)) (in_map (tree_at ts) f.out))
  ]

  named_root : (t : ClassExpr) → In t (named_trees axioms) → (n : Node) × In n roots × IsNodeOf ts n t
  named_root t i = let r = member_stand ts named (named_trees axioms) t named_now i in (r.0, in_left (flat_map nodes_in made) r.1, r.2)

  node_root : (a : ElAxiom) → In a made → (n : Node) → In n (nodes_in a) → In n roots
  node_root a i n j = in_right named (in_flat_map nodes_in i j)

  standing_root : (b : Body) (c : ClassExpr) → In b (el_axioms axioms) → In c (exprs_in b) → (n : Node) × In n roots × IsNodeOf ts n c
  standing_root b c i j =
      let a = from_map (body_of ts) made (subst (In b) (sym stands.0) i) in
      let n = from_map (tree_at ts) (nodes_in a.it) (subst (In c) (ap exprs_in a.is ∙ exprs_of_body ts a.it) j) in
      (n.it, node_root a.it a.inside n.it n.inside, slice_get-get_or ts n.it.place expr.Thing (stands.1 a.it a.inside n.it n.inside) ∙ ap Some (sym n.is))

  module _ (nodes : List Node) (occurring : AreOccurring ts roots nodes) where
    root_in : (n : Node) (t : ClassExpr) → In n roots → IsNodeOf ts n t → In n nodes
    root_in n t i at = occurring.complete n (n, i, t, at, subst (λ u. Inside u t) (sym (get_or_from_slice_get ts n.place t expr.Thing at)) itself)

    rooted : (t : ClassExpr) → (n : Node) × In n roots × IsNodeOf ts n t → (n : Node) × In n nodes × IsNodeOf ts n t
    rooted t r = (r.0, root_in r.0 t r.1 r.2, r.2)

    node_of : {t : ClassExpr} → Occurs axioms t → (n : Node) × In n nodes × IsNodeOf ts n t
    node_of thing = rooted expr.Thing (named_root expr.Thing here)
    node_of nothing = rooted expr.Nothing (named_root expr.Nothing (there here))
    node_of (declared {a} d n m) = rooted (expr.Class a) (named_root (expr.Class a) (declared_named axioms a d n m))
    node_of (standing {b} {c} i j) = rooted c (standing_root b c i j)
    node_of (part {c} {p} o i) =
        let up = node_of o in
        let is : tree_at ts up.0 ≡ c = get_or_from_slice_get ts up.0.place c expr.Thing up.2 in
        occurring.parts up.0 up.1 p (subst (λ t. In p (parts_of t)) (sym is) i)

    node_occurs : (n : Node) → In n nodes → Occurs axioms (tree_at ts n)
    node_occurs n i =
        let r = occurring.sound n i in
        subst (Occurs axioms) (sym (get_or_from_slice_get ts n.place r.2 expr.Thing r.3)) (inside_occurs axioms (root_occurs r.0 r.1) r.4)

    expr_node : (c : ClassExpr) → Occurs axioms c → In c (map (tree_at ts) nodes)
    expr_node c o =
        let n = node_of o in
        subst (λ t. In t (map (tree_at ts) nodes)) (get_or_from_slice_get ts n.0.place c expr.Thing n.2) (in_map (tree_at ts) n.1)

    node_expr : (c : ClassExpr) → In c (map (tree_at ts) nodes) → Occurs axioms c
    node_expr c i = let f = from_map (tree_at ts) nodes i in subst (Occurs axioms) (sym f.is) (node_occurs f.it f.inside)

    pub is_part : (state : PartState) → state.axioms ≡ made → state.occurring ≡ nodes → IsElPartOf axioms (view_of ts state)
    is_part state e f = record {
      axioms_are = ap (map (body_of ts)) e ∙ stands.0;
      occurring_are = λ c. (
        λ i. node_expr c (subst (λ ns. In c (map (tree_at ts) ns)) f i),
        λ o. subst (λ ns. In c (map (tree_at ts) ns)) (sym f) (expr_node c o),
      );
    }

    fits_pool : (state : PartState) → state.axioms ≡ made → nodes ≡ state.occurring → FitsPool ts (record state { occurring = nodes })
    fits_pool state e f = record {
      once = occurring.once;
      within = λ n i. all_in (length ts) nodes n occurring.before i;
      first = occurring.start.first;
      second = occurring.start.second;
      el = λ n i. occurs_el axioms (node_occurs n i);
      parts = occurring.parts;
      axioms = λ a i n j.
          let k = subst (In a) e i in
          root_in n (tree_at ts n) (node_root a k n j) (slice_get-get_or ts n.place expr.Thing (stands.1 a k n j));
    }

    pub fits : (state : PartState) → state.axioms ≡ made → nodes ≡ state.occurring → FitsPool ts state
    fits state e f = subst (λ ns. FitsPool ts (record state { occurring = ns })) f (fits_pool state e f)
