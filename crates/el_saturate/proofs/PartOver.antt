-- The part over numbers is the part with numbers for its expressions and roles.
use Rattle.std.proofs.Common.{◌≡◌, ℕ, zero, suc, ◌<◌, ◌^◌, true, Option, None, List, [], ◌∷◌, Some, inl, inr, length, map, slice_get, refl, sym, ap, subst, ◌∙◌, arith, true≢false}
use Rattle.std.specs.List.{flat_map}
use Rattle.std.proofs.lemmas.Option.{get_or_from_slice_get, slice_get-get_or, slice_get_within}
use Rattle.fact_rows.specs.Member.{In, NoRepeats, here, there}
use Rattle.fact_rows.specs.Rows.{row}
use Rattle.fact_rows.proofs.Members.{from_flat_map, from_map, in_flat_map, in_left, in_map, in_none, in_one, in_parts, in_right}
use Rattle.fact_rows.proofs.Places.{in_from_get, place_of}
use Rattle.owl_axioms.specs.declared.body.Body.{Body}
use Rattle.owl_axioms.specs.declared.body.Body.TheVariants as body
use Rattle.owl_axioms.specs.declared.expr.ClassExpr.{ClassExpr}
use Rattle.owl_axioms.specs.declared.expr.ClassExpr.TheVariants as expr
use Rattle.expr_pool.proofs.Lists.{get_map, map_get}
use Rattle.expr_pool.proofs.PartLemmas.{parts_of_cell}
use Rattle.expr_pool.specs.Part.{parts_of}
use Rattle.expr_pool.specs.Pool.{AreDifferent, nodes_of, tree_at, tree_of}
use Rattle.expr_pool.specs.declared.cell.Cell.{Cell}
use Rattle.expr_pool.specs.declared.cell.Cell.TheVariants as cell
use Rattle.expr_pool.specs.declared.cell.Node.{Node}
use Rattle.el_numbers.specs.Proper.{IsProper}
use Rattle.el_numbers.specs.declared.part.NumberedPart.{NumberedPart}
use Rattle.el_numbers.specs.declared.part.Shape.{Shape}
use Rattle.el_numbers.specs.declared.part.Shape.TheVariants as shape
use Rattle.el_rules.specs.ElPart.{is_el}
use Rattle.el_rules.specs.Numbering.{IsNumbered, IsOneToOne, Numbering, axioms_at, chain_at, disjoint_at, domain_at, expr_at, role_at, sub_at, sub_role_at}
use Rattle.el_part.proofs.ClassLemmas.{same_node}
use Rattle.el_part.proofs.Layers.{el_of_and}
use Rattle.el_part.specs.Part.{FitsPool, IsNodeOf, PartState, body_of, nodes_in, view_of}
use Rattle.el_part.specs.declared.el_axiom.ElAxiom.{ElAxiom}
use Rattle.el_part.specs.declared.el_axiom.ElAxiom.TheVariants as el
use Rattle.el_saturate.proofs.CellLemmas.{and_cell, and_shape, nodes_and, nodes_some, operands_and, operands_cell, shape_and, shape_some, some_cell, some_shape, tree_and, tree_some}
use Rattle.el_saturate.proofs.RoleLemmas.{one_place, role_placed}
use Rattle.el_saturate.proofs.StepLemmas.{long_map}
use Rattle.el_saturate.specs.inner.Numbers.{AreNumbers, HasRestrictions, HasRoles, IsPartOver, chain_in, disjoint_in, domain_in, inclusion_in, number_of, operands_in, role_of, roles_in, shape_in, sub_role_in}

module _ (trees : List ClassExpr) (different : AreDifferent trees) (part : PartState) (fits : FitsPool trees part) (small : length part.occurring < 2 ^ 32) (numbers : List ℕ) (are : AreNumbers part.occurring (length trees) numbers) (roles : List (List ℕ)) (roles_once : NoRepeats roles) (axiom_roles : HasRoles roles (flat_map roles_in part.axioms)) (restrictions : HasRestrictions (map (tree_at trees) part.occurring) roles) (made : NumberedPart) (over : IsPartOver trees part numbers roles made) where
  abbrev n : Numbering
  n = record { exprs = map (tree_at trees) part.occurring; roles = roles }

  abbrev exprs : List ClassExpr
  exprs = map (tree_at trees) part.occurring

  -- ---- numbers of nodes and roles

  expr_of : (m : Node) → In m part.occurring → slice_get exprs (number_of numbers m) ≡ Some (tree_at trees m)
  expr_of m i =
      let p = place_of i in
      let number : number_of numbers m ≡ p.at = get_or_from_slice_get numbers m.place p.at 0 (are.number p.at m p.is) in
      subst (λ k. slice_get exprs k ≡ Some (tree_at trees m)) (sym number) (map_get (tree_at trees) part.occurring p.at m p.is)

  reads : (m : Node) → In m part.occurring → expr_at n (number_of numbers m) ≡ tree_at trees m
  reads m i = get_or_from_slice_get exprs (number_of numbers m) (tree_at trees m) expr.Thing (expr_of m i)

  reads_role : (r : List ℕ) → In r roles → role_at n (role_of roles r) ≡ r
  reads_role r i = get_or_from_slice_get roles (role_of roles r) r [] (role_placed roles r i)

  role_within : (r : List ℕ) → In r roles → role_of roles r < length roles
  role_within r i = slice_get_within roles (role_of roles r) r (role_placed roles r i)

  node_here : (m : Node) → m.place < length trees → IsNodeOf trees m (tree_at trees m)
  node_here m l = slice_get-get_or trees m.place expr.Thing l

  -- a node whose tree is that of a node that occurs
  occurs_too : (x : Node) (t : ClassExpr) → x.place < length trees → tree_at trees x ≡ t → (y : Node) × In y part.occurring × IsNodeOf trees y t → In x part.occurring
  occurs_too x t l e y = subst (λ m. In m part.occurring) (same_node y.0 x (different y.0.place x.place t y.2 (node_here x l ∙ ap Some e))) y.1

  -- ---- cells

  abbrev cells : List Cell
  cells = over.expressions.cells

  cell_tree : (k : ℕ) (c : Cell) → slice_get cells k ≡ Some c → slice_get exprs k ≡ Some (tree_of trees c)
  cell_tree k c h = ap (λ l. slice_get l k) (sym over.expressions.are) ∙ map_get (tree_of trees) cells k c h

  cell_shape : (k : ℕ) (c : Cell) → slice_get cells k ≡ Some c → slice_get made.shapes.items k ≡ Some (shape_in numbers roles c)
  cell_shape k c h = ap (λ l. slice_get l k) over.expressions.shaped ∙ map_get (shape_in numbers roles) cells k c h

  cell_row : (k : ℕ) (c : Cell) → slice_get cells k ≡ Some c → row made.operands.items k ≡ operands_in numbers c
  cell_row k c h = get_or_from_slice_get made.operands.items k (operands_in numbers c) [] (ap (λ l. slice_get l k) over.expressions.operated ∙ map_get (operands_in numbers) cells k c h)

  -- the cell of an expression, and of a shape
  cell_of_expr : (k : ℕ) (t : ClassExpr) → slice_get exprs k ≡ Some t → (c : Cell) × (slice_get cells k ≡ Some c) × (tree_of trees c ≡ t)
  cell_of_expr k t h = get_map (tree_of trees) cells k t (ap (λ l. slice_get l k) over.expressions.are ∙ h)

  cell_of_shape : (k : ℕ) (s : Shape) → slice_get made.shapes.items k ≡ Some s → (c : Cell) × (slice_get cells k ≡ Some c) × (shape_in numbers roles c ≡ s)
  cell_of_shape k s h = get_map (shape_in numbers roles) cells k s (ap (λ l. slice_get l k) (sym over.expressions.shaped) ∙ h)

  -- the nodes in a cell occur
  part_occurs : (k : ℕ) (c : Cell) → slice_get cells k ≡ Some c → (x : Node) → In x (nodes_of c) → In x part.occurring
  part_occurs k c h x i =
      let m = get_map (tree_at trees) part.occurring k (tree_of trees c) (cell_tree k c h) in
      let occ = in_from_get part.occurring k m.0 m.1 in
      let p : In (tree_at trees x) (parts_of (tree_at trees m.0)) = subst (In (tree_at trees x)) (sym (ap parts_of m.2 ∙ parts_of_cell trees c)) (in_map (tree_at trees) i) in
      occurs_too x (tree_at trees x) (over.expressions.within c (in_from_get cells k c h) x i) refl (fits.parts m.0 occ (tree_at trees x) p)

  -- ---- shapes

  operands_read : (k : ℕ) (ns : List Node) → slice_get cells k ≡ Some (cell.And ns) → map (expr_at n) (row made.operands.items k) ≡ map (tree_at trees) ns
  operands_read k ns h = ap (map (expr_at n)) (cell_row k (cell.And ns) h ∙ operands_and numbers ns) ∙ all_read ns (λ x i. part_occurs k (cell.And ns) h x (subst (In x) (sym (nodes_and ns)) i))
    where
      all_read : (ns : List Node) → ((x : Node) → In x ns → In x part.occurring) → map (expr_at n) (map (number_of numbers) ns) ≡ map (tree_at trees) ns
      all_read [] h = refl
      all_read (x ∷ ns) h =
          let first = reads x (h x here) in
          let rest = all_read ns (λ y i. h y (there i)) in λ i. first i ∷ rest i

  and_fits : (k : ℕ) (es : List ClassExpr) → slice_get exprs k ≡ Some (expr.And es) → (slice_get made.shapes.items k ≡ Some shape.And) × (map (expr_at n) (row made.operands.items k) ≡ es)
  and_fits k es h =
      let c = cell_of_expr k (expr.And es) h in
      let a = and_cell trees c.0 es c.2 in
      let at : slice_get cells k ≡ Some (cell.And a.0) = c.1 ∙ ap Some a.1 in
      (cell_shape k (cell.And a.0) at ∙ ap Some (shape_and numbers roles a.0), operands_read k a.0 at ∙ a.2)

  is_and : (k : ℕ) → slice_get made.shapes.items k ≡ Some shape.And → (es : List ClassExpr) × (slice_get exprs k ≡ Some (expr.And es))
  is_and k h =
      let c = cell_of_shape k shape.And h in
      let a = and_shape numbers roles c.0 c.2 in
      (map (tree_at trees) a.0, cell_tree k c.0 c.1 ∙ ap (λ d. Some (tree_of trees d)) a.1 ∙ ap Some (tree_and trees a.0))

  some_fits : (k : ℕ) (r : List ℕ) (e : ClassExpr) → slice_get exprs k ≡ Some (expr.Some r e) → (x y : ℕ) × (slice_get made.shapes.items k ≡ Some (shape.Some x y)) × (slice_get roles x ≡ Some r) × (slice_get exprs y ≡ Some e)
  some_fits k r e h =
      let c = cell_of_expr k (expr.Some r e) h in
      let s = some_cell trees c.0 r e c.2 in
      let at : slice_get cells k ≡ Some (cell.Some r s.0) = c.1 ∙ ap Some s.1 in
      let occ = part_occurs k (cell.Some r s.0) at s.0 (subst (In s.0) (sym (nodes_some r s.0)) here) in (
        role_of roles r,
        number_of numbers s.0,
        cell_shape k (cell.Some r s.0) at ∙ ap Some (shape_some numbers roles r s.0),
        role_placed roles r (restrictions r e (in_from_get exprs k (expr.Some r e) h)),
        expr_of s.0 occ ∙ ap Some s.2,
      )

  is_some : (k x y : ℕ) → slice_get made.shapes.items k ≡ Some (shape.Some x y) → (x < length roles) × (slice_get exprs k ≡ Some (expr.Some (role_at n x) (expr_at n y))) × (y < length exprs)
  is_some k x y h =
      let c = cell_of_shape k (shape.Some x y) h in
      let s = some_shape numbers roles c.0 x y c.2 in
      let at : slice_get cells k ≡ Some (cell.Some s.0 s.1) = c.1 ∙ ap Some s.2 in
      let tree : slice_get exprs k ≡ Some (expr.Some s.0 (tree_at trees s.1)) = cell_tree k (cell.Some s.0 s.1) at ∙ ap Some (tree_some trees s.0 s.1) in
      let known = restrictions s.0 (tree_at trees s.1) (in_from_get exprs k (expr.Some s.0 (tree_at trees s.1)) tree) in
      let occ = part_occurs k (cell.Some s.0 s.1) at s.1 (subst (In s.1) (sym (nodes_some s.0 s.1)) here) in
      let role : role_at n x ≡ s.0 = ap (role_at n) s.3 ∙ reads_role s.0 known in
      let filler : expr_at n y ≡ tree_at trees s.1 = ap (expr_at n) s.4 ∙ reads s.1 occ in (
        subst (λ z. z < length roles) (sym s.3) (role_within s.0 known),
        tree ∙ (λ i. Some (expr.Some (sym role i) (sym filler i))),
        subst (λ z. z < length exprs) (sym s.4) (slice_get_within exprs (number_of numbers s.1) (tree_at trees s.1) (expr_of s.1 occ)),
      )

  -- ---- axioms

  node_in : (a : ElAxiom) → In a part.axioms → (m : Node) → In m (nodes_in a) → In m part.occurring
  node_in a i m j = fits.axioms a i m j

  role_known : (a : ElAxiom) → In a part.axioms → (r : List ℕ) → In r (roles_in a) → In r roles
  role_known a i r j = axiom_roles r (in_flat_map roles_in i j)

  sub_same : (c d : Node) → In (el.Sub c d) part.axioms → sub_at n (number_of numbers c, number_of numbers d) ≡ body_of trees (el.Sub c d)
  unfolding body_of nodes_in
  sub_same c d i = let x = reads c (node_in (el.Sub c d) i c here) in let y = reads d (node_in (el.Sub c d) i d (there here)) in λ k. body.Sub (x k) (y k)

  disjoint_same : (c d : Node) → In (el.Disjoint c d) part.axioms → disjoint_at n (number_of numbers c, number_of numbers d) ≡ body_of trees (el.Disjoint c d)
  unfolding body_of nodes_in
  disjoint_same c d i = let x = reads c (node_in (el.Disjoint c d) i c here) in let y = reads d (node_in (el.Disjoint c d) i d (there here)) in λ k. body.Disjoint (x k) (y k)

  sub_role_same : (r s : List ℕ) → In (el.SubRole r s) part.axioms → sub_role_at n (role_of roles r, role_of roles s) ≡ body_of trees (el.SubRole r s)
  unfolding body_of roles_in
  sub_role_same r s i = let x = reads_role r (role_known (el.SubRole r s) i r here) in let y = reads_role s (role_known (el.SubRole r s) i s (there here)) in λ k. body.SubRole (x k) (y k)

  chain_same : (r s t : List ℕ) → In (el.Chain r s t) part.axioms → chain_at n (role_of roles r, role_of roles s, role_of roles t) ≡ body_of trees (el.Chain r s t)
  unfolding body_of roles_in
  chain_same r s t i =
      let x = reads_role r (role_known (el.Chain r s t) i r here) in
      let y = reads_role s (role_known (el.Chain r s t) i s (there here)) in
      let z = reads_role t (role_known (el.Chain r s t) i t (there (there here))) in λ k. body.Chain (x k) (y k) (z k)

  domain_same : (r : List ℕ) (c : Node) → In (el.Domain r c) part.axioms → domain_at n (role_of roles r, number_of numbers c) ≡ body_of trees (el.Domain r c)
  unfolding body_of nodes_in roles_in
  domain_same r c i = let x = reads_role r (role_known (el.Domain r c) i r here) in let y = reads c (node_in (el.Domain r c) i c here) in λ k. body.Domain (x k) (y k)

  abbrev subs : List Body
  subs = map (sub_at n) made.inclusions.items

  abbrev disjoints : List Body
  disjoints = map (disjoint_at n) made.disjoints.items

  abbrev sub_roles : List Body
  sub_roles = map (sub_role_at n) made.role_inclusions.items

  abbrev chains : List Body
  chains = map (chain_at n) made.chains.items

  there_is : (a : ElAxiom) → In a part.axioms → In (body_of trees a) (axioms_at n made)
  unfolding inclusion_in disjoint_in sub_role_in chain_in domain_in
  there_is (el.Sub c d) i = subst (λ b. In b (axioms_at n made)) (sub_same c d i) (in_left _ (in_map (sub_at n) (subst (In _) (sym over.inclusions) (in_flat_map (inclusion_in numbers) i here))))
  there_is (el.Disjoint c d) i = subst (λ b. In b (axioms_at n made)) (disjoint_same c d i) (in_right subs (in_left _ (in_map (disjoint_at n) (subst (In _) (sym over.disjoints) (in_flat_map (disjoint_in numbers) i here)))))
  there_is (el.SubRole r s) i =
      subst (λ b. In b (axioms_at n made)) (sub_role_same r s i) (in_right subs (in_right disjoints (in_left _ (in_map (sub_role_at n) (subst (In _) (sym over.sub_roles) (in_flat_map (sub_role_in roles) i here))))))
  there_is (el.Chain r s t) i =
      subst (λ b. In b (axioms_at n made)) (chain_same r s t i) (in_right subs (in_right disjoints (in_right sub_roles (in_left _ (in_map (chain_at n) (subst (In _) (sym over.chains) (in_flat_map (chain_in roles) i here)))))))
  there_is (el.Domain r c) i =
      subst (λ b. In b (axioms_at n made)) (domain_same r c i)
      (in_right subs (in_right disjoints (in_right sub_roles (in_right chains (in_map (domain_at n) (subst (In _) (sym over.domains) (in_flat_map (domain_in numbers roles) i here)))))))

  -- what each pair or triple comes from
  sub_from : (p : ℕ × ℕ) (a : ElAxiom) → In p (inclusion_in numbers a) → (c d : Node) × (a ≡ el.Sub c d) × (p ≡ (number_of numbers c, number_of numbers d))
  unfolding inclusion_in
  sub_from p (el.Sub c d) i = (c, d, refl, in_one i)
  sub_from p (el.Disjoint c d) i = in_none i
  sub_from p (el.SubRole r s) i = in_none i
  sub_from p (el.Chain r s t) i = in_none i
  sub_from p (el.Domain r c) i = in_none i

  disjoint_from : (p : ℕ × ℕ) (a : ElAxiom) → In p (disjoint_in numbers a) → (c d : Node) × (a ≡ el.Disjoint c d) × (p ≡ (number_of numbers c, number_of numbers d))
  unfolding disjoint_in
  disjoint_from p (el.Disjoint c d) i = (c, d, refl, in_one i)
  disjoint_from p (el.Sub c d) i = in_none i
  disjoint_from p (el.SubRole r s) i = in_none i
  disjoint_from p (el.Chain r s t) i = in_none i
  disjoint_from p (el.Domain r c) i = in_none i

  sub_role_from : (p : ℕ × ℕ) (a : ElAxiom) → In p (sub_role_in roles a) → (r s : List ℕ) × (a ≡ el.SubRole r s) × (p ≡ (role_of roles r, role_of roles s))
  unfolding sub_role_in
  sub_role_from p (el.SubRole r s) i = (r, s, refl, in_one i)
  sub_role_from p (el.Sub c d) i = in_none i
  sub_role_from p (el.Disjoint c d) i = in_none i
  sub_role_from p (el.Chain r s t) i = in_none i
  sub_role_from p (el.Domain r c) i = in_none i

  chain_from : (p : ℕ × ℕ × ℕ) (a : ElAxiom) → In p (chain_in roles a) → (r s t : List ℕ) × (a ≡ el.Chain r s t) × (p ≡ (role_of roles r, role_of roles s, role_of roles t))
  unfolding chain_in
  chain_from p (el.Chain r s t) i = (r, s, t, refl, in_one i)
  chain_from p (el.Sub c d) i = in_none i
  chain_from p (el.Disjoint c d) i = in_none i
  chain_from p (el.SubRole r s) i = in_none i
  chain_from p (el.Domain r c) i = in_none i

  domain_from : (p : ℕ × ℕ) (a : ElAxiom) → In p (domain_in numbers roles a) → (r : List ℕ) × (c : Node) × (a ≡ el.Domain r c) × (p ≡ (role_of roles r, number_of numbers c))
  unfolding domain_in
  domain_from p (el.Domain r c) i = (r, c, refl, in_one i)
  domain_from p (el.Sub c d) i = in_none i
  domain_from p (el.Disjoint c d) i = in_none i
  domain_from p (el.SubRole r s) i = in_none i
  domain_from p (el.Chain r s t) i = in_none i

  sub_pair : (p : ℕ × ℕ) → In p made.inclusions.items → (c d : Node) × In (el.Sub c d) part.axioms × (p ≡ (number_of numbers c, number_of numbers d))
  sub_pair p i =
      let f = from_flat_map (inclusion_in numbers) part.axioms (subst (In p) over.inclusions i) in
      let s = sub_from p f.it f.out in (s.0, s.1, subst (λ a. In a part.axioms) s.2 f.inside, s.3)

  disjoint_pair : (p : ℕ × ℕ) → In p made.disjoints.items → (c d : Node) × In (el.Disjoint c d) part.axioms × (p ≡ (number_of numbers c, number_of numbers d))
  disjoint_pair p i =
      let f = from_flat_map (disjoint_in numbers) part.axioms (subst (In p) over.disjoints i) in
      let s = disjoint_from p f.it f.out in (s.0, s.1, subst (λ a. In a part.axioms) s.2 f.inside, s.3)

  sub_role_pair : (p : ℕ × ℕ) → In p made.role_inclusions.items → (r s : List ℕ) × In (el.SubRole r s) part.axioms × (p ≡ (role_of roles r, role_of roles s))
  sub_role_pair p i =
      let f = from_flat_map (sub_role_in roles) part.axioms (subst (In p) over.sub_roles i) in
      let s = sub_role_from p f.it f.out in (s.0, s.1, subst (λ a. In a part.axioms) s.2 f.inside, s.3)

  chain_triple : (p : ℕ × ℕ × ℕ) → In p made.chains.items → (r s t : List ℕ) × In (el.Chain r s t) part.axioms × (p ≡ (role_of roles r, role_of roles s, role_of roles t))
  chain_triple p i =
      let f = from_flat_map (chain_in roles) part.axioms (subst (In p) over.chains i) in
      let s = chain_from p f.it f.out in (s.0, s.1, s.2, subst (λ a. In a part.axioms) s.3 f.inside, s.4)

  domain_pair : (p : ℕ × ℕ) → In p made.domains.items → (r : List ℕ) × (c : Node) × In (el.Domain r c) part.axioms × (p ≡ (role_of roles r, number_of numbers c))
  domain_pair p i =
      let f = from_flat_map (domain_in numbers roles) part.axioms (subst (In p) over.domains i) in
      let s = domain_from p f.it f.out in (s.0, s.1, subst (λ a. In a part.axioms) s.2 f.inside, s.3)

  abbrev Says : Body → Type 0
  Says b = In b (map (body_of trees) part.axioms)

  says : (a : ElAxiom) → In a part.axioms → (b : Body) → b ≡ body_of trees a → Says b
  says a i b e = subst Says (sym e) (in_map (body_of trees) i)

  only_these : (b : Body) → In b (axioms_at n made) → Says b
  only_these b i = elim (in_parts subs i) [
    | inl j ↦
        let f = from_map (sub_at n) made.inclusions.items j in
        let p = sub_pair f.it f.inside in says (el.Sub p.0 p.1) p.2 b (f.is ∙ ap (sub_at n) p.3 ∙ sub_same p.0 p.1 p.2)
    | inr j ↦ elim (in_parts disjoints j) [
      | inl k ↦
          let f = from_map (disjoint_at n) made.disjoints.items k in
          let p = disjoint_pair f.it f.inside in says (el.Disjoint p.0 p.1) p.2 b (f.is ∙ ap (disjoint_at n) p.3 ∙ disjoint_same p.0 p.1 p.2)
      | inr k ↦ elim (in_parts sub_roles k) [
        | inl l ↦
            let f = from_map (sub_role_at n) made.role_inclusions.items l in
            let p = sub_role_pair f.it f.inside in says (el.SubRole p.0 p.1) p.2 b (f.is ∙ ap (sub_role_at n) p.3 ∙ sub_role_same p.0 p.1 p.2)
        | inr l ↦ elim (in_parts chains l) [
          | inl m ↦
              let f = from_map (chain_at n) made.chains.items m in
              let p = chain_triple f.it f.inside in says (el.Chain p.0 p.1 p.2) p.3 b (f.is ∙ ap (chain_at n) p.4 ∙ chain_same p.0 p.1 p.2 p.3)
          | inr m ↦
              let f = from_map (domain_at n) made.domains.items m in
              let p = domain_pair f.it f.inside in says (el.Domain p.0 p.1) p.2 b (f.is ∙ ap (domain_at n) p.3 ∙ domain_same p.0 p.1 p.2)
        ]
      ]
    ]
  ]

  these : (b : Body) → Says b → In b (axioms_at n made)
  these b i = let f = from_map (body_of trees) part.axioms i in subst (λ x. In x (axioms_at n made)) (sym f.is) (there_is f.it f.inside)

  -- ---- ranges

  long_shapes : length made.shapes.items ≡ length exprs
  long_shapes = ap length over.expressions.shaped ∙ long_of (shape_in numbers roles) cells ∙ sym (long_of (tree_of trees) cells) ∙ ap length over.expressions.are
    where
      long_of : {X Y : Type 0} (f : X → Y) (xs : List X) → length (map f xs) ≡ length xs
      long_of f [] = refl
      long_of f (x ∷ xs) = ap suc (long_of f xs)

  number_within : (m : Node) → In m part.occurring → number_of numbers m < length made.shapes.items
  number_within m i =
      let l = slice_get_within exprs (number_of numbers m) (tree_at trees m) (expr_of m i) in
      let e = long_shapes in omega (arith, l, e)

  role_count_is : (r : List ℕ) → In r roles → role_of roles r < made.role_count
  role_count_is r i = let l = role_within r i in let e = over.role_count in omega (arith, l, e)

  no_operand : (ns : List Node) → map (number_of numbers) ns ≡ [] → ns ≡ []
  no_operand [] h = refl
  no_operand (x ∷ ns) h = absurd cc

  has_operand : (k : ℕ) → slice_get made.shapes.items k ≡ Some shape.And → row made.operands.items k ≡ [] → ⊥
  has_operand k h none =
      let c = cell_of_shape k shape.And h in
      let a = and_shape numbers roles c.0 c.2 in
      let at : slice_get cells k ≡ Some (cell.And a.0) = c.1 ∙ ap Some a.1 in
      let empty : a.0 ≡ [] = no_operand a.0 (sym (operands_and numbers a.0) ∙ sym (cell_row k (cell.And a.0) at) ∙ none) in
      let m = get_map (tree_at trees) part.occurring k (tree_of trees (cell.And a.0)) (cell_tree k (cell.And a.0) at) in
      let el_here : is_el (tree_at trees m.0) ≡ true = fits.el m.0 (in_from_get part.occurring k m.0 m.1) in
      true≢false (sym el_here ∙ ap is_el (m.2 ∙ tree_and trees a.0 ∙ ap (λ ns. expr.And (map (tree_at trees) ns)) empty) ∙ el_of_and [])

  operand_cell : (k x : ℕ) → In x (row made.operands.items k) → (ns : List Node) × (slice_get cells k ≡ Some (cell.And ns)) × In x (map (number_of numbers) ns)
  operand_cell k x i = by (slice_get cells k) refl
    where
      in_row : (xs : List ℕ) → In x xs → (y : ℕ) × (ys : List ℕ) × (xs ≡ y ∷ ys)
      in_row [] j = in_none j
      in_row (y ∷ ys) j = (y, ys, refl)

      no_row : (cs : List Cell) (j : ℕ) → slice_get cs j ≡ None → row (map (operands_in numbers) cs) j ≡ []
      no_row [] j e = refl
      no_row (c ∷ cs) zero e = absurd cc
      no_row (c ∷ cs) (suc j) e = no_row cs j e

      past : (j : ℕ) → slice_get cells j ≡ None → row made.operands.items j ≡ []
      past j e = subst (λ os. row os j ≡ []) (sym over.expressions.operated) (no_row cells j e)

      by : (o : Option Cell) → slice_get cells k ≡ o → (ns : List Node) × (slice_get cells k ≡ Some (cell.And ns)) × In x (map (number_of numbers) ns)
      by None e = in_none (subst (In x) (past k e) i)
      by (Some c) e =
          let j = subst (In x) (cell_row k c e) i in
          let f = in_row (operands_in numbers c) j in
          let a = operands_cell numbers c f.0 f.1 f.2 in
          (a.0, e ∙ ap Some a.1, subst (In x) (ap (operands_in numbers) a.1 ∙ operands_and numbers a.0) j)

  two_within : (p : ℕ × ℕ) (c d : Node) → p ≡ (number_of numbers c, number_of numbers d) → In c part.occurring × In d part.occurring → (p.0 < length made.shapes.items) × (p.1 < length made.shapes.items)
  two_within p c d e i = subst (λ q. (q.0 < length made.shapes.items) × (q.1 < length made.shapes.items)) (sym e) (number_within c i.0, number_within d i.1)

  role_pair_within : (p : ℕ × ℕ) (r s : List ℕ) → p ≡ (role_of roles r, role_of roles s) → In r roles × In s roles → (p.0 < made.role_count) × (p.1 < made.role_count)
  role_pair_within p r s e i = subst (λ q. (q.0 < made.role_count) × (q.1 < made.role_count)) (sym e) (role_count_is r i.0, role_count_is s i.1)

  triple_within : (p : ℕ × ℕ × ℕ) (r s t : List ℕ) → p ≡ (role_of roles r, role_of roles s, role_of roles t) → In r roles × In s roles × In t roles → (p.0 < made.role_count) × (p.1 < made.role_count) × (p.2 < made.role_count)
  triple_within p r s t e i = subst (λ q. (q.0 < made.role_count) × (q.1 < made.role_count) × (q.2 < made.role_count)) (sym e) (role_count_is r i.0, role_count_is s i.1, role_count_is t i.2)

  domain_within : (p : ℕ × ℕ) (r : List ℕ) (c : Node) → p ≡ (role_of roles r, number_of numbers c) → In r roles × In c part.occurring → (p.0 < made.role_count) × (p.1 < length made.shapes.items)
  domain_within p r c e i = subst (λ q. (q.0 < made.role_count) × (q.1 < length made.shapes.items)) (sym e) (role_count_is r i.0, number_within c i.1)

  sub_nodes : (c d : Node) → In (el.Sub c d) part.axioms → In c part.occurring × In d part.occurring
  unfolding nodes_in
  sub_nodes c d i = (node_in (el.Sub c d) i c here, node_in (el.Sub c d) i d (there here))

  disjoint_nodes : (c d : Node) → In (el.Disjoint c d) part.axioms → In c part.occurring × In d part.occurring
  unfolding nodes_in
  disjoint_nodes c d i = (node_in (el.Disjoint c d) i c here, node_in (el.Disjoint c d) i d (there here))

  sub_role_roles : (r s : List ℕ) → In (el.SubRole r s) part.axioms → In r roles × In s roles
  unfolding roles_in
  sub_role_roles r s i = (role_known (el.SubRole r s) i r here, role_known (el.SubRole r s) i s (there here))

  chain_roles : (r s t : List ℕ) → In (el.Chain r s t) part.axioms → In r roles × In s roles × In t roles
  unfolding roles_in
  chain_roles r s t i = (role_known (el.Chain r s t) i r here, role_known (el.Chain r s t) i s (there here), role_known (el.Chain r s t) i t (there (there here)))

  domain_parts : (r : List ℕ) (c : Node) → In (el.Domain r c) part.axioms → In r roles × In c part.occurring
  unfolding roles_in nodes_in
  domain_parts r c i = (role_known (el.Domain r c) i r here, node_in (el.Domain r c) i c here)

  pub proper : IsProper made
  proper = record {
    small = let e = long_shapes in let f = long_map trees part.occurring in omega (arith, small, e, f);
    nothing =
        let l = slice_get_within part.occurring 1 fits.second.0 fits.second.1 in
        let e = long_shapes in
        let f = long_map trees part.occurring in omega (arith, l, e, f);
    has_operand = has_operand;
    is_and = λ k x i. let a = operand_cell k x i in cell_shape k (cell.And a.0) a.1 ∙ ap Some (shape_and numbers roles a.0);
    operands = λ k x i.
        let a = operand_cell k x i in
        let m = from_map (number_of numbers) a.0 a.2 in
        subst (λ y. y < length made.shapes.items) (sym m.is) (number_within m.it (part_occurs k (cell.And a.0) a.1 m.it (subst (In m.it) (sym (nodes_and a.0)) m.inside)));
    fillers = λ s r d h. let l = (is_some s r d h).2 in let e = long_shapes in omega (arith, l, e);
    inclusions = λ d e i. let p = sub_pair (d, e) i in two_within (d, e) p.0 p.1 p.3 (sub_nodes p.0 p.1 p.2);
    disjoints = λ d e i. let p = disjoint_pair (d, e) i in two_within (d, e) p.0 p.1 p.3 (disjoint_nodes p.0 p.1 p.2);
    role_inclusions = λ r s i. let p = sub_role_pair (r, s) i in role_pair_within (r, s) p.0 p.1 p.3 (sub_role_roles p.0 p.1 p.2);
    chains = λ r s t i. let p = chain_triple (r, s, t) i in triple_within (r, s, t) p.0 p.1 p.2 p.4 (chain_roles p.0 p.1 p.2 p.3);
    domains = λ r e i. let p = domain_pair (r, e) i in domain_within (r, e) p.0 p.1 p.3 (domain_parts p.0 p.1 p.2);
  }

  -- ---- the whole

  exprs_once : IsOneToOne exprs
  exprs_once i j t g h =
      let a = get_map (tree_at trees) part.occurring i t g in
      let b = get_map (tree_at trees) part.occurring j t h in
      let at_a = node_here a.0 (fits.within a.0 (in_from_get part.occurring i a.0 a.1)) ∙ ap Some a.2 in
      let at_b = node_here b.0 (fits.within b.0 (in_from_get part.occurring j b.0 b.1)) ∙ ap Some b.2 in
      let same : a.0 ≡ b.0 = same_node a.0 b.0 (different a.0.place b.0.place t at_a at_b) in
      one_place fits.once i j b.0 (a.1 ∙ ap Some same) b.1

  name_at : (k : ℕ) (m : Node) (t : ClassExpr) → slice_get part.occurring k ≡ Some m → IsNodeOf trees m t → slice_get exprs k ≡ Some t
  name_at k m t h at = map_get (tree_at trees) part.occurring k m h ∙ ap Some (get_or_from_slice_get trees m.place t expr.Thing at)

  pub numbered : IsNumbered (view_of trees part) made n
  numbered = record {
    proper = proper;
    expressions = refl;
    shapes = long_shapes;
    roles = over.role_count;
    once = exprs_once;
    roles_once = λ i j r g h. one_place roles_once i j r g h;
    thing = name_at 0 fits.first.0 expr.Thing fits.first.1 fits.first.2;
    nothing = name_at 1 fits.second.0 expr.Nothing fits.second.1 fits.second.2;
    and = and_fits;
    is_and = is_and;
    some = some_fits;
    is_some = λ a r d h. let s = is_some a r d h in (s.0, s.1);
    axioms = λ b. (these b, only_these b);
  }
