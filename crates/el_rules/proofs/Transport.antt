-- Numbers and the expressions that they stand for: what is derived of the one is derived of the other.
use Rattle.std.proofs.Common.{◌≡◌, ℕ, ◌<◌, List, [], ◌∷◌, zero, suc, inl, inr, Some, length, map, slice_get, refl, sym, ap, subst, ◌∙◌, arith}
use Rattle.std.proofs.lemmas.Option.{get_or_from_slice_get, slice_get-get_or, slice_get_within}
use Rattle.fact_rows.specs.Member.{In, here, there}
use Rattle.fact_rows.specs.Rows.{row}
use Rattle.fact_rows.proofs.Members.{from_map, in_cons, in_left, in_map, in_none, in_one, in_parts, in_right}
use Rattle.owl_axioms.specs.declared.body.Body.{Body}
use Rattle.owl_axioms.specs.declared.body.Body.TheVariants as body
use Rattle.owl_axioms.specs.declared.expr.ClassExpr.{ClassExpr}
use Rattle.owl_axioms.specs.declared.expr.ClassExpr.TheVariants as expr
use Rattle.el_numbers.proofs.LoopLemmas.{upper_within, within}
use Rattle.el_numbers.specs.Rules as numbers
use Rattle.el_numbers.specs.declared.fact.Fact.{Fact}
use Rattle.el_numbers.specs.declared.fact.Fact.TheVariants.{Below, Link}
use Rattle.el_numbers.specs.declared.part.NumberedPart.{NumberedPart}
use Rattle.el_numbers.specs.declared.part.Shape.TheVariants as shape
use Rattle.el_rules.specs.Numbering.{DerivedHasNumbers, IsFact, IsNumbered, Numbering, NumbersDeriveTheSame, axioms_at, chain_at, disjoint_at, domain_at, expr_at, fact_at, role_at, sub_at, sub_role_at}
use Rattle.el_rules.specs.Rules.{Derived, ElFact, ElView, HasLink, IsBelow, Rule, by_chain, by_disjoint, by_domain, by_inclusion, by_role, from_link, in_thing, is_below, itself, step, to_and, to_link, to_nothing, to_operand}

-- ---- places in lists

pub in_place : {X : Type 0} {x : X} {xs : List X} → In x xs → (k : ℕ) × (slice_get xs k ≡ Some x)
in_place (here {xs}) = (0, refl)
in_place (there {y} {xs} i) = let r = in_place i in (suc r.0, r.1)

pub place_in : {X : Type 0} (xs : List X) (k : ℕ) (x : X) → slice_get xs k ≡ Some x → In x xs
place_in [] k x h = absurd cc
place_in (y ∷ xs) zero x h = subst (λ z. In x (z ∷ xs)) (sym (first_is h)) here
  where
    first_is : Some y ≡ Some x → y ≡ x
    first_is e = cc
place_in (y ∷ xs) (suc k) x h = there (place_in xs k x h)

-- ---- premises

module _ (Holds : ElFact → Type 0) where
  one : (a : ElFact) → Holds a → (p : ElFact) → In p (a ∷ []) → Holds p
  one a h p i = subst Holds (sym (in_one i)) h

  two : (a b : ElFact) → Holds a → Holds b → (p : ElFact) → In p (a ∷ b ∷ []) → Holds p
  two a b h k p i = elim (in_cons i) [
    | inl e ↦ subst Holds (sym e) h
    | inr j ↦ one b k p j
  ]

module _ (Holds : Fact → Type 0) where
  one_number : (a : Fact) → Holds a → (p : Fact) → In p (a ∷ []) → Holds p
  one_number a h p i = subst Holds (sym (in_one i)) h

  two_numbers : (a b : Fact) → Holds a → Holds b → (p : Fact) → In p (a ∷ b ∷ []) → Holds p
  two_numbers a b h k p i = elim (in_cons i) [
    | inl e ↦ subst Holds (sym e) h
    | inr j ↦ one_number b k p j
  ]

module _ (view : ElView) (part : NumberedPart) (n : Numbering) (is : IsNumbered view part n) where
  -- ---- numbers and what they stand for

  abbrev IsAt : ℕ → ClassExpr → Type 0
  IsAt k c = slice_get n.exprs k ≡ Some c

  abbrev IsRoleAt : ℕ → List ℕ → Type 0
  IsRoleAt k r = slice_get n.roles k ≡ Some r

  reads : (k : ℕ) (c : ClassExpr) → IsAt k c → expr_at n k ≡ c
  reads k c h = get_or_from_slice_get n.exprs k c expr.Thing h

  reads_role : (k : ℕ) (r : List ℕ) → IsRoleAt k r → role_at n k ≡ r
  reads_role k r h = get_or_from_slice_get n.roles k r [] h

  stands : (k : ℕ) → k < length n.exprs → IsAt k (expr_at n k)
  stands k l = slice_get-get_or n.exprs k expr.Thing l

  stands_role : (k : ℕ) → k < length n.roles → IsRoleAt k (role_at n k)
  stands_role k l = slice_get-get_or n.roles k [] l

  -- in the range of the shapes
  shape_stands : (k : ℕ) → k < length part.shapes.items → IsAt k (expr_at n k)
  shape_stands k l = let e = is.shapes in stands k (omega (arith, l, e))

  at_shape : (k : ℕ) (c : ClassExpr) → IsAt k c → k < length part.shapes.items
  at_shape k c h = let l = slice_get_within n.exprs k c h in let e = is.shapes in omega (arith, l, e)

  role_stands : (k : ℕ) → k < part.role_count → IsRoleAt k (role_at n k)
  role_stands k l = let e = is.roles in stands_role k (omega (arith, l, e))

  at_occurs : (k : ℕ) (c : ClassExpr) → IsAt k c → In c view.occurring
  at_occurs k c h = subst (In c) is.expressions (place_in n.exprs k c h)

  occurs_at : (c : ClassExpr) → In c view.occurring → (k : ℕ) × IsAt k c
  occurs_at c i = in_place (subst (In c) (sym is.expressions) i)

  thing_is : expr_at n 0 ≡ expr.Thing
  thing_is = reads 0 expr.Thing is.thing

  nothing_is : expr_at n 1 ≡ expr.Nothing
  nothing_is = reads 1 expr.Nothing is.nothing

  axiom_is : (b : Body) → In b (axioms_at n part) → In b view.axioms
  axiom_is b i = (is.axioms b).1 i

  -- the operands of an intersection
  operands_are : (a : ℕ) → slice_get part.shapes.items a ≡ Some shape.And → IsAt a (expr.And (map (expr_at n) (row part.operands.items a)))
  operands_are a s = let es = is.is_and a s in es.1 ∙ ap (λ l. Some (expr.And l)) (sym (is.and a es.0 es.1).1)

  -- ---- from numbers to expressions

  abbrev Over : Fact → Type 0
  Over g = Derived view (fact_at n g)

  abbrev IsLow : Fact → Type 0
  IsLow (Below c d) = c < length part.shapes.items
  IsLow (Link c r d) = c < length part.shapes.items

  low : {g : Fact} → numbers.Derived part g → IsLow g
  low {g = Below c d} h = within part is.proper h
  low {g = Link c r d} h = (within part is.proper h).0

  -- with another expression above
  above : (c d e : ClassExpr) → d ≡ e → Derived view (IsBelow c d) → Derived view (IsBelow c e)
  above c d e s h = subst (λ x. Derived view (IsBelow c x)) s h

  operand_over : (c a x : ℕ) → In x (row part.operands.items a) → Over (Below c a) → Over (Below c x)
  operand_over c a x k h =
      let rest = map (expr_at n) (row part.operands.items a) in
      let s = operands_are a (is.proper.is_and a x k) in
      step (to_operand rest (in_map (expr_at n) k)) (one (Derived view) (IsBelow (expr_at n c) (expr.And rest)) (above (expr_at n c) (expr_at n a) (expr.And rest) (reads a (expr.And rest) s) h))

  and_over : (c a : ℕ) → c < length part.shapes.items → slice_get part.shapes.items a ≡ Some shape.And → ((x : ℕ) → In x (row part.operands.items a) → Over (Below c x)) → Over (Below c a)
  and_over c a l s h =
      let rest = map (expr_at n) (row part.operands.items a) in
      let at = operands_are a s in
      above (expr_at n c) (expr.And rest) (expr_at n a) (sym (reads a (expr.And rest) at))
      (step (to_and rest (at_occurs c (expr_at n c) (shape_stands c l)) (at_occurs a (expr.And rest) at))
      (λ p j.
      let outer = from_map (is_below (expr_at n c)) rest j in
      let inner = from_map (expr_at n) (row part.operands.items a) outer.inside in
      subst (Derived view) (sym (outer.is ∙ ap (is_below (expr_at n c)) inner.is)) (h inner.it inner.inside)))

  link_over : (c s r d : ℕ) → slice_get part.shapes.items s ≡ Some (shape.Some r d) → Over (Below c s) → Over (Link c r d)
  link_over c s r d k h =
      let some = expr.Some (role_at n r) (expr_at n d) in
      step to_link (one (Derived view) (IsBelow (expr_at n c) some) (above (expr_at n c) (expr_at n s) some (reads s some (is.is_some s r d k).1) h))

  from_link_over : (c r d e s : ℕ) → slice_get part.shapes.items s ≡ Some (shape.Some r e) → Over (Link c r d) → Over (Below d e) → Over (Below c s)
  from_link_over c r d e s k g h =
      let some = expr.Some (role_at n r) (expr_at n e) in
      let at = (is.is_some s r e k).1 in
      above (expr_at n c) some (expr_at n s) (sym (reads s some at))
      (step (from_link (at_occurs s some at)) (two (Derived view) (HasLink (expr_at n c) (role_at n r) (expr_at n d)) (IsBelow (expr_at n d) (expr_at n e)) g h))

  rule_over : {ps : List Fact} {g : Fact} → numbers.Rule part ps g → IsLow g → ((p : Fact) → In p ps → Over p) → Over g
  rule_over (numbers.itself {c} l) low h = step (itself (at_occurs c (expr_at n c) (shape_stands c l))) (λ p j. in_none j)
  rule_over (numbers.in_thing {c} l) low h = above (expr_at n c) expr.Thing (expr_at n 0) (sym thing_is) (step (in_thing (at_occurs c (expr_at n c) (shape_stands c l))) (λ p j. in_none j))
  rule_over (numbers.to_operand {c} {a} {x} k) low h = operand_over c a x k (h (Below c a) here)
  rule_over (numbers.to_and {c} {a} s) low h = and_over c a low s (λ x i. h (Below c x) (in_map (λ (y : ℕ). Below c y) i))
  rule_over (numbers.by_inclusion {c} {d} {e} k) low h = step (by_inclusion (axiom_is (sub_at n (d, e)) (in_left _ (in_map (sub_at n) k)))) (one (Derived view) (fact_at n (Below c d)) (h (Below c d) here))
  rule_over (numbers.by_disjoint {c} {d} {e} k) low h =
      above (expr_at n c) expr.Nothing (expr_at n 1) (sym nothing_is)
      (step (by_disjoint (axiom_is (disjoint_at n (d, e)) (in_right (map (sub_at n) part.inclusions.items) (in_left _ (in_map (disjoint_at n) k)))))
      (two (Derived view) (fact_at n (Below c d)) (fact_at n (Below c e)) (h (Below c d) here) (h (Below c e) (there here))))
  rule_over (numbers.to_link {c} {s} {r} {d} k) low h = link_over c s r d k (h (Below c s) here)
  rule_over (numbers.by_role {c} {r} {d} {s} k) low h =
      step (by_role (axiom_is (sub_role_at n (r, s)) (in_right (map (sub_at n) part.inclusions.items) (in_right (map (disjoint_at n) part.disjoints.items) (in_left _ (in_map (sub_role_at n) k))))))
      (one (Derived view) (fact_at n (Link c r d)) (h (Link c r d) here))
  rule_over (numbers.by_chain {c} {r} {d} {s} {e} {t} k) low h =
      step
      (by_chain
      (axiom_is (chain_at n (r, s, t))
      (in_right (map (sub_at n) part.inclusions.items) (in_right (map (disjoint_at n) part.disjoints.items) (in_right (map (sub_role_at n) part.role_inclusions.items) (in_left _ (in_map (chain_at n) k)))))))
      (two (Derived view) (fact_at n (Link c r d)) (fact_at n (Link d s e)) (h (Link c r d) here) (h (Link d s e) (there here)))
  rule_over (numbers.from_link {c} {r} {d} {e} {s} k) low h = from_link_over c r d e s k (h (Link c r d) here) (h (Below d e) (there here))
  rule_over (numbers.by_domain {c} {r} {d} {e} k) low h =
      step
      (by_domain
      (axiom_is (domain_at n (r, e))
      (in_right (map (sub_at n) part.inclusions.items) (in_right (map (disjoint_at n) part.disjoints.items) (in_right (map (sub_role_at n) part.role_inclusions.items) (in_right (map (chain_at n) part.chains.items) (in_map (domain_at n) k)))))))
      (one (Derived view) (fact_at n (Link c r d)) (h (Link c r d) here))
  rule_over (numbers.to_nothing {c} {r} {d}) low h =
      above (expr_at n c) expr.Nothing (expr_at n 1) (sym nothing_is)
      (step to_nothing
      (two (Derived view) (fact_at n (Link c r d)) (IsBelow (expr_at n d) expr.Nothing) (h (Link c r d) here) (above (expr_at n d) (expr_at n 1) expr.Nothing nothing_is (h (Below d 1) (there here)))))

  pub over : {g : Fact} → numbers.Derived part g → Derived view (fact_at n g)
  over (numbers.step rule premises) = rule_over rule (low (numbers.step rule premises)) (λ p k. over (premises p k))

  -- ---- the numbers of a derived fact

  abbrev HasRole : Fact → Type 0
  HasRole (Below c d) = Unit {0}
  HasRole (Link c r d) = r < length n.roles

  as_role : (r : ℕ) → r < part.role_count → r < length n.roles
  as_role r l = let e = is.roles in omega (arith, l, e)

  has_role : {g : Fact} → numbers.Derived part g → HasRole g
  has_role (numbers.step (numbers.itself l) h) = tt
  has_role (numbers.step (numbers.in_thing l) h) = tt
  has_role (numbers.step (numbers.to_operand k) h) = tt
  has_role (numbers.step (numbers.to_and k) h) = tt
  has_role (numbers.step (numbers.by_inclusion k) h) = tt
  has_role (numbers.step (numbers.by_disjoint k) h) = tt
  has_role (numbers.step (numbers.to_link {c} {s} {r} {d} k) h) = (is.is_some s r d k).0
  has_role (numbers.step (numbers.by_role {c} {r} {d} {s} k) h) = as_role s (is.proper.role_inclusions r s k).1
  has_role (numbers.step (numbers.by_chain {c} {r} {d} {s} {e} {t} k) h) = as_role t (is.proper.chains r s t k).2
  has_role (numbers.step (numbers.from_link k) h) = tt
  has_role (numbers.step (numbers.by_domain k) h) = tt
  has_role (numbers.step numbers.to_nothing h) = tt

  as_expr : (k : ℕ) → k < length part.shapes.items → k < length n.exprs
  as_expr k l = let e = is.shapes in omega (arith, l, e)

  pub range : (g : Fact) → numbers.Derived part g → IsFact n g
  range (Below c d) h = (as_expr c (within part is.proper h), as_expr d (upper_within part is.proper h))
  range (Link c r d) h = let w = within part is.proper h in (as_expr c w.0, has_role h, as_expr d w.1)

  -- different facts stand for different facts
  pub apart : (g h : Fact) → IsFact n g → IsFact n h → fact_at n g ≡ fact_at n h → g ≡ h
  apart (Below c d) (Below x y) r s e =
      let low : expr_at n c ≡ expr_at n x = cc in
      let high : expr_at n d ≡ expr_at n y = cc in
      let p = is.once c x (expr_at n x) (stands c r.0 ∙ ap Some low) (stands x s.0) in
      let q = is.once d y (expr_at n y) (stands d r.1 ∙ ap Some high) (stands y s.1) in λ i. Below (p i) (q i)
  apart (Below c d) (Link x k y) r s e = absurd cc
  apart (Link c k d) (Below x y) r s e = absurd cc
  apart (Link c k d) (Link x j y) r s e =
      let low : expr_at n c ≡ expr_at n x = cc in
      let role : role_at n k ≡ role_at n j = cc in
      let high : expr_at n d ≡ expr_at n y = cc in
      let p = is.once c x (expr_at n x) (stands c r.0 ∙ ap Some low) (stands x s.0) in
      let o = is.roles_once k j (role_at n j) (stands_role k r.1 ∙ ap Some role) (stands_role j s.1) in
      let q = is.once d y (expr_at n y) (stands d r.2 ∙ ap Some high) (stands y s.2) in λ i. Link (p i) (o i) (q i)

  -- ---- from expressions to numbers

  -- numbers of a fact, which is derived of them
  pub record BelowAt (c d : ClassExpr) : Type 0 where
    pub low_number : ℕ
    pub high_number : ℕ
    pub is_low : slice_get n.exprs low_number ≡ Some c
    pub is_high : slice_get n.exprs high_number ≡ Some d
    pub derived : numbers.Derived part (Below low_number high_number)

  pub record LinkAt (c : ClassExpr) (r : List ℕ) (d : ClassExpr) : Type 0 where
    pub start_number : ℕ
    pub role_number : ℕ
    pub end_number : ℕ
    pub is_start : slice_get n.exprs start_number ≡ Some c
    pub is_role : slice_get n.roles role_number ≡ Some r
    pub is_end : slice_get n.exprs end_number ≡ Some d
    pub derived : numbers.Derived part (Link start_number role_number end_number)

  abbrev At : ElFact → Type 0
  At (IsBelow c d) = BelowAt c d
  At (HasLink c r d) = LinkAt c r d

  same : (j k : ℕ) (c d : ClassExpr) → IsAt j c → IsAt k d → c ≡ d → j ≡ k
  same j k c d g h e = is.once j k d (g ∙ ap Some e) h

  same_role : (j k : ℕ) (r s : List ℕ) → IsRoleAt j r → IsRoleAt k s → r ≡ s → j ≡ k
  same_role j k r s g h e = is.roles_once j k s (g ∙ ap Some e) h

  -- which kind an axiom is of
  by_kind :
      (P : Type 0)
      (b : Body)
      → In b (axioms_at n part)
      → ((x : ℕ × ℕ) → In x part.inclusions.items → b ≡ sub_at n x → P)
      → ((x : ℕ × ℕ) → In x part.disjoints.items → b ≡ disjoint_at n x → P)
      → ((x : ℕ × ℕ) → In x part.role_inclusions.items → b ≡ sub_role_at n x → P)
      → ((x : ℕ × ℕ × ℕ) → In x part.chains.items → b ≡ chain_at n x → P)
      → ((x : ℕ × ℕ) → In x part.domains.items → b ≡ domain_at n x → P)
      → P
  by_kind P b k sub disjoint sub_role chain domain = elim (in_parts (map (sub_at n) part.inclusions.items) k) [
    | inl i ↦ let f = from_map (sub_at n) part.inclusions.items i in sub f.it f.inside f.is
    | inr k ↦ elim (in_parts (map (disjoint_at n) part.disjoints.items) k) [
      | inl i ↦ let f = from_map (disjoint_at n) part.disjoints.items i in disjoint f.it f.inside f.is
      | inr k ↦ elim (in_parts (map (sub_role_at n) part.role_inclusions.items) k) [
        | inl i ↦ let f = from_map (sub_role_at n) part.role_inclusions.items i in sub_role f.it f.inside f.is
        | inr k ↦ elim (in_parts (map (chain_at n) part.chains.items) k) [
          | inl i ↦ let f = from_map (chain_at n) part.chains.items i in chain f.it f.inside f.is
          | inr i ↦ let f = from_map (domain_at n) part.domains.items i in domain f.it f.inside f.is
        ]
      ]
    ]
  ]

  sub_numbers : (c d : ClassExpr) → In (body.Sub c d) view.axioms → (x : ℕ × ℕ) × In x part.inclusions.items × (c ≡ expr_at n x.0) × (d ≡ expr_at n x.1)
  sub_numbers c d k =
      by_kind ((x : ℕ × ℕ) × In x part.inclusions.items × (c ≡ expr_at n x.0) × (d ≡ expr_at n x.1)) (body.Sub c d) ((is.axioms (body.Sub c d)).0 k)
      (λ x i e. (x, i, cc, cc))
      (λ x i e. absurd cc)
      (λ x i e. absurd cc)
      (λ x i e. absurd cc)
      (λ x i e. absurd cc)

  disjoint_numbers : (c d : ClassExpr) → In (body.Disjoint c d) view.axioms → (x : ℕ × ℕ) × In x part.disjoints.items × (c ≡ expr_at n x.0) × (d ≡ expr_at n x.1)
  disjoint_numbers c d k =
      by_kind ((x : ℕ × ℕ) × In x part.disjoints.items × (c ≡ expr_at n x.0) × (d ≡ expr_at n x.1)) (body.Disjoint c d) ((is.axioms (body.Disjoint c d)).0 k)
      (λ x i e. absurd cc)
      (λ x i e. (x, i, cc, cc))
      (λ x i e. absurd cc)
      (λ x i e. absurd cc)
      (λ x i e. absurd cc)

  sub_role_numbers : (r s : List ℕ) → In (body.SubRole r s) view.axioms → (x : ℕ × ℕ) × In x part.role_inclusions.items × (r ≡ role_at n x.0) × (s ≡ role_at n x.1)
  sub_role_numbers r s k =
      by_kind ((x : ℕ × ℕ) × In x part.role_inclusions.items × (r ≡ role_at n x.0) × (s ≡ role_at n x.1)) (body.SubRole r s) ((is.axioms (body.SubRole r s)).0 k)
      (λ x i e. absurd cc)
      (λ x i e. absurd cc)
      (λ x i e. (x, i, cc, cc))
      (λ x i e. absurd cc)
      (λ x i e. absurd cc)

  chain_numbers : (r s t : List ℕ) → In (body.Chain r s t) view.axioms → (x : ℕ × ℕ × ℕ) × In x part.chains.items × (r ≡ role_at n x.0) × (s ≡ role_at n x.1) × (t ≡ role_at n x.2)
  chain_numbers r s t k =
      by_kind ((x : ℕ × ℕ × ℕ) × In x part.chains.items × (r ≡ role_at n x.0) × (s ≡ role_at n x.1) × (t ≡ role_at n x.2)) (body.Chain r s t) ((is.axioms (body.Chain r s t)).0 k)
      (λ x i e. absurd cc)
      (λ x i e. absurd cc)
      (λ x i e. absurd cc)
      (λ x i e. (x, i, cc, cc, cc))
      (λ x i e. absurd cc)

  domain_numbers : (r : List ℕ) (c : ClassExpr) → In (body.Domain r c) view.axioms → (x : ℕ × ℕ) × In x part.domains.items × (r ≡ role_at n x.0) × (c ≡ expr_at n x.1)
  domain_numbers r c k =
      by_kind ((x : ℕ × ℕ) × In x part.domains.items × (r ≡ role_at n x.0) × (c ≡ expr_at n x.1)) (body.Domain r c) ((is.axioms (body.Domain r c)).0 k)
      (λ x i e. absurd cc)
      (λ x i e. absurd cc)
      (λ x i e. absurd cc)
      (λ x i e. absurd cc)
      (λ x i e. (x, i, cc, cc))

  -- ---- each rule

  abbrev Numbers : Fact → Type 0
  Numbers g = numbers.Derived part g

  below_to : (x y z : ℕ) → y ≡ z → Numbers (Below x y) → Numbers (Below x z)
  below_to x y z e h = subst (λ w. Numbers (Below x w)) e h

  itself_at : (c : ClassExpr) → In c view.occurring → BelowAt c c
  itself_at c i =
      let k = occurs_at c i in
      record { low_number = k.0; high_number = k.0; is_low = k.1; is_high = k.1; derived = numbers.step (numbers.itself (at_shape k.0 c k.1)) (λ p j. in_none j) }

  thing_at : (c : ClassExpr) → In c view.occurring → BelowAt c expr.Thing
  thing_at c i =
      let k = occurs_at c i in
      record { low_number = k.0; high_number = 0; is_low = k.1; is_high = is.thing; derived = numbers.step (numbers.in_thing (at_shape k.0 c k.1)) (λ p j. in_none j) }

  operand_at : (c d : ClassExpr) (operands : List ClassExpr) → In d operands → BelowAt c (expr.And operands) → BelowAt c d
  operand_at c d operands i h =
      let a = h.high_number in
      let shape_is = is.and a operands h.is_high in
      let x = from_map (expr_at n) (row part.operands.items a) (subst (In d) (sym shape_is.1) i) in
      record {
        low_number = h.low_number;
        high_number = x.it;
        is_low = h.is_low;
        is_high = shape_stands x.it (is.proper.operands a x.it x.inside) ∙ ap Some (sym x.is);
        derived = numbers.step (numbers.to_operand x.inside) (one_number Numbers (Below h.low_number a) h.derived);
      }

  and_at : (c : ClassExpr) (operands : List ClassExpr) → In c view.occurring → In (expr.And operands) view.occurring → ((d : ClassExpr) → In d operands → BelowAt c d) → BelowAt c (expr.And operands)
  and_at c operands i o h =
      let k = occurs_at c i in
      let a = occurs_at (expr.And operands) o in
      let shape_is = is.and a.0 operands a.1 in
      record {
        low_number = k.0;
        high_number = a.0;
        is_low = k.1;
        is_high = a.1;
        derived = numbers.step (numbers.to_and {c = k.0} shape_is.0) (λ p j.
            let x = from_map (λ (y : ℕ). Below k.0 y) (row part.operands.items a.0) j in
            let d = expr_at n x.it in
            let b = h d (subst (In d) shape_is.1 (in_map (expr_at n) x.inside)) in
            let lows : b.low_number ≡ k.0 = same b.low_number k.0 c c b.is_low k.1 refl in
            let highs : b.high_number ≡ x.it = same b.high_number x.it d d b.is_high (shape_stands x.it (is.proper.operands a.0 x.it x.inside)) refl in
            subst Numbers (sym x.is) (subst (λ w. Numbers (Below w x.it)) lows (below_to b.low_number b.high_number x.it highs b.derived)));
      }

  inclusion_at : (c d e : ClassExpr) → In (body.Sub d e) view.axioms → BelowAt c d → BelowAt c e
  inclusion_at c d e i h =
      let x = sub_numbers d e i in
      let p = x.0 in
      let inside = is.proper.inclusions p.0 p.1 x.1 in
      record {
        low_number = h.low_number;
        high_number = p.1;
        is_low = h.is_low;
        is_high = shape_stands p.1 inside.1 ∙ ap Some (sym x.3);
        derived = numbers.step (numbers.by_inclusion x.1) (one_number Numbers (Below h.low_number p.0) (below_to h.low_number h.high_number p.0 (same h.high_number p.0 d (expr_at n p.0) h.is_high (shape_stands p.0 inside.0) x.2) h.derived));
      }

  disjoint_to : (c d e : ClassExpr) → In (body.Disjoint d e) view.axioms → BelowAt c d → BelowAt c e → BelowAt c expr.Nothing
  disjoint_to c d e i h g =
      let x = disjoint_numbers d e i in
      let p = x.0 in
      let inside = is.proper.disjoints p.0 p.1 x.1 in
      let lows : g.low_number ≡ h.low_number = same g.low_number h.low_number c c g.is_low h.is_low refl in
      let first : Numbers (Below h.low_number p.0) = below_to h.low_number h.high_number p.0 (same h.high_number p.0 d (expr_at n p.0) h.is_high (shape_stands p.0 inside.0) x.2) h.derived in
      let second : Numbers (Below g.low_number p.1) = below_to g.low_number g.high_number p.1 (same g.high_number p.1 e (expr_at n p.1) g.is_high (shape_stands p.1 inside.1) x.3) g.derived in
      record {
        low_number = h.low_number;
        high_number = 1;
        is_low = h.is_low;
        is_high = is.nothing;
        derived = numbers.step (numbers.by_disjoint x.1) (two_numbers Numbers (Below h.low_number p.0) (Below h.low_number p.1) first (subst (λ w. Numbers (Below w p.1)) lows second));
      }

  link_to : (c d : ClassExpr) (r : List ℕ) → BelowAt c (expr.Some r d) → LinkAt c r d
  link_to c d r h =
      let x = is.some h.high_number r d h.is_high in
      record {
        start_number = h.low_number;
        role_number = x.0;
        end_number = x.1;
        is_start = h.is_low;
        is_role = x.3;
        is_end = x.4;
        derived = numbers.step (numbers.to_link x.2) (one_number Numbers (Below h.low_number h.high_number) h.derived);
      }

  -- a link by a role that has another number too
  link_by : (c d : ClassExpr) (r : List ℕ) (h : LinkAt c r d) (s : ℕ) → s < part.role_count → r ≡ role_at n s → Numbers (Link h.start_number s h.end_number)
  link_by c d r h s l e = subst (λ w. Numbers (Link h.start_number w h.end_number)) (same_role h.role_number s r (role_at n s) h.is_role (role_stands s l) e) h.derived

  role_to : (c d : ClassExpr) (r s : List ℕ) → In (body.SubRole r s) view.axioms → LinkAt c r d → LinkAt c s d
  role_to c d r s i h =
      let x = sub_role_numbers r s i in
      let p = x.0 in
      let inside = is.proper.role_inclusions p.0 p.1 x.1 in
      record {
        start_number = h.start_number;
        role_number = p.1;
        end_number = h.end_number;
        is_start = h.is_start;
        is_role = role_stands p.1 inside.1 ∙ ap Some (sym x.3);
        is_end = h.is_end;
        derived = numbers.step (numbers.by_role x.1) (one_number Numbers (Link h.start_number p.0 h.end_number) (link_by c d r h p.0 inside.0 x.2));
      }

  chain_to : (c d e : ClassExpr) (r s t : List ℕ) → In (body.Chain r s t) view.axioms → LinkAt c r d → LinkAt d s e → LinkAt c t e
  chain_to c d e r s t i h g =
      let x = chain_numbers r s t i in
      let p = x.0 in
      let inside = is.proper.chains p.0 p.1 p.2 x.1 in
      let meet : g.start_number ≡ h.end_number = same g.start_number h.end_number d d g.is_start h.is_end refl in
      record {
        start_number = h.start_number;
        role_number = p.2;
        end_number = g.end_number;
        is_start = h.is_start;
        is_role = role_stands p.2 inside.2 ∙ ap Some (sym x.4);
        is_end = g.is_end;
        derived = numbers.step (numbers.by_chain x.1) (two_numbers Numbers (Link h.start_number p.0 h.end_number) (Link h.end_number p.1 g.end_number) (link_by c d r h p.0 inside.0 x.2) (subst (λ w. Numbers (Link w p.1 g.end_number)) meet (link_by d e s g p.1 inside.1 x.3)));
      }

  some_to : (c d e : ClassExpr) (r : List ℕ) → In (expr.Some r e) view.occurring → LinkAt c r d → BelowAt d e → BelowAt c (expr.Some r e)
  some_to c d e r i h g =
      let a = occurs_at (expr.Some r e) i in
      let x = is.some a.0 r e a.1 in
      let meet : g.low_number ≡ h.end_number = same g.low_number h.end_number d d g.is_low h.is_end refl in
      let by_role_number : Numbers (Link h.start_number x.0 h.end_number) = subst (λ w. Numbers (Link h.start_number w h.end_number)) (same_role h.role_number x.0 r r h.is_role x.3 refl) h.derived in
      let below_filler : Numbers (Below g.low_number x.1) = below_to g.low_number g.high_number x.1 (same g.high_number x.1 e e g.is_high x.4 refl) g.derived in
      record {
        low_number = h.start_number;
        high_number = a.0;
        is_low = h.is_start;
        is_high = a.1;
        derived = numbers.step (numbers.from_link x.2) (two_numbers Numbers (Link h.start_number x.0 h.end_number) (Below h.end_number x.1) by_role_number (subst (λ w. Numbers (Below w x.1)) meet below_filler));
      }

  domain_to : (c d e : ClassExpr) (r : List ℕ) → In (body.Domain r e) view.axioms → LinkAt c r d → BelowAt c e
  domain_to c d e r i h =
      let x = domain_numbers r e i in
      let p = x.0 in
      let inside = is.proper.domains p.0 p.1 x.1 in
      record {
        low_number = h.start_number;
        high_number = p.1;
        is_low = h.is_start;
        is_high = shape_stands p.1 inside.1 ∙ ap Some (sym x.3);
        derived = numbers.step (numbers.by_domain x.1) (one_number Numbers (Link h.start_number p.0 h.end_number) (link_by c d r h p.0 inside.0 x.2));
      }

  nothing_to : (c d : ClassExpr) (r : List ℕ) → LinkAt c r d → BelowAt d expr.Nothing → BelowAt c expr.Nothing
  nothing_to c d r h g =
      let meet : g.low_number ≡ h.end_number = same g.low_number h.end_number d d g.is_low h.is_end refl in
      let below_nothing : Numbers (Below g.low_number 1) = below_to g.low_number g.high_number 1 (same g.high_number 1 expr.Nothing expr.Nothing g.is_high is.nothing refl) g.derived in
      record {
        low_number = h.start_number;
        high_number = 1;
        is_low = h.is_start;
        is_high = is.nothing;
        derived = numbers.step numbers.to_nothing (two_numbers Numbers (Link h.start_number h.role_number h.end_number) (Below h.end_number 1) h.derived (subst (λ w. Numbers (Below w 1)) meet below_nothing));
      }

  rule_at : {ps : List ElFact} {fact : ElFact} → Rule view ps fact → ((p : ElFact) → In p ps → At p) → At fact
  rule_at (itself {c} i) h = itself_at c i
  rule_at (in_thing {c} i) h = thing_at c i
  rule_at (to_operand {c} {d} operands i) h = operand_at c d operands i (h (IsBelow c (expr.And operands)) here)
  rule_at (to_and {c} operands i o) h = and_at c operands i o (λ d j. h (is_below c d) (in_map (is_below c) j))
  rule_at (by_inclusion {c} {d} {e} i) h = inclusion_at c d e i (h (IsBelow c d) here)
  rule_at (by_disjoint {c} {d} {e} i) h = disjoint_to c d e i (h (IsBelow c d) here) (h (IsBelow c e) (there here))
  rule_at (to_link {c} {d} {r}) h = link_to c d r (h (IsBelow c (expr.Some r d)) here)
  rule_at (by_role {c} {d} {r} {s} i) h = role_to c d r s i (h (HasLink c r d) here)
  rule_at (by_chain {c} {d} {e} {r} {s} {t} i) h = chain_to c d e r s t i (h (HasLink c r d) here) (h (HasLink d s e) (there here))
  rule_at (from_link {c} {d} {e} {r} i) h = some_to c d e r i (h (HasLink c r d) here) (h (IsBelow d e) (there here))
  rule_at (by_domain {c} {d} {e} {r} i) h = domain_to c d e r i (h (HasLink c r d) here)
  rule_at (to_nothing {c} {d} {r}) h = nothing_to c d r (h (HasLink c r d) here) (h (IsBelow d expr.Nothing) (there here))

  pub found_at : {fact : ElFact} → Derived view fact → At fact
  found_at (step rule premises) = rule_at rule (λ p k. found_at (premises p k))

  -- ---- both laws

  abbrev HasNumbers : ElFact → Type 0
  HasNumbers fact = (g : Fact) × IsFact n g × (fact_at n g ≡ fact) × Numbers g

  numbers_of : (fact : ElFact) → At fact → HasNumbers fact
  numbers_of (IsBelow c d) h = (
    Below h.low_number h.high_number,
    (slice_get_within n.exprs h.low_number c h.is_low, slice_get_within n.exprs h.high_number d h.is_high),
    (λ i. IsBelow (reads h.low_number c h.is_low i) (reads h.high_number d h.is_high i)),
    h.derived,
  )
  numbers_of (HasLink c r d) h = (
    Link h.start_number h.role_number h.end_number,
    (slice_get_within n.exprs h.start_number c h.is_start, slice_get_within n.roles h.role_number r h.is_role, slice_get_within n.exprs h.end_number d h.is_end),
    (λ i. HasLink (reads h.start_number c h.is_start i) (reads_role h.role_number r h.is_role i) (reads h.end_number d h.is_end i)),
    h.derived,
  )

  pub numbers_found : (fact : ElFact) → Derived view fact → HasNumbers fact
  numbers_found fact derived = numbers_of fact (found_at derived)

  back : (g : Fact) → IsFact n g → Derived view (fact_at n g) → Numbers g
  back (Below c d) range derived =
      let h = found_at derived in
      let low_is : h.low_number ≡ c = same h.low_number c (expr_at n c) (expr_at n c) h.is_low (stands c range.0) refl in
      let high_is : h.high_number ≡ d = same h.high_number d (expr_at n d) (expr_at n d) h.is_high (stands d range.1) refl in
      subst (λ w. Numbers (Below w d)) low_is (below_to h.low_number h.high_number d high_is h.derived)
  back (Link c r d) range derived =
      let h = found_at derived in
      let start_is : h.start_number ≡ c = same h.start_number c (expr_at n c) (expr_at n c) h.is_start (stands c range.0) refl in
      let role_is : h.role_number ≡ r = same_role h.role_number r (role_at n r) (role_at n r) h.is_role (stands_role r range.1) refl in
      let end_is : h.end_number ≡ d = same h.end_number d (expr_at n d) (expr_at n d) h.is_end (stands d range.2) refl in
      subst (λ w. Numbers (Link w r d)) start_is (subst (λ w. Numbers (Link h.start_number w d)) role_is (subst (λ w. Numbers (Link h.start_number h.role_number w)) end_is h.derived))

  pub both_ways : (g : Fact) → IsFact n g → (Numbers g → Derived view (fact_at n g)) × (Derived view (fact_at n g) → Numbers g)
  both_ways g range = (λ h. over h, λ h. back g range h)

pub same_derived : NumbersDeriveTheSame
same_derived view part n is g range = both_ways view part n is g range

pub has_numbers : DerivedHasNumbers
has_numbers view part n is fact derived = numbers_found view part n is fact derived
