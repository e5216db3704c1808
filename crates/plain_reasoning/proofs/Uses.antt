-- The listed uses are those of the rules: each is one, and each one whose premises are of expressions that occur, and of roles
-- that links have, is listed.
use Rattle.std.proofs.Common.{◌≡◌, ℕ, List, [], ◌∷◌, flat_map, map, ⊎_elim, sym, ap, subst, ◌∙◌}
use Rattle.fact_rows.specs.Member.{In, here, there}
use Rattle.fact_rows.proofs.Members.{from_flat_map, from_map, in_cons, in_flat_map, in_left, in_map, in_none, in_one, in_right}
use Rattle.owl_axioms.specs.declared.body.Body.{Body}
use Rattle.owl_axioms.specs.declared.body.Body.TheVariants as body
use Rattle.owl_axioms.specs.declared.expr.ClassExpr.{ClassExpr}
use Rattle.owl_axioms.specs.declared.expr.ClassExpr.TheOpen.{ClassExpr-F}
use Rattle.owl_axioms.specs.declared.expr.ClassExpr.TheVariants as expr
use Rattle.owl_axioms.specs.declared.expr.ClassExpr.TheViews.{out-ClassExpr, out-roll-ClassExpr, roll-ClassExpr, roll-out-ClassExpr}
use Rattle.el_rules.specs.Rules.{ElFact, ElView, HasLink, IsBelow, Rule, by_chain, by_disjoint, by_domain, by_inclusion, by_role, from_link, in_thing, is_below, itself, to_and, to_link, to_nothing, to_operand}
use Rattle.plain_reasoning.specs.Uses.{Use, all_rules, by_chain_uses, by_disjoint_uses, by_domain_uses, by_inclusion_uses, by_role_uses, chain_in, chains, disjoint_in, disjoints, domain_in, domains, for_each, from_link_uses, in_thing_uses, inclusion_in, inclusions, intersections, itself_uses, layer_operands, layer_restriction, link_roles, operands_in, restriction_in, restrictions, role_inclusion_in, role_inclusions, to_and_uses, to_link_uses, to_nothing_uses, to_operand_uses, use_of, uses_of}

-- ---- expressions and axioms by their forms

operands_by_layer : (layer : ClassExpr-F ClassExpr) (es : List ClassExpr) → In es (layer_operands layer) → roll-ClassExpr layer ≡ expr.And es
unfolding roll-ClassExpr denote.Hole.Carrier.roll
operands_by_layer (ClassExpr-F.And parts) es i = ap expr.And (sym (in_one i))
operands_by_layer other es i = in_none i

operands_are : (c : ClassExpr) (es : List ClassExpr) → In es (operands_in c) → c ≡ expr.And es
unfolding operands_in
operands_are c es i = sym (roll-out-ClassExpr c) ∙ operands_by_layer (out-ClassExpr c) es i

has_operands : (es : List ClassExpr) → In es (operands_in (expr.And es))
unfolding operands_in roll-ClassExpr denote.Hole.Carrier.roll
has_operands es = subst (λ l. In es (layer_operands l)) (sym (out-roll-ClassExpr (ClassExpr-F.And es))) here

restriction_by_layer : (layer : ClassExpr-F ClassExpr) (x : List ℕ × ClassExpr) → In x (layer_restriction layer) → roll-ClassExpr layer ≡ expr.Some x.0 x.1
unfolding roll-ClassExpr denote.Hole.Carrier.roll
restriction_by_layer (ClassExpr-F.Some role filler) x i = let e = in_one i in λ j. expr.Some ((sym e j).0) ((sym e j).1)
restriction_by_layer other x i = in_none i

restriction_is : (c : ClassExpr) (x : List ℕ × ClassExpr) → In x (restriction_in c) → c ≡ expr.Some x.0 x.1
unfolding restriction_in
restriction_is c x i = sym (roll-out-ClassExpr c) ∙ restriction_by_layer (out-ClassExpr c) x i

has_restriction : (r : List ℕ) (d : ClassExpr) → In (r, d) (restriction_in (expr.Some r d))
unfolding restriction_in roll-ClassExpr denote.Hole.Carrier.roll
has_restriction r d = subst (λ l. In (r, d) (layer_restriction l)) (sym (out-roll-ClassExpr (ClassExpr-F.Some r d))) here

inclusion_is : (b : Body) (x : ClassExpr × ClassExpr) → In x (inclusion_in b) → b ≡ body.Sub x.0 x.1
unfolding inclusion_in
inclusion_is (body.Sub c d) x i = let e = in_one i in λ j. body.Sub ((sym e j).0) ((sym e j).1)
inclusion_is other x i = in_none i

disjoint_is : (b : Body) (x : ClassExpr × ClassExpr) → In x (disjoint_in b) → b ≡ body.Disjoint x.0 x.1
unfolding disjoint_in
disjoint_is (body.Disjoint c d) x i = let e = in_one i in λ j. body.Disjoint ((sym e j).0) ((sym e j).1)
disjoint_is other x i = in_none i

role_inclusion_is : (b : Body) (x : List ℕ × List ℕ) → In x (role_inclusion_in b) → b ≡ body.SubRole x.0 x.1
unfolding role_inclusion_in
role_inclusion_is (body.SubRole r s) x i = let e = in_one i in λ j. body.SubRole ((sym e j).0) ((sym e j).1)
role_inclusion_is other x i = in_none i

chain_is : (b : Body) (x : List ℕ × List ℕ × List ℕ) → In x (chain_in b) → b ≡ body.Chain x.0 x.1 x.2
unfolding chain_in
chain_is (body.Chain r s t) x i = let e = in_one i in λ j. body.Chain ((sym e j).0) ((sym e j).1) ((sym e j).2)
chain_is other x i = in_none i

domain_is : (b : Body) (x : List ℕ × ClassExpr) → In x (domain_in b) → b ≡ body.Domain x.0 x.1
unfolding domain_in
domain_is (body.Domain r c) x i = let e = in_one i in λ j. body.Domain ((sym e j).0) ((sym e j).1)
domain_is other x i = in_none i

module _ (view : ElView) where
  -- ---- what is listed is there

  intersection_there : {es : List ClassExpr} → In es (intersections view) → In (expr.And es) view.occurring
  intersection_there {es} i = let r = from_flat_map operands_in view.occurring i in subst (λ c. In c view.occurring) (operands_are r.it es r.out) r.inside

  restriction_there : {x : List ℕ × ClassExpr} → In x (restrictions view) → In (expr.Some x.0 x.1) view.occurring
  restriction_there {x} i = let r = from_flat_map restriction_in view.occurring i in subst (λ c. In c view.occurring) (restriction_is r.it x r.out) r.inside

  inclusion_there : {x : ClassExpr × ClassExpr} → In x (inclusions view) → In (body.Sub x.0 x.1) view.axioms
  inclusion_there {x} i = let r = from_flat_map inclusion_in view.axioms i in subst (λ b. In b view.axioms) (inclusion_is r.it x r.out) r.inside

  disjoint_there : {x : ClassExpr × ClassExpr} → In x (disjoints view) → In (body.Disjoint x.0 x.1) view.axioms
  disjoint_there {x} i = let r = from_flat_map disjoint_in view.axioms i in subst (λ b. In b view.axioms) (disjoint_is r.it x r.out) r.inside

  role_inclusion_there : {x : List ℕ × List ℕ} → In x (role_inclusions view) → In (body.SubRole x.0 x.1) view.axioms
  role_inclusion_there {x} i = let r = from_flat_map role_inclusion_in view.axioms i in subst (λ b. In b view.axioms) (role_inclusion_is r.it x r.out) r.inside

  chain_there : {x : List ℕ × List ℕ × List ℕ} → In x (chains view) → In (body.Chain x.0 x.1 x.2) view.axioms
  chain_there {x} i = let r = from_flat_map chain_in view.axioms i in subst (λ b. In b view.axioms) (chain_is r.it x r.out) r.inside

  domain_there : {x : List ℕ × ClassExpr} → In x (domains view) → In (body.Domain x.0 x.1) view.axioms
  domain_there {x} i = let r = from_flat_map domain_in view.axioms i in subst (λ b. In b view.axioms) (domain_is r.it x r.out) r.inside

  -- ---- and what is there is listed

  in_intersections : {es : List ClassExpr} → In (expr.And es) view.occurring → In es (intersections view)
  in_intersections {es} i = in_flat_map operands_in i (has_operands es)

  in_restrictions : {r : List ℕ} {d : ClassExpr} → In (expr.Some r d) view.occurring → In (r, d) (restrictions view)
  in_restrictions {r} {d} i = in_flat_map restriction_in i (has_restriction r d)

  in_inclusions : {c d : ClassExpr} → In (body.Sub c d) view.axioms → In (c, d) (inclusions view)
  unfolding inclusion_in
  in_inclusions i = in_flat_map inclusion_in i here

  in_disjoints : {c d : ClassExpr} → In (body.Disjoint c d) view.axioms → In (c, d) (disjoints view)
  unfolding disjoint_in
  in_disjoints i = in_flat_map disjoint_in i here

  in_role_inclusions : {r s : List ℕ} → In (body.SubRole r s) view.axioms → In (r, s) (role_inclusions view)
  unfolding role_inclusion_in
  in_role_inclusions i = in_flat_map role_inclusion_in i here

  in_chains : {r s t : List ℕ} → In (body.Chain r s t) view.axioms → In (r, s, t) (chains view)
  unfolding chain_in
  in_chains i = in_flat_map chain_in i here

  in_domains : {r : List ℕ} {c : ClassExpr} → In (body.Domain r c) view.axioms → In (r, c) (domains view)
  unfolding domain_in
  in_domains i = in_flat_map domain_in i here

  -- ---- each listed use is one of a rule

  abbrev IsUse : Use → Type 0
  IsUse one = Rule view one.premises one.conclusion

  abbrev AreUses : List Use → Type 0
  AreUses uses = (one : Use) → In one uses → IsUse one

  each_mapped : {A : Type 0} (f : A → Use) (xs : List A) → ((x : A) → In x xs → IsUse (f x)) → AreUses (map f xs)
  each_mapped f xs h one i = let r = from_map f xs i in subst IsUse (sym r.is) (h r.it r.inside)

  each_flat : {A : Type 0} (f : A → List Use) (xs : List A) → ((x : A) → In x xs → AreUses (f x)) → AreUses (flat_map f xs)
  each_flat f xs h one i = let r = from_flat_map f xs i in h r.it r.inside one r.out

  each : (f : ClassExpr → List Use) → ((c : ClassExpr) → In c view.occurring → AreUses (f c)) → AreUses (for_each view f)
  each f h = each_flat f view.occurring h

  abbrev AreSound : List (ElView → List Use) → Type 0
  AreSound rules = (rule : ElView → List Use) → In rule rules → AreUses (rule view)

  no_rule : AreSound []
  no_rule rule i = in_none i

  one_more : {first : ElView → List Use} {rules : List (ElView → List Use)} → AreUses (first view) → AreSound rules → AreSound (first ∷ rules)
  one_more {first} first_sound sound rule i = ⊎_elim (λ e. subst (λ (f : ElView → List Use). AreUses (f view)) (sym e) first_sound) (λ j. sound rule j) (in_cons i)

  rules_sound : AreSound all_rules
  rules_sound =
      one_more (each_mapped (λ c. use_of [] (IsBelow c c)) view.occurring (λ c k. itself k))
      (one_more (each_mapped (λ c. use_of [] (IsBelow c expr.Thing)) view.occurring (λ c k. in_thing k))
      (one_more (each _ (λ c k. each_flat _ (intersections view) (λ es m. each_mapped (λ d. use_of (IsBelow c (expr.And es) ∷ []) (IsBelow c d)) es (λ d n. to_operand es n))))
      (one_more (each _ (λ c k. each_mapped (λ es. use_of (map (is_below c) es) (IsBelow c (expr.And es))) (intersections view) (λ es m. to_and es k (intersection_there m))))
      (one_more (each _ (λ c k. each_mapped (λ x. use_of (IsBelow c x.0 ∷ []) (IsBelow c x.1)) (inclusions view) (λ x m. by_inclusion (inclusion_there m))))
      (one_more (each _ (λ c k. each_mapped (λ x. use_of (IsBelow c x.0 ∷ IsBelow c x.1 ∷ []) (IsBelow c expr.Nothing)) (disjoints view) (λ x m. by_disjoint (disjoint_there m))))
      (one_more (each _ (λ c k. each_mapped (λ x. use_of (IsBelow c (expr.Some x.0 x.1) ∷ []) (HasLink c x.0 x.1)) (restrictions view) (λ x m. to_link)))
      (one_more (each _ (λ c k. each _ (λ d l. each_mapped (λ x. use_of (HasLink c x.0 d ∷ []) (HasLink c x.1 d)) (role_inclusions view) (λ x m. by_role (role_inclusion_there m)))))
      (one_more (each _ (λ c k. each _ (λ d l. each _ (λ e n. each_mapped (λ x. use_of (HasLink c x.0 d ∷ HasLink d x.1 e ∷ []) (HasLink c x.2 e)) (chains view) (λ x m. by_chain (chain_there m))))))
      (one_more (each _ (λ c k. each _ (λ d l. each_mapped (λ x. use_of (HasLink c x.0 d ∷ IsBelow d x.1 ∷ []) (IsBelow c (expr.Some x.0 x.1))) (restrictions view) (λ x m. from_link (restriction_there m)))))
      (one_more (each _ (λ c k. each _ (λ d l. each_mapped (λ x. use_of (HasLink c x.0 d ∷ []) (IsBelow c x.1)) (domains view) (λ x m. by_domain (domain_there m)))))
      (one_more (each _ (λ c k. each _ (λ d l. each_mapped (λ r. use_of (HasLink c r d ∷ IsBelow d expr.Nothing ∷ []) (IsBelow c expr.Nothing)) (link_roles view) (λ r m. to_nothing))))
      no_rule)))))))))))

  pub uses_sound : (one : Use) → In one (uses_of view) → IsUse one
  unfolding uses_of
  uses_sound one i = let r = from_flat_map (λ (rule : ElView → List Use). rule view) all_rules i in rules_sound r.it r.inside one r.out

  -- ---- and each use of expressions that occur is listed

  abbrev pub Fits : ElFact → Type 0
  Fits (IsBelow c d) = In c view.occurring × In d view.occurring
  Fits (HasLink c r d) = In c view.occurring × In r (link_roles view) × In d view.occurring

  role_of_restriction : (r : List ℕ) (d : ClassExpr) → In (expr.Some r d) view.occurring → In r (link_roles view)
  unfolding link_roles
  role_of_restriction r d i = in_left _ (in_map (λ (x : List ℕ × ClassExpr). x.0) (in_restrictions i))

  role_of_inclusion : {r s : List ℕ} → In (body.SubRole r s) view.axioms → In s (link_roles view)
  unfolding link_roles
  role_of_inclusion i = in_right _ (in_left _ (in_map (λ (x : List ℕ × List ℕ). x.1) (in_role_inclusions i)))

  role_of_chain : {r s t : List ℕ} → In (body.Chain r s t) view.axioms → In t (link_roles view)
  unfolding link_roles
  role_of_chain i = in_right _ (in_right _ (in_map (λ (x : List ℕ × List ℕ × List ℕ). x.2) (in_chains i)))

  listed : (rule : ElView → List Use) (one : Use) → In rule all_rules → In one (rule view) → In one (uses_of view)
  unfolding uses_of
  listed rule one i j = in_flat_map (λ (f : ElView → List Use). f view) i j

  pub uses_listed : {ps : List ElFact} {fact : ElFact} → Rule view ps fact → ((p : ElFact) → In p ps → Fits p) → In (use_of ps fact) (uses_of view)
  uses_listed (itself k) h = listed itself_uses _ here (in_map (λ c. use_of [] (IsBelow c c)) k)
  uses_listed (in_thing k) h = listed in_thing_uses _ (there here) (in_map (λ c. use_of [] (IsBelow c expr.Thing)) k)
  uses_listed (to_operand {c} {d} es k) h =
      let p = h (IsBelow c (expr.And es)) here in
      listed to_operand_uses _ (there (there here)) (in_flat_map _ p.0 (in_flat_map _ (in_intersections p.1) (in_map (λ e. use_of (IsBelow c (expr.And es) ∷ []) (IsBelow c e)) k)))
  uses_listed (to_and {c} es k o) h =
      listed to_and_uses _ (there (there (there here))) (in_flat_map _ k (in_map (λ fs. use_of (map (is_below c) fs) (IsBelow c (expr.And fs))) (in_intersections o)))
  uses_listed (by_inclusion {c} {d} {e = b} k) h =
      let p = h (IsBelow c d) here in
      listed by_inclusion_uses _ (there (there (there (there here)))) (in_flat_map _ p.0 (in_map (λ (x : ClassExpr × ClassExpr). use_of (IsBelow c x.0 ∷ []) (IsBelow c x.1)) (in_inclusions k)))
  uses_listed (by_disjoint {c} {d} {e = b} k) h =
      let p = h (IsBelow c d) here in
      listed by_disjoint_uses _ (there (there (there (there (there here))))) (in_flat_map _ p.0 (in_map (λ (x : ClassExpr × ClassExpr). use_of (IsBelow c x.0 ∷ IsBelow c x.1 ∷ []) (IsBelow c expr.Nothing)) (in_disjoints k)))
  uses_listed (to_link {c} {d} {r}) h =
      let p = h (IsBelow c (expr.Some r d)) here in
      listed to_link_uses _ (there (there (there (there (there (there here)))))) (in_flat_map _ p.0 (in_map (λ (x : List ℕ × ClassExpr). use_of (IsBelow c (expr.Some x.0 x.1) ∷ []) (HasLink c x.0 x.1)) (in_restrictions p.1)))
  uses_listed (by_role {c} {d} {r} {s} k) h =
      let p = h (HasLink c r d) here in
      listed by_role_uses _ (there (there (there (there (there (there (there here))))))) (in_flat_map _ p.0 (in_flat_map _ p.2 (in_map (λ (x : List ℕ × List ℕ). use_of (HasLink c x.0 d ∷ []) (HasLink c x.1 d)) (in_role_inclusions k))))
  uses_listed (by_chain {c} {d} {e = b} {r} {s} {t} k) h =
      let p = h (HasLink c r d) here in let q = h (HasLink d s b) (there here) in
      listed by_chain_uses _ (there (there (there (there (there (there (there (there here))))))))
      (in_flat_map _ p.0 (in_flat_map _ p.2 (in_flat_map _ q.2 (in_map (λ (x : List ℕ × List ℕ × List ℕ). use_of (HasLink c x.0 d ∷ HasLink d x.1 b ∷ []) (HasLink c x.2 b)) (in_chains k)))))
  uses_listed (from_link {c} {d} {e = b} {r} k) h =
      let p = h (HasLink c r d) here in
      listed from_link_uses _ (there (there (there (there (there (there (there (there (there here)))))))))
      (in_flat_map _ p.0 (in_flat_map _ p.2 (in_map (λ (x : List ℕ × ClassExpr). use_of (HasLink c x.0 d ∷ IsBelow d x.1 ∷ []) (IsBelow c (expr.Some x.0 x.1))) (in_restrictions k))))
  uses_listed (by_domain {c} {d} {e = b} {r} k) h =
      let p = h (HasLink c r d) here in
      listed by_domain_uses _ (there (there (there (there (there (there (there (there (there (there here))))))))))
      (in_flat_map _ p.0 (in_flat_map _ p.2 (in_map (λ (x : List ℕ × ClassExpr). use_of (HasLink c x.0 d ∷ []) (IsBelow c x.1)) (in_domains k))))
  uses_listed (to_nothing {c} {d} {r}) h =
      let p = h (HasLink c r d) here in
      listed to_nothing_uses _ (there (there (there (there (there (there (there (there (there (there (there here)))))))))))
      (in_flat_map _ p.0 (in_flat_map _ p.2 (in_map (λ s. use_of (HasLink c s d ∷ IsBelow d expr.Nothing ∷ []) (IsBelow c expr.Nothing)) p.1)))

  -- what a rule concludes has a role that links have
  abbrev pub HasRole : ElFact → Type 0
  HasRole (IsBelow c d) = Unit {0}
  HasRole (HasLink c r d) = In r (link_roles view)

  pub rule_role : {ps : List ElFact} {fact : ElFact} → Rule view ps fact → ((p : ElFact) → In p ps → HasRole p) → ((p : ElFact) → In p ps → Fits p) → HasRole fact
  rule_role (itself k) h f = tt
  rule_role (in_thing k) h f = tt
  rule_role (to_operand es k) h f = tt
  rule_role (to_and es k o) h f = tt
  rule_role (by_inclusion k) h f = tt
  rule_role (by_disjoint k) h f = tt
  rule_role (to_link {c} {d} {r}) h f = role_of_restriction r d (f (IsBelow c (expr.Some r d)) here).1
  rule_role (by_role k) h f = role_of_inclusion k
  rule_role (by_chain k) h f = role_of_chain k
  rule_role (from_link k) h f = tt
  rule_role (by_domain k) h f = tt
  rule_role (to_nothing) h f = tt
