-- What the code concludes is what the rules give, and nothing else.
use Rattle.std.proofs.Common.{◌≡◌, ℕ, Bool, true, false, List, [], ◌∷◌, ◌++◌, slice_get, Some, None, Option, map, filter, nat_eq, refl, sym, subst, ⊎_elim}
use Rattle.std.specs.List.{list_all, list_any}
use Rattle.std.proofs.lemmas.Bool.{eqb-true, eq-eqb}
use Rattle.el_numbers.specs.Rules.{Rule, itself, in_thing, by_inclusion, to_operand, to_and, by_disjoint, to_link, by_role, by_chain, from_link, by_domain, to_nothing, Derived, step}
use Rattle.el_numbers.specs.declared.fact.Fact.{Fact}
use Rattle.el_numbers.specs.declared.fact.Fact.TheVariants.{Below, Link}
use Rattle.el_numbers.specs.declared.part.NumberedPart.{NumberedPart}
use Rattle.el_numbers.specs.declared.part.Shape.{Shape}
use Rattle.el_numbers.specs.declared.storing.FactRows.{FactRows}
use Rattle.el_numbers.specs.inner.Conclude.{told_ends, belows, links, shape_links, back_belows, link_belows, first_links, second_links, and_belows, clashes, back_nothings, role_links, link_nothing, below_conclusions, link_conclusions, conclusions}
use Rattle.el_numbers.specs.inner.Indexes.{IsIndexed}
use Rattle.el_numbers.specs.inner.Storing.{Holds, IsLinked}
use Rattle.fact_rows.proofs.Members.{in_left, in_right, in_none, in_cons, in_parts, in_map, in_flat_map, in_filter, from_map, from_flat_map, from_filter, any_in, in_any, by_bool, and_parts, in_one}
use Rattle.fact_rows.specs.Member.{In, here, there}
use Rattle.fact_rows.specs.Rows.{row}
use Rattle.el_numbers.specs.declared.part.Shape.TheVariants as shape
use Rattle.el_numbers.specs.declared.index.Indexes.{Indexes}
use Rattle.el_numbers.specs.Proper.{IsProper}

in_belows : (b : ℕ) {r s : ℕ} {ps : List (ℕ × ℕ)} → In (r, s) ps → In (Below b s) (belows b r ps)
in_belows b {r} {s} {ps} i = in_map (λ (p : ℕ × ℕ). Below b p.1) (in_filter (λ (p : ℕ × ℕ). nat_eq p.0 r) i (eq-eqb r r refl))

in_links : (c e : ℕ) {s t : ℕ} {ps : List (ℕ × ℕ)} → In (s, t) ps → In (Link c t e) (links c e s ps)
in_links c e {s} {t} {ps} i = in_map (λ (p : ℕ × ℕ). Link c p.1 e) (in_filter (λ (p : ℕ × ℕ). nat_eq p.0 s) i (eq-eqb s s refl))

-- what a pair says that passed the test
pub record FromPair {A : Type 0} (f : ℕ → A) (r : ℕ) (ps : List (ℕ × ℕ)) (y : A) : Type 0 where
  pub it : ℕ
  pub inside : In (r, it) ps
  pub is : y ≡ f it

from_pairs : {A : Type 0} (f : ℕ → A) (r : ℕ) (ps : List (ℕ × ℕ)) {y : A} → In y (map (λ (p : ℕ × ℕ). f p.1) (filter (λ (p : ℕ × ℕ). nat_eq p.0 r) ps)) → FromPair f r ps y
from_pairs f r ps i =
    let m = from_map (λ (p : ℕ × ℕ). f p.1) (filter (λ (p : ℕ × ℕ). nat_eq p.0 r) ps) i in
    let k = from_filter (λ (p : ℕ × ℕ). nat_eq p.0 r) ps m.inside in
    let e : m.it.0 ≡ r = eqb-true m.it.0 r k.1 in
    record { it = m.it.1; inside = subst (λ z. In (z, m.it.1) ps) e k.0; is = m.is }

pub has_number : {x : ℕ} {xs : List ℕ} → In x xs → list_any (nat_eq x) xs ≡ true
has_number {x} i = any_in nat_eq eqb-true (λ (y : ℕ). eq-eqb y y refl) x i

pub number_in : (x : ℕ) (xs : List ℕ) → list_any (nat_eq x) xs ≡ true → In x xs
number_in x xs h = in_any nat_eq eqb-true (λ (y : ℕ). eq-eqb y y refl) x xs h

pub all_hold : (test : ℕ → Bool) (ys : List ℕ) → ((y : ℕ) → In y ys → test y ≡ true) → list_all test ys ≡ true
all_hold test [] h = refl
all_hold test (y ∷ ys) h = rw (h y here) (all_hold test ys (λ x i. h x (there i)))

each_holds : (test : ℕ → Bool) (y : ℕ) {ys : List ℕ} → list_all test ys ≡ true → In y ys → test y ≡ true
each_holds test y h (here {xs}) = (and_parts (test y) (list_all test xs) h).0
each_holds test y h (there {y = x} {xs} i) = each_holds test y (and_parts (test x) (list_all test xs) h).1 i

module _ (part : NumberedPart) (ix : Indexes) (proper : IsProper part) (indexed : IsIndexed part ix) (t : FactRows) (w : IsLinked t) where
  below_1 : (c d : ℕ) {h : Fact} → In h (told_ends c (row ix.told.items d)) → In h (below_conclusions part ix t c d)
  below_1 c d i = in_left (told_ends c (row part.operands.items d) ++ (shape_links c (slice_get part.shapes.items d) ++ (back_belows (row ix.somes.items d) (row t.back.items c) ++ (and_belows part.operands.items c (row t.below.items c) (row ix.ands.items d) ++ (clashes c (row t.below.items c) (row ix.disjoint.items d) ++ (back_nothings d (row t.back.items c))))))) i

  below_2 : (c d : ℕ) {h : Fact} → In h (told_ends c (row part.operands.items d)) → In h (below_conclusions part ix t c d)
  below_2 c d i = in_right (told_ends c (row ix.told.items d)) (in_left (shape_links c (slice_get part.shapes.items d) ++ (back_belows (row ix.somes.items d) (row t.back.items c) ++ (and_belows part.operands.items c (row t.below.items c) (row ix.ands.items d) ++ (clashes c (row t.below.items c) (row ix.disjoint.items d) ++ (back_nothings d (row t.back.items c)))))) i)

  below_3 : (c d : ℕ) {h : Fact} → In h (shape_links c (slice_get part.shapes.items d)) → In h (below_conclusions part ix t c d)
  below_3 c d i = in_right (told_ends c (row ix.told.items d)) (in_right (told_ends c (row part.operands.items d)) (in_left (back_belows (row ix.somes.items d) (row t.back.items c) ++ (and_belows part.operands.items c (row t.below.items c) (row ix.ands.items d) ++ (clashes c (row t.below.items c) (row ix.disjoint.items d) ++ (back_nothings d (row t.back.items c))))) i))

  below_4 : (c d : ℕ) {h : Fact} → In h (back_belows (row ix.somes.items d) (row t.back.items c)) → In h (below_conclusions part ix t c d)
  below_4 c d i = in_right (told_ends c (row ix.told.items d)) (in_right (told_ends c (row part.operands.items d)) (in_right (shape_links c (slice_get part.shapes.items d)) (in_left (and_belows part.operands.items c (row t.below.items c) (row ix.ands.items d) ++ (clashes c (row t.below.items c) (row ix.disjoint.items d) ++ (back_nothings d (row t.back.items c)))) i)))

  below_5 : (c d : ℕ) {h : Fact} → In h (and_belows part.operands.items c (row t.below.items c) (row ix.ands.items d)) → In h (below_conclusions part ix t c d)
  below_5 c d i = in_right (told_ends c (row ix.told.items d)) (in_right (told_ends c (row part.operands.items d)) (in_right (shape_links c (slice_get part.shapes.items d)) (in_right (back_belows (row ix.somes.items d) (row t.back.items c)) (in_left (clashes c (row t.below.items c) (row ix.disjoint.items d) ++ (back_nothings d (row t.back.items c))) i))))

  below_6 : (c d : ℕ) {h : Fact} → In h (clashes c (row t.below.items c) (row ix.disjoint.items d)) → In h (below_conclusions part ix t c d)
  below_6 c d i = in_right (told_ends c (row ix.told.items d)) (in_right (told_ends c (row part.operands.items d)) (in_right (shape_links c (slice_get part.shapes.items d)) (in_right (back_belows (row ix.somes.items d) (row t.back.items c)) (in_right (and_belows part.operands.items c (row t.below.items c) (row ix.ands.items d)) (in_left (back_nothings d (row t.back.items c)) i)))))

  below_7 : (c d : ℕ) {h : Fact} → In h (back_nothings d (row t.back.items c)) → In h (below_conclusions part ix t c d)
  below_7 c d i = in_right (told_ends c (row ix.told.items d)) (in_right (told_ends c (row part.operands.items d)) (in_right (shape_links c (slice_get part.shapes.items d)) (in_right (back_belows (row ix.somes.items d) (row t.back.items c)) (in_right (and_belows part.operands.items c (row t.below.items c) (row ix.ands.items d)) (in_right (clashes c (row t.below.items c) (row ix.disjoint.items d)) (i))))))

  link_1 : (c r d : ℕ) {h : Fact} → In h (link_belows ix.somes.items c r (row t.below.items d)) → In h (link_conclusions part ix t c r d)
  link_1 c r d i = in_left (first_links c (row ix.first.items r) (row t.links.items d) ++ (second_links d (row ix.second.items r) (row t.back.items c) ++ (role_links c d (row ix.roles.items r) ++ (told_ends c (row ix.domains.items r) ++ (link_nothing c (row t.below.items d)))))) i

  link_2 : (c r d : ℕ) {h : Fact} → In h (first_links c (row ix.first.items r) (row t.links.items d)) → In h (link_conclusions part ix t c r d)
  link_2 c r d i = in_right (link_belows ix.somes.items c r (row t.below.items d)) (in_left (second_links d (row ix.second.items r) (row t.back.items c) ++ (role_links c d (row ix.roles.items r) ++ (told_ends c (row ix.domains.items r) ++ (link_nothing c (row t.below.items d))))) i)

  link_3 : (c r d : ℕ) {h : Fact} → In h (second_links d (row ix.second.items r) (row t.back.items c)) → In h (link_conclusions part ix t c r d)
  link_3 c r d i = in_right (link_belows ix.somes.items c r (row t.below.items d)) (in_right (first_links c (row ix.first.items r) (row t.links.items d)) (in_left (role_links c d (row ix.roles.items r) ++ (told_ends c (row ix.domains.items r) ++ (link_nothing c (row t.below.items d)))) i))

  link_4 : (c r d : ℕ) {h : Fact} → In h (role_links c d (row ix.roles.items r)) → In h (link_conclusions part ix t c r d)
  link_4 c r d i = in_right (link_belows ix.somes.items c r (row t.below.items d)) (in_right (first_links c (row ix.first.items r) (row t.links.items d)) (in_right (second_links d (row ix.second.items r) (row t.back.items c)) (in_left (told_ends c (row ix.domains.items r) ++ (link_nothing c (row t.below.items d))) i)))

  link_5 : (c r d : ℕ) {h : Fact} → In h (told_ends c (row ix.domains.items r)) → In h (link_conclusions part ix t c r d)
  link_5 c r d i = in_right (link_belows ix.somes.items c r (row t.below.items d)) (in_right (first_links c (row ix.first.items r) (row t.links.items d)) (in_right (second_links d (row ix.second.items r) (row t.back.items c)) (in_right (role_links c d (row ix.roles.items r)) (in_left (link_nothing c (row t.below.items d)) i))))

  link_6 : (c r d : ℕ) {h : Fact} → In h (link_nothing c (row t.below.items d)) → In h (link_conclusions part ix t c r d)
  link_6 c r d i = in_right (link_belows ix.somes.items c r (row t.below.items d)) (in_right (first_links c (row ix.first.items r) (row t.links.items d)) (in_right (second_links d (row ix.second.items r) (row t.back.items c)) (in_right (role_links c d (row ix.roles.items r)) (in_right (told_ends c (row ix.domains.items r)) (i)))))

  -- each use of a rule with the fact among its premises
  pub covers : (f : Fact) (ps : List Fact) (h : Fact) → Rule part ps h → In f ps → ((p : Fact) → In p ps → Holds t p) → In h (conclusions part ix t f)
  covers f ps h (itself l) i all = in_none i
  covers f ps h (in_thing l) i all = in_none i
  covers f ps h (by_inclusion {c} {d} {e} k) i all = subst (λ g. In (Below c e) (conclusions part ix t g)) (sym (in_one i)) (below_1 c d (in_map (λ (x : ℕ). Below c x) (indexed.told.to d e k)))
  covers f ps h (to_operand {c} {a = d} {x = e} k) i all = subst (λ g. In (Below c e) (conclusions part ix t g)) (sym (in_one i)) (below_2 c d (in_map (λ (x : ℕ). Below c x) k))
  covers f ps h (to_and {c} {a} n) i all =
      let m = from_map (λ (x : ℕ). Below c x) (row part.operands.items a) i in
      let test = λ (b : ℕ). list_all (λ (x : ℕ). list_any (nat_eq x) (row t.below.items c)) (row part.operands.items b) in
      let on : test a ≡ true = all_hold (λ (x : ℕ). list_any (nat_eq x) (row t.below.items c)) (row part.operands.items a) (λ y j. has_number (all (Below c y) (in_map (λ (x : ℕ). Below c x) j))) in
      subst (λ g. In (Below c a) (conclusions part ix t g)) (sym m.is) (below_5 c m.it (in_map (λ (x : ℕ). Below c x) (in_filter test (indexed.to_ands a m.it m.inside) on)))
  covers f ps h (by_disjoint {c} {d} {e} k) i all =
      let test = λ (x : ℕ). list_any (nat_eq x) (row t.below.items c) in
      ⊎_elim
      (λ (is : f ≡ Below c d). subst (λ g. In (Below c 1) (conclusions part ix t g)) (sym is) (below_6 c d (in_map (λ (x : ℕ). Below c 1) (in_filter test (indexed.to_disjoint d e k).0 (has_number (all (Below c e) (there here)))))))
      (λ j. subst (λ g. In (Below c 1) (conclusions part ix t g)) (sym (in_one j)) (below_6 c e (in_map (λ (x : ℕ). Below c 1) (in_filter test (indexed.to_disjoint d e k).1 (has_number (all (Below c d) here))))))
      (in_cons i)
  covers f ps h (to_link {c} {s} {r} {d} k) i all = subst (λ g. In (Link c r d) (conclusions part ix t g)) (sym (in_one i)) (below_3 c s (subst (λ n. In (Link c r d) (shape_links c n)) (sym k) here))
  covers f ps h (by_role {c} {r} {d} {s} k) i all = subst (λ g. In (Link c s d) (conclusions part ix t g)) (sym (in_one i)) (link_4 c r d (in_map (λ (x : ℕ). Link c x d) (indexed.roles.to r s k)))
  covers f ps h (by_chain {c} {r} {d} {s} {e} {t = t'} k) i all = ⊎_elim
      (λ (is : f ≡ Link c r d). subst (λ g. In (Link c t' e) (conclusions part ix t g)) (sym is) (link_2 c r d (in_flat_map (λ (q : ℕ × ℕ). links c q.1 q.0 (row ix.first.items r)) (all (Link d s e) (there here)) (in_links c e (indexed.first.to r s t' k)))))
      (λ j. subst (λ g. In (Link c t' e) (conclusions part ix t g)) (sym (in_one j)) (link_3 d s e (in_flat_map (λ (q : ℕ × ℕ). links q.1 e q.0 (row ix.second.items s)) (w.to_back c r d (all (Link c r d) here)) (in_links c e (indexed.to_second r s t' k)))))
      (in_cons i)
  covers f ps h (from_link {c} {r} {d} {e} {s} k) i all = ⊎_elim
      (λ (is : f ≡ Link c r d). subst (λ g. In (Below c s) (conclusions part ix t g)) (sym is) (link_1 c r d (in_flat_map (λ (x : ℕ). belows c r (row ix.somes.items x)) (all (Below d e) (there here)) (in_belows c (indexed.to_somes s r e k)))))
      (λ j. subst (λ g. In (Below c s) (conclusions part ix t g)) (sym (in_one j)) (below_4 d e (in_flat_map (λ (q : ℕ × ℕ). belows q.1 q.0 (row ix.somes.items e)) (w.to_back c r d (all (Link c r d) here)) (in_belows c (indexed.to_somes s r e k)))))
      (in_cons i)
  covers f ps h (by_domain {c} {r} {d} {e} k) i all = subst (λ g. In (Below c e) (conclusions part ix t g)) (sym (in_one i)) (link_5 c r d (in_map (λ (x : ℕ). Below c x) (indexed.domains.to r e k)))
  covers f ps h (to_nothing {c} {r} {d}) i all = ⊎_elim
      (λ (is : f ≡ Link c r d).
      let n : In (Below c 1) (link_nothing c (row t.below.items d)) = rw (has_number (all (Below d 1) (there here))) here in
      subst (λ g. In (Below c 1) (conclusions part ix t g)) (sym is) (link_6 c r d n))
      (λ j. subst (λ g. In (Below c 1) (conclusions part ix t g)) (sym (in_one j)) (below_7 d 1 (in_map (λ (q : ℕ × ℕ). Below q.1 1) (w.to_back c r d (all (Link c r d) here)))))
      (in_cons i)

  module _ (sound : (g : Fact) → Holds t g → Derived part g) where
    one : {f h : Fact} → Rule part (f ∷ []) h → Holds t f → Derived part h
    one {f} r i = step r (λ p j. subst (Derived part) (sym (in_one j)) (sound f i))

    two : {f g h : Fact} → Rule part (f ∷ g ∷ []) h → Holds t f → Holds t g → Derived part h
    two {f} {g} r i k = step r (λ p j. ⊎_elim
        (λ (e : p ≡ f). subst (Derived part) (sym e) (sound f i))
        (λ m. subst (Derived part) (sym (in_one m)) (sound g k))
        (in_cons j))

    by_node : (c s : ℕ) (n : Option Shape) → slice_get part.shapes.items s ≡ n → Holds t (Below c s) → (h : Fact) → In h (shape_links c n) → Derived part h
    by_node c s None e i h j = in_none j
    by_node c s (Some shape.Name) e i h j = in_none j
    by_node c s (Some shape.And) e i h j = in_none j
    by_node c s (Some (shape.Some r d)) e i h j = subst (Derived part) (sym (in_one j)) (one (to_link e) i)

    by_ands : (c d : ℕ) (h : Fact) → In h (and_belows part.operands.items c (row t.below.items c) (row ix.ands.items d)) → Derived part h
    by_ands c d h j =
        let test = λ (b : ℕ). list_all (λ (x : ℕ). list_any (nat_eq x) (row t.below.items c)) (row part.operands.items b) in
        let m = from_map (λ (x : ℕ). Below c x) (filter test (row ix.ands.items d)) j in
        let k = from_filter test (row ix.ands.items d) m.inside in
        subst (Derived part) (sym m.is) (step (to_and (proper.is_and m.it d (indexed.from_ands m.it d k.0))) (λ p i.
        let q = from_map (λ (x : ℕ). Below c x) (row part.operands.items m.it) i in
        subst (Derived part) (sym q.is) (sound (Below c q.it) (number_in q.it (row t.below.items c) (each_holds (λ (x : ℕ). list_any (nat_eq x) (row t.below.items c)) q.it k.1 q.inside)))))

    by_clash : (c d : ℕ) → Holds t (Below c d) → (h : Fact) → In h (clashes c (row t.below.items c) (row ix.disjoint.items d)) → Derived part h
    by_clash c d i h j =
        let test = λ (x : ℕ). list_any (nat_eq x) (row t.below.items c) in
        let m = from_map (λ (x : ℕ). Below c 1) (filter test (row ix.disjoint.items d)) j in
        let k = from_filter test (row ix.disjoint.items d) m.inside in
        let j : Holds t (Below c m.it) = number_in m.it (row t.below.items c) k.1 in
        subst (Derived part) (sym m.is) (⊎_elim (λ (n : In (d, m.it) part.disjoints.items). two (by_disjoint n) i j) (λ (n : In (m.it, d) part.disjoints.items). two (by_disjoint n) j i) (indexed.from_disjoint d m.it k.0))

    by_back : (c d : ℕ) → Holds t (Below c d) → (h : Fact) → In h (back_nothings d (row t.back.items c)) → Derived part h
    by_back c d i h j = by_bool (nat_eq d 1)
        (λ (e : nat_eq d 1 ≡ true). let m = from_map (λ (q : ℕ × ℕ). Below q.1 1) (row t.back.items c) (rw e at j) in
        subst (Derived part) (sym m.is) (two to_nothing (w.from_back m.it.1 m.it.0 c m.inside) (subst (λ x. In x (row t.below.items c)) (eqb-true d 1 e) i)))
        (λ (e : nat_eq d 1 ≡ false). in_none (rw e at j))

    by_nothing : (c r d : ℕ) → Holds t (Link c r d) → (h : Fact) → In h (link_nothing c (row t.below.items d)) → Derived part h
    by_nothing c r d i h j = by_bool (list_any (nat_eq 1) (row t.below.items d))
        (λ (e : list_any (nat_eq 1) (row t.below.items d) ≡ true). subst (Derived part) (sym (in_one (rw e at j))) (two to_nothing i (number_in 1 (row t.below.items d) e)))
        (λ (e : list_any (nat_eq 1) (row t.below.items d) ≡ false). in_none (rw e at j))

    told : (c d : ℕ) (ends : List ℕ) → ((e : ℕ) → In e ends → Derived part (Below c e)) → (h : Fact) → In h (told_ends c ends) → Derived part h
    told c d ends made h j = let m = from_map (λ (x : ℕ). Below c x) ends j in subst (Derived part) (sym m.is) (made m.it m.inside)

    pub concluded : (f : Fact) → Holds t f → (h : Fact) → In h (conclusions part ix t f) → Derived part h
    concluded (Below c d) i h j = ⊎_elim (told c d (row ix.told.items d) (λ e k. one (by_inclusion (indexed.told.from d e k)) i) h)
        (λ k2. ⊎_elim (told c d (row part.operands.items d) (λ e k. one (to_operand k) i) h)
        (λ k3. ⊎_elim (by_node c d (slice_get part.shapes.items d) refl i h)
        (λ k4. ⊎_elim
        (λ l. let m = from_flat_map (λ (q : ℕ × ℕ). belows q.1 q.0 (row ix.somes.items d)) (row t.back.items c) l in
        let p = from_pairs (Below m.it.1) m.it.0 (row ix.somes.items d) m.out in
        subst (Derived part) (sym p.is) (two (from_link (indexed.from_somes p.it m.it.0 d p.inside)) (w.from_back m.it.1 m.it.0 c m.inside) i))
        (λ k5. ⊎_elim (by_ands c d h)
        (λ k6. ⊎_elim (by_clash c d i h) (by_back c d i h)
        (in_parts (clashes c (row t.below.items c) (row ix.disjoint.items d)) k6))
        (in_parts (and_belows part.operands.items c (row t.below.items c) (row ix.ands.items d)) k5))
        (in_parts (back_belows (row ix.somes.items d) (row t.back.items c)) k4))
        (in_parts (shape_links c (slice_get part.shapes.items d)) k3))
        (in_parts (told_ends c (row part.operands.items d)) k2))
        (in_parts (told_ends c (row ix.told.items d)) j)
    concluded (Link c r d) i h j = ⊎_elim
        (λ k. let m = from_flat_map (λ (x : ℕ). belows c r (row ix.somes.items x)) (row t.below.items d) k in
        let p = from_pairs (Below c) r (row ix.somes.items m.it) m.out in
        subst (Derived part) (sym p.is) (two (from_link (indexed.from_somes p.it r m.it p.inside)) i m.inside))
        (λ k2. ⊎_elim
        (λ l. let m = from_flat_map (λ (q : ℕ × ℕ). links c q.1 q.0 (row ix.first.items r)) (row t.links.items d) l in
        let p = from_pairs (λ (x : ℕ). Link c x m.it.1) m.it.0 (row ix.first.items r) m.out in
        subst (Derived part) (sym p.is) (two (by_chain (indexed.first.from r m.it.0 p.it p.inside)) i m.inside))
        (λ k3. ⊎_elim
        (λ l. let m = from_flat_map (λ (q : ℕ × ℕ). links q.1 d q.0 (row ix.second.items r)) (row t.back.items c) l in
        let p = from_pairs (λ (x : ℕ). Link m.it.1 x d) m.it.0 (row ix.second.items r) m.out in
        subst (Derived part) (sym p.is) (two (by_chain (indexed.from_second m.it.0 r p.it p.inside)) (w.from_back m.it.1 m.it.0 c m.inside) i))
        (λ k4. ⊎_elim
        (λ l. let m = from_map (λ (x : ℕ). Link c x d) (row ix.roles.items r) l in subst (Derived part) (sym m.is) (one (by_role (indexed.roles.from r m.it m.inside)) i))
        (λ k5. ⊎_elim (told c d (row ix.domains.items r) (λ e k. one (by_domain (indexed.domains.from r e k)) i) h) (by_nothing c r d i h)
        (in_parts (told_ends c (row ix.domains.items r)) k5))
        (in_parts (role_links c d (row ix.roles.items r)) k4))
        (in_parts (second_links d (row ix.second.items r) (row t.back.items c)) k3))
        (in_parts (first_links c (row ix.first.items r) (row t.links.items d)) k2))
        (in_parts (link_belows ix.somes.items c r (row t.below.items d)) j)
