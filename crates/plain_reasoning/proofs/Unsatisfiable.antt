-- The plain place is the one at which reasoning is refused, and there is none exactly where each declared class can have
-- something in it.
use Rattle.std.proofs.Common.{◌≡◌, ℕ, true, not, List, [], ◌∷◌, None, Some, filter, inl, inr, ⊎_elim, refl, sym, ap, subst, ◌∙◌, true≢false}
use Rattle.std.specs.Ordering.{is_gt, ordering_reverse}
use Rattle.std.specs.Cmp.Lexicographic.{nat_list_cmp_total}
use Rattle.std.specs.declared.cmp.Ordering.{Ordering}
use Rattle.std.specs.declared.cmp.Ordering.TheVariants.{Equal, Greater, Less}
use Rattle.fact_rows.proofs.Members.{contains_from_in, from_filter, from_map, in_filter, in_from_contains}
use Rattle.text_sets.proofs.SetLemmas.{In-from_contains, contains-from_In}
use Rattle.text_sets.proofs.SortedLemmas.{Rises-sorted_by, sorted_by-each, sorted_by-only}
use Rattle.text_sets.specs.Sets as set
use Rattle.text_sets.specs.Sorted.{IsBelow, Rises, text_cmp}
use Rattle.owl_axioms.specs.Proper.{in_order}
use Rattle.owl_axioms.specs.declared.body.Axiom.{Axiom}
use Rattle.owl_axioms.specs.declared.expr.ClassExpr.TheVariants as expr
use Rattle.owl_ontology.specs.Ontology.{Entry, axioms_of}
use Rattle.el_rules.specs.Rules.{ElView, IsBelow as IsBelowClass, IsElPartOf}
use Rattle.el_taxonomy.specs.Reason.{IsUnsatisfiable}
use Rattle.el_taxonomy.specs.Taxonomy.{IsDeclaredClass, IsEmpty}
use Rattle.plain_reasoning.specs.Occurring.{declared_classes}
use Rattle.plain_reasoning.specs.Unsatisfiable.{empty_classes, first_declared, first_place, is_empty, is_first, unsatisfiable_of}
use Rattle.plain_reasoning.proofs.Declarations.{declared_first, declared_says, first_found, found_first}
use Rattle.plain_reasoning.proofs.Occurring.{from_declared, in_declared}
use Rattle.plain_reasoning.proofs.Told.{derived, told}

abbrev self : List ℕ → List ℕ
self a = a

-- ---- a class that is below others, or is one with them

less_in_order : (a b : List ℕ) → text_cmp a b ≡ Less → in_order a b ≡ true
unfolding in_order
less_in_order a b h = ap (λ o. not (is_gt o)) h

own_order : (a : List ℕ) → in_order a a ≡ true
unfolding in_order
own_order a = turned (text_cmp a a) (nat_list_cmp_total.antisymm a a)
  where
    turned : (o : Ordering) → o ≡ ordering_reverse o → not (is_gt o) ≡ true
    turned Less h = refl
    turned Equal h = refl
    turned Greater h = let no : Greater ≡ Less = h in absurd (cc)

not_after : (a b : List ℕ) → text_cmp a b ≡ Less → in_order b a ≡ true → ⊥
unfolding in_order
not_after a b less h = true≢false (sym h ∙ ap (λ o. not (is_gt o)) (nat_list_cmp_total.antisymm b a ∙ ap ordering_reverse less))

below_at : (a : List ℕ) (names : List (List ℕ)) → IsBelow self a names → (b : List ℕ) → set.In b names → text_cmp a b ≡ Less
below_at a [] below b i = absurd i
below_at a (c ∷ names) below b (inl e) = subst (λ d. text_cmp a d ≡ Less) e below.0
below_at a (c ∷ names) below b (inr i) = below_at a names below.1 b i

module _ (entries : List Entry) (view : ElView) (of : IsElPartOf (axioms_of entries) view) where
  abbrev axioms : List Axiom
  axioms = axioms_of entries

  -- ---- which classes are empty

  empty_told : (a : List ℕ) → IsEmpty view a → is_empty axioms a ≡ true
  unfolding is_empty
  empty_told a d = told axioms view of (IsBelowClass (expr.Class a) expr.Nothing) d

  told_empty : (a : List ℕ) → is_empty axioms a ≡ true → IsEmpty view a
  unfolding is_empty
  told_empty a h = derived axioms view of (IsBelowClass (expr.Class a) expr.Nothing) h

  abbrev unsorted : List (List ℕ)
  unsorted = filter (is_empty axioms) (declared_classes axioms)

  in_empty : (a : List ℕ) → IsDeclaredClass axioms a → IsEmpty view a → set.In a (empty_classes axioms)
  unfolding empty_classes
  in_empty a d e =
      sorted_by-each self unsorted (λ x y p q same. same) a
      (In-from_contains a unsorted (contains_from_in (in_filter (is_empty axioms) (in_declared axioms a d.declared d.no_thing d.no_nothing) (empty_told a e))))

  from_empty : (a : List ℕ) → set.In a (empty_classes axioms) → IsDeclaredClass axioms a × IsEmpty view a
  unfolding empty_classes
  from_empty a i =
      let f = from_filter (is_empty axioms) (declared_classes axioms) (in_from_contains unsorted a (contains-from_In a unsorted (sorted_by-only self unsorted a i))) in
      (from_declared axioms a f.0, told_empty a f.1)

  empty_rise : Rises self (empty_classes axioms)
  unfolding empty_classes
  empty_rise = Rises-sorted_by self unsorted

  -- ---- the place of a refusal

  abbrev AreEmpty : List (List ℕ) → Type 0
  AreEmpty names = (a : List ℕ) → set.In a names → IsDeclaredClass axioms a × IsEmpty view a

  abbrev HasEmpty : List (List ℕ) → Type 0
  HasEmpty names = (a : List ℕ) → IsDeclaredClass axioms a → IsEmpty view a → set.In a names

  least_is_first : (u : ℕ) (names : List (List ℕ)) → Rises self names → AreEmpty names → HasEmpty names → IsUnsatisfiable entries view u → first_declared entries names ≡ Some u
  unfolding first_declared
  least_is_first at [] rises are has u = absurd (has u.class u.declared u.empty)
  least_is_first at (c ∷ names) rises are has u =
      let first : c ≡ u.class = ⊎_elim
      (λ e. e)
      (λ i. let mine = are c (inl refl) in absurd (not_after c u.class (below_at c names rises.0 u.class i) (u.least c mine.0 mine.1)))
      (has u.class u.declared u.empty) in
      subst (λ a. first_place (is_first entries a) entries ≡ Some at) (sym first) (found_first entries u.class at u.first)

  pub refused_at : (at : ℕ) → IsUnsatisfiable entries view at → unsatisfiable_of entries ≡ Some at
  unfolding unsatisfiable_of
  refused_at at u = least_is_first at (empty_classes axioms) empty_rise from_empty in_empty u

  first_is_least : (at : ℕ) (names : List (List ℕ)) → Rises self names → AreEmpty names → HasEmpty names → first_declared entries names ≡ Some at → IsUnsatisfiable entries view at
  unfolding first_declared
  first_is_least at [] rises are has h = let no : None ≡ Some at = h in absurd (cc)
  first_is_least at (c ∷ names) rises are has h =
      let mine = are c (inl refl) in
      record {
        class = c;
        declared = mine.0;
        empty = mine.1;
        least = λ other d e. ⊎_elim (λ is. subst (λ a. in_order c a ≡ true) is (own_order c)) (λ i. less_in_order c other (below_at c names rises.0 other i)) (has other d e);
        first = first_found entries c at h;
      }

  pub at_refused : (at : ℕ) → unsatisfiable_of entries ≡ Some at → IsUnsatisfiable entries view at
  unfolding unsatisfiable_of
  at_refused at h = first_is_least at (empty_classes axioms) empty_rise from_empty in_empty h

  -- ---- and where there is none

  none_first : (names : List (List ℕ)) → AreEmpty names → ((a : List ℕ) → IsDeclaredClass axioms a → ¬ (IsEmpty view a)) → first_declared entries names ≡ None
  unfolding first_declared
  none_first [] are full = refl
  none_first (c ∷ names) are full = let mine = are c (inl refl) in absurd (full c mine.0 mine.1)

  pub none_refused : ((a : List ℕ) → IsDeclaredClass axioms a → ¬ (IsEmpty view a)) → unsatisfiable_of entries ≡ None
  unfolding unsatisfiable_of
  none_refused full = none_first (empty_classes axioms) from_empty full

  -- a declared class has a first declaration
  has_place : (c : List ℕ) → IsDeclaredClass axioms c → first_place (is_first entries c) entries ≡ None → ⊥
  has_place c d none =
      let r = from_map (λ (e : Entry). e.axiom) entries d.declared.1 in
      let says = declared_says c r.it (ap (λ (x : Axiom). x.body) (sym r.is) ∙ d.declared.2) in
      let h = declared_first entries c r.it r.inside says in
      let no : None ≡ Some h.at = sym none ∙ h.is in absurd (cc)

  first_none : (names : List (List ℕ)) → AreEmpty names → HasEmpty names → first_declared entries names ≡ None → (a : List ℕ) → IsDeclaredClass axioms a → ¬ (IsEmpty view a)
  unfolding first_declared
  first_none [] are has h a d e = has a d e
  first_none (c ∷ names) are has h a d e = has_place c (are c (inl refl)).0 h

  pub refused_none : unsatisfiable_of entries ≡ None → (a : List ℕ) → IsDeclaredClass axioms a → ¬ (IsEmpty view a)
  unfolding unsatisfiable_of
  refused_none h = first_none (empty_classes axioms) from_empty in_empty h
