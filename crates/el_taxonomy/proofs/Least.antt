-- The least declaration of an empty class, an entry more.
use Rattle.std.proofs.Common.{◌≡◌, ℕ, ◌+◌, ◌<◌, ◌≤◌, ◌⊎◌, Bool, true, false, List, Option, None, Some, slice_get, inl, inr, ⊎_elim, refl, sym, ap, subst, ◌∙◌, arith, true≢false}
use Rattle.std.specs.Prelude.{if◌then◌else◌}
use Rattle.std.specs.Cmp.{IsStrictWeakOrder, IsTotalOrder}
use Rattle.std.specs.Option.{option_map}
use Rattle.std.proofs.lemmas.Bool.{cases_lt}
use Rattle.std.proofs.lemmas.Cmp.{nat_cmp_total, nat_list_cmp_total, on_total, then_total}
use Rattle.std.proofs.lemmas.List.MinMax.{ranks_by}
use Rattle.std.proofs.lemmas.Option.{slice_get-map}
use Rattle.fact_rows.proofs.Members.{by_bool}
use Rattle.rel_io.proofs.Options.{same_there}
use Rattle.owl_axioms.specs.declared.body.Axiom.{Axiom}
use Rattle.owl_ontology.specs.Ontology.{Entry, axioms_of}
use Rattle.el_part.specs.Part.{PartState}
use Rattle.el_saturate.specs.Table.{Facts}
use Rattle.el_taxonomy.specs.inner.Least.{Declared, DeclaresEmpty, IsDeclaredAt, IsEmptyAt, IsFound, IsLeastAt, declared_cmp, is_lesser}
use Rattle.el_taxonomy.specs.inner.Numbers.{declared_in}
use Rattle.el_taxonomy.proofs.Numbers.{from_map_at}

-- ---- the order of declarations

declared_total : IsTotalOrder declared_cmp
declared_total =
    then_total (on_total (λ (d : Declared). d.class) nat_list_cmp_total)
    (then_total (on_total (λ (d : Declared). d.origin.file) nat_cmp_total) (on_total (λ (d : Declared). d.origin.line) nat_cmp_total))

declared_order : IsStrictWeakOrder is_lesser
declared_order = ranks_by declared_total (λ (d : Declared). d)

not_itself : (d : Declared) → is_lesser d d ≡ false
not_itself d = by_bool (is_lesser d d) (λ less. declared_order.one_way d d less) (λ isnt. isnt)

pub lesser_no_more : (one other : Declared) → one ≡ other → is_lesser one other ≡ false
lesser_no_more one other same = subst (λ d. is_lesser d other ≡ false) (sym same) (not_itself other)

-- ---- entries

same_declared : (entries : List Entry) (at : ℕ) (one other : Declared) → IsDeclaredAt entries at one → IsDeclaredAt entries at other → one ≡ other
same_declared entries at one other here there =
    let e : here.entry ≡ there.entry = same_there (sym here.found ∙ there.found) in
    let class : one.class ≡ other.class = same_there (sym here.class ∙ ap (λ (x : Entry). declared_in x.axiom.body) e ∙ there.class) in
    let origin : one.origin ≡ other.origin = sym here.origin ∙ ap (λ (x : Entry). x.origin) e ∙ there.origin in
    λ i. record { class = class i; origin = origin i }

-- the axiom of an entry, and the entry of an axiom
pub axiom_at : (entries : List Entry) (at : ℕ) (e : Entry) → slice_get entries at ≡ Some e → slice_get (axioms_of entries) at ≡ Some e.axiom
axiom_at entries at e is = slice_get-map (λ (x : Entry). x.axiom) entries at ∙ ap (option_map (λ (x : Entry). x.axiom)) is

pub entry_at : (entries : List Entry) (at : ℕ) (a : Axiom) → slice_get (axioms_of entries) at ≡ Some a → (e : Entry) × (slice_get entries at ≡ Some e) × (e.axiom ≡ a)
entry_at entries at a is = from_map_at (λ (x : Entry). x.axiom) entries at a is

module _ (entries : List Entry) (part : PartState) (table : Facts) where
  abbrev EmptyAt : ℕ → Declared → Type 0
  EmptyAt at one = IsEmptyAt entries part table at one

  pub empty_there : (at : ℕ) (a : Axiom) → slice_get (axioms_of entries) at ≡ Some a → DeclaresEmpty part table (declared_in a.body) → (one : Declared) × EmptyAt at one
  empty_there at a is empty =
      let e = entry_at entries at a is in
      let one : Declared = record { class = empty.0; origin = e.0.origin } in
      (one, record { declared = record { entry = e.0; found = e.1; class = ap (λ (x : Axiom). declared_in x.body) e.2 ∙ empty.1; origin = refl }; empty = empty.2 })

  pub there_empty : (at : ℕ) (a : Axiom) (one : Declared) → slice_get (axioms_of entries) at ≡ Some a → EmptyAt at one → DeclaresEmpty part table (declared_in a.body)
  there_empty at a one is empty =
      let d = empty.declared in
      let same : a ≡ d.entry.axiom = same_there (sym is ∙ axiom_at entries at d.entry d.found) in
      (one.class, ap (λ (x : Axiom). declared_in x.body) same ∙ d.class, empty.empty)

  up_to : (i at : ℕ) → i < at + 1 → (i < at) ⊎ (i ≡ at)
  up_to i at low = ⊎_elim (λ (l : i < at). inl l) (λ (h : at ≤ i). inr (omega (arith, low, h))) (cases_lt i at)

  same_at : (at i : ℕ) (one other : Declared) → EmptyAt at one → EmptyAt i other → i ≡ at → other ≡ one
  same_at at i one other here there e = same_declared entries at other one (subst (λ k. IsDeclaredAt entries k other) e there.declared) here.declared

  -- what declares no empty class changes nothing
  pub skips : (at : ℕ) (found : Option ℕ) → ((d : Declared) → EmptyAt at d → ⊥) → IsFound entries part table at found → IsFound entries part table (at + 1) found
  skips at None isnt found = λ i other low empty. ⊎_elim
      (λ (l : i < at). found i other l empty)
      (λ (e : i ≡ at). isnt other (subst (λ k. EmptyAt k other) e empty))
      (up_to i at low)
  skips at (Some k) isnt found = record {
    one = found.one;
    within = let w = found.within in omega (arith, w);
    is = found.is;
    least = λ i other low empty. ⊎_elim
        (λ (l : i < at). found.least i other l empty)
        (λ (e : i ≡ at). absurd (isnt other (subst (λ k. EmptyAt k other) e empty)))
        (up_to i at low);
    first = λ i other low empty tie. ⊎_elim
        (λ (l : i < at). found.first i other l empty tie)
        (λ (e : i ≡ at). absurd (isnt other (subst (λ k. EmptyAt k other) e empty)))
        (up_to i at low);
  }

  -- the first one
  pub starts : (at : ℕ) (d : Declared) → EmptyAt at d → ((i : ℕ) (other : Declared) → i < at → EmptyAt i other → ⊥) → IsLeastAt entries part table (at + 1) at
  starts at d is none = record {
    one = d;
    within = omega arith;
    is = is;
    least = λ i other low empty. ⊎_elim
        (λ (l : i < at). absurd (none i other l empty))
        (λ (e : i ≡ at). lesser_no_more other d (same_at at i d other is empty e))
        (up_to i at low);
    first = λ i other low empty tie. ⊎_elim
        (λ (l : i < at). absurd (none i other l empty))
        (λ (e : i ≡ at). let s : at ≤ i = omega (arith, e) in s)
        (up_to i at low);
  }

  -- a lesser one, and one that is not lesser
  takes : (at before : ℕ) (d : Declared) → EmptyAt at d → (found : IsLeastAt entries part table at before) → is_lesser d found.one ≡ true → IsLeastAt entries part table (at + 1) at
  takes at before d is found less = record {
    one = d;
    within = omega arith;
    is = is;
    least = λ i other low empty. ⊎_elim
        (λ (l : i < at). declared_order.chain other found.one d (found.least i other l empty) (declared_order.one_way d found.one less))
        (λ (e : i ≡ at). lesser_no_more other d (same_at at i d other is empty e))
        (up_to i at low);
    first = λ i other low empty tie. ⊎_elim
        (λ (l : i < at). absurd (true≢false (sym less ∙ declared_order.chain d other found.one tie (found.least i other l empty))))
        (λ (e : i ≡ at). let s : at ≤ i = omega (arith, e) in s)
        (up_to i at low);
  }

  keeps : (at before : ℕ) (d : Declared) → EmptyAt at d → (found : IsLeastAt entries part table at before) → is_lesser d found.one ≡ false → IsLeastAt entries part table (at + 1) before
  keeps at before d is found more = record {
    one = found.one;
    within = let w = found.within in omega (arith, w);
    is = found.is;
    least = λ i other low empty. ⊎_elim
        (λ (l : i < at). found.least i other l empty)
        (λ (e : i ≡ at). subst (λ x. is_lesser x found.one ≡ false) (sym (same_at at i d other is empty e)) more)
        (up_to i at low);
    first = λ i other low empty tie. ⊎_elim
        (λ (l : i < at). found.first i other l empty tie)
        (λ (e : i ≡ at). let w = found.within in let s : before ≤ i = omega (arith, e, w) in s)
        (up_to i at low);
  }

  pub chooses : (at before chosen : ℕ) (d : Declared) → EmptyAt at d → (found : IsLeastAt entries part table at before) → chosen ≡ (if is_lesser d found.one then at else before) → IsLeastAt entries part table (at + 1) chosen
  chooses at before chosen d is found e = by_bool (is_lesser d found.one)
      (λ less. subst (IsLeastAt entries part table (at + 1)) (sym (e ∙ ap (λ (b : Bool). if b then at else before) less)) (takes at before d is found less))
      (λ more. subst (IsLeastAt entries part table (at + 1)) (sym (e ∙ ap (λ (b : Bool). if b then at else before) more)) (keeps at before d is found more))
