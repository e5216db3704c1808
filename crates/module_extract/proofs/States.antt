-- While a module grows: a test, a list that is taken, and the end.
use Rattle.std.proofs.Common.{◌≡◌, ℕ, zero, suc, ◌+◌, ◌<◌, ◌≤◌, ◌⊎◌, ◌&&◌, ◌||◌, Bool, true, false, not, cond, List, [], ◌∷◌, ◌++◌, Contains, Some, inl, inr, drop, get_or, length, slice_get, slice_set, refl, sym, ap, subst, ◌∙◌, true≢false, arith}
use Rattle.std.specs.List.{list_all}
use Rattle.fact_rows.specs.Member.{In, here, there}
use Rattle.fact_rows.proofs.Members.{by_bool, in_cons, in_left, in_none, in_parts, in_right}
use Rattle.name_lists.proofs.ListLemmas.{long_more}
use Rattle.name_lists.specs.Lists.{HasNumber, NamedState}
use Rattle.owl_axioms.proofs.Listed.{here as first_in, in_listed, later as later_in}
use Rattle.owl_axioms.proofs.Signatures.{scope_added}
use Rattle.owl_axioms.specs.Names.{Scope, body_names, covers, has_meaning, listed}
use Rattle.owl_axioms.specs.Signature.{scope_of}
use Rattle.owl_axioms.specs.declared.body.Axiom.{Axiom}
use Rattle.owl_axioms.specs.declared.body.Body.{Body}
use Rattle.owl_axioms.specs.declared.body.Body.TheVariants as body
use Rattle.owl_axioms.specs.declared.expr.ClassExpr.{ClassExpr}
use Rattle.owl_axioms.specs.declared.name.Name.{Name}
use Rattle.owl_sem.specs.Models.{is_logical}
use Rattle.rel_io.proofs.Options.{none_there, same_there}
use Rattle.locality_core.specs.declared.plain.Plain.{Plain}
use Rattle.locality_tables.proofs.LocalDepends.{local_depends}
use Rattle.locality_tables.specs.Laws.{same_of}
use Rattle.locality_tables.specs.Local.{is_local, local_by}
use Rattle.locality_tables.specs.declared.fills.ClassFill.{ClassFill}
use Rattle.locality_tables.specs.declared.fills.RoleFill.{RoleFill}
use Rattle.module_extract.proofs.Fronts.{sum_more}
use Rattle.module_extract.proofs.Telling.{either_true}
use Rattle.module_extract.proofs.Turns.{joins, same_test}
use Rattle.module_extract.specs.Module.{Fills, IsModule}
use Rattle.module_extract.specs.inner.Front.{Entered, FrontState, IsDue, IsFront, IsState, IsTested, lists_left, tests_left, waiting_sum}
use Rattle.module_extract.specs.inner.Setting.{IsSetting, IsWork}
use Rattle.module_extract.specs.inner.Work.{IsGrowing, tests_local}

pub in_read : (xs : List ℕ) (i d : ℕ) → i < length xs → In (get_or xs i d) xs
in_read [] i d l = absurd (omega (arith, l))
in_read (x ∷ xs) zero d l = here
in_read (x ∷ xs) (suc i) d l = there (in_read xs i d (omega (arith, l)))

drop_suc : (xs : List ℕ) (i d : ℕ) → i < length xs → drop i xs ≡ get_or xs i d ∷ drop (suc i) xs
drop_suc [] i d l = absurd (omega (arith, l))
drop_suc (x ∷ xs) zero d l = refl
drop_suc (x ∷ xs) (suc i) d l = drop_suc xs i d (omega (arith, l))

pub drop_next : (xs : List ℕ) (i d : ℕ) → i < length xs → drop i xs ≡ get_or xs i d ∷ drop (i + 1) xs
drop_next xs i d l = let e : suc i ≡ i + 1 = omega arith in drop_suc xs i d l ∙ ap (λ k. get_or xs i d ∷ drop k xs) e

pub drop_all : (xs : List ℕ) (i : ℕ) → length xs ≤ i → drop i xs ≡ []
drop_all [] zero l = refl
drop_all [] (suc i) l = refl
drop_all (x ∷ xs) zero l = absurd (omega (arith, l))
drop_all (x ∷ xs) (suc i) l = drop_all xs i (omega (arith, l))

-- ---- what changes the test of an axiom

-- a name of the list that fails the test
fails : (s : Scope) (ns : List Name) → covers s ns ≡ false → (n : Name) × Contains ns n × (s n.kind n.iri ≡ false)
unfolding covers
fails s [] h = absurd (true≢false h)
fails s (n ∷ ns) h = by_bool (s n.kind n.iri)
    (λ (t : s n.kind n.iri ≡ true). let r = fails s ns (sym (ap (λ b. b && list_all (λ m. s m.kind m.iri) ns) t) ∙ h) in (r.0, later_in n r.0 ns r.1, r.2))
    (λ (t : s n.kind n.iri ≡ false). (n, first_in n ns, t))

module _ (k : Fills) (axioms : List Axiom) (part : List Bool) (trees : List ClassExpr) (plains : List Plain) (table : NamedState) (all : List ℕ) (setting : IsSetting axioms part trees plains table all)
    (ns : List Name) (f g : FrontState) (e : Entered table ns f g) (i : ℕ) (a : Axiom) (at_is : slice_get axioms i ≡ Some a) (work : IsWork axioms part i) where
  scope_more : (n : Name) → scope_of g.names n.kind n.iri ≡ (scope_of f.names n.kind n.iri || (has_meaning n.kind && listed ns n.kind n.iri))
  scope_more n = ap (λ s. scope_of s n.kind n.iri) e.names_are ∙ scope_added f.names ns n.kind n.iri

  told_apart : (x y z : Bool) → y ≡ (x || z) → cond x y (not y) ≡ false → (x ≡ false) × (z ≡ true)
  told_apart true y z h t = absurd (true≢false (sym h ∙ t))
  told_apart false y true h t = (refl, refl)
  told_apart false y false h t = absurd (true≢false (sym (ap not h) ∙ t))

  due_by : (n : Name) → Contains (body_names a.body) n → (scope_of f.names n.kind n.iri ≡ false) × ((has_meaning n.kind && listed ns n.kind n.iri) ≡ true) → (s : ℕ) × In s g.waiting × In i (get_or table.lists s [])
  due_by n c (out, new) =
      either_true false (has_meaning n.kind) (listed ns n.kind n.iri) new (λ z. absurd (true≢false (sym z)))
      (λ m l. in_listed_at l m (setting.told i a n at_is work c m))
    where
      in_listed_at : listed ns n.kind n.iri ≡ true → has_meaning n.kind ≡ true → HasNumber table n i → (s : ℕ) × In s g.waiting × In i (get_or table.lists s [])
      in_listed_at l m (s, at, h) = (s, e.waits n s (contained l) m out at, h)
        where
          contained : listed ns n.kind n.iri ≡ true → Contains ns n
          contained l2 = in_listed ns n.kind n.iri l2 (λ q c2 ke ie. subst (Contains ns) (λ j. record { kind = ke j; iri = ie j }) c2)

  pub test_kept : tests_local k f.names a ≡ true → (tests_local k g.names a ≡ true) ⊎ ((s : ℕ) × In s g.waiting × In i (get_or table.lists s []))
  test_kept h = by_bool (covers (same_of (scope_of f.names) (scope_of g.names)) (body_names a.body))
      (λ (t : covers (same_of (scope_of f.names) (scope_of g.names)) (body_names a.body) ≡ true). inl (sym (local_depends k.classes k.roles (scope_of f.names) (scope_of g.names) a.body t) ∙ h))
      (λ (t : covers (same_of (scope_of f.names) (scope_of g.names)) (body_names a.body) ≡ false).
      let r = fails (same_of (scope_of f.names) (scope_of g.names)) (body_names a.body) t in
      inr (due_by r.0 r.1 (told_apart (scope_of f.names r.0.kind r.0.iri) (scope_of g.names r.0.kind r.0.iri) (has_meaning r.0.kind && listed ns r.0.kind r.0.iri) (scope_more r.0) r.2)))

-- what is not logical is local
always_local : (classes : ClassFill) (roles : RoleFill) (s : Scope) (b : Body) → is_logical b ≡ false → is_local classes roles s b ≡ true
unfolding is_local local_by is_logical
always_local classes roles s (body.Declaration name) h = refl
always_local classes roles s (body.Note subject property value) h = refl
always_local classes roles s (body.OntologyNote property value) h = refl
always_local classes roles s (body.Sub c d) h = absurd (true≢false h)
always_local classes roles s (body.Equiv c d) h = absurd (true≢false h)
always_local classes roles s (body.Disjoint c d) h = absurd (true≢false h)
always_local classes roles s (body.SubRole q r) h = absurd (true≢false h)
always_local classes roles s (body.Chain q r t) h = absurd (true≢false h)
always_local classes roles s (body.EquivRoles q r) h = absurd (true≢false h)
always_local classes roles s (body.DisjointRoles q r) h = absurd (true≢false h)
always_local classes roles s (body.Inverse q r) h = absurd (true≢false h)
always_local classes roles s (body.Transitive r) h = absurd (true≢false h)
always_local classes roles s (body.Reflexive r) h = absurd (true≢false h)
always_local classes roles s (body.Symmetric r) h = absurd (true≢false h)
always_local classes roles s (body.Asymmetric r) h = absurd (true≢false h)
always_local classes roles s (body.Functional r) h = absurd (true≢false h)
always_local classes roles s (body.InverseFunctional r) h = absurd (true≢false h)
always_local classes roles s (body.Domain r c) h = absurd (true≢false h)
always_local classes roles s (body.Range r c) h = absurd (true≢false h)
always_local classes roles s (body.ClassAssertion c a) h = absurd (true≢false h)
always_local classes roles s (body.RoleAssertion r a b) h = absurd (true≢false h)

-- ---- one test

set_off : (flags : List Bool) (at i : ℕ) → slice_get (slice_set flags at true) i ≡ Some false → (i ≡ at → ⊥) × (slice_get flags i ≡ Some false)
set_off [] at i h = absurd (none_there h)
set_off (f ∷ flags) zero zero h = absurd (true≢false (same_there h))
set_off (f ∷ flags) zero (suc i) h = (λ e. omega (arith, e), h)
set_off (f ∷ flags) (suc at) zero h = (λ e. omega (arith, e), h)
set_off (f ∷ flags) (suc at) (suc i) h = let r = set_off flags at i h in (λ e. r.0 (let d : i ≡ at = omega (arith, e) in d), r.1)

module _ (k : Fills) (axioms : List Axiom) (part : List Bool) (seed : Scope) (trees : List ClassExpr) (plains : List Plain) (table : NamedState) (all : List ℕ) (setting : IsSetting axioms part trees plains table all) where
  pub first_state : (kept : List Bool) (f : FrontState) → IsGrowing k axioms part seed kept f.names → IsFront k trees table f → IsState k axioms part seed trees table all kept f
  first_state kept f g front = record { growing = g; front = front; settled = λ i a is of' logical off. inr (inl (setting.listed i (a, is, of', logical))) }

  module _ (at : ℕ) (work : IsWork axioms part at) (rest : List ℕ) (kept : List Bool) (f : FrontState) (s : IsState k axioms part seed trees table (at ∷ rest) kept f) where
    turned : (kept' : List Bool) (f' : FrontState) (b : Bool) → IsTested k axioms trees table at kept f kept' f' b → IsState k axioms part seed trees table rest kept' f'
    turned kept' f' true (x, at_is, off, outer, kept_is, front', e) = subst (λ fs. IsState k axioms part seed trees table rest fs f') (sym kept_is) (record {
      growing =
          let of' : slice_get part at ≡ Some true = work.2 in
          subst (IsGrowing k axioms part seed (slice_set kept at true)) (sym e.names_are) (joins k axioms part seed kept f.names at x s.growing at_is of' off outer);
      front = front';
      settled = λ i a is of' logical h. let r = set_off kept at i h in after i a is of' logical r.0 (s.settled i a is of' logical r.1);
    })
      where
        after : (i : ℕ) (a : Axiom) → slice_get axioms i ≡ Some a → slice_get part i ≡ Some true → is_logical a.body ≡ true → (i ≡ at → ⊥) → (tests_local k f.names a ≡ true) ⊎ IsDue table.lists (at ∷ rest) f.waiting i
            → (tests_local k f'.names a ≡ true) ⊎ IsDue table.lists rest f'.waiting i
        after i a is of' logical apart (inl t) = elim (test_kept k axioms part trees plains table all setting (body_names x.body) f f' e i a is (a, is, of', logical) t) [
          | inl u ↦ inl u
          | inr d ↦ inr (inr d)
        ]
        after i a is of' logical apart (inr (inl m)) = elim (in_cons m) [
          | inl same ↦ absurd (apart same)
          | inr z ↦ inr (inl z)
        ]
        after i a is of' logical apart (inr (inr (d, w, m))) = inr (inr (d, e.stays d w, m))
    turned kept' f' false (kept_is, f_is, told) = subst (λ fs. IsState k axioms part seed trees table rest fs f') (sym kept_is) (subst (λ z. IsState k axioms part seed trees table rest kept z) (sym f_is) (record {
      growing = s.growing;
      front = s.front;
      settled = λ i a is of' logical off. elim (s.settled i a is of' logical off) [
        | inl t ↦ inl t
        | inr (inr d) ↦ inr (inr d)
        | inr (inl m) ↦ elim (in_cons m) [
          | inl same ↦ inl (told a (subst (λ j. slice_get axioms j ≡ Some a) same is) (subst (λ j. slice_get kept j ≡ Some false) same off))
          | inr z ↦ inr (inl z)
        ]
      ];
    }))

    pub one_test : (kept' : List Bool) (f' : FrontState) (b : Bool) → IsTested k axioms trees table at kept f kept' f' b → IsState k axioms part seed trees table rest kept' f'
    one_test = turned

  pub tests_same : (at : ℕ) (kept : List Bool) (f : FrontState) (kept' : List Bool) (f' : FrontState) (b : Bool) → IsTested k axioms trees table at kept f kept' f' b → tests_left table f' ≡ tests_left table f
  tests_same at kept f kept' f' true (x, at_is, off, outer, kept_is, front', e) = e.tests
  tests_same at kept f kept' f' false (kept_is, f_is, told) = ap (tests_left table) f_is

  pub lists_same : (at : ℕ) (kept : List Bool) (f : FrontState) (kept' : List Bool) (f' : FrontState) (b : Bool) → IsTested k axioms trees table at kept f kept' f' b → lists_left f' ≡ lists_left f
  lists_same at kept f kept' f' true (x, at_is, off, outer, kept_is, front', e) = e.lists
  lists_same at kept f kept' f' false (kept_is, f_is, told) = ap lists_left f_is

  -- ---- a list is taken

  module _ (kept : List Bool) (f g : FrontState) (at : ℕ) (waiting_is : f.waiting ≡ g.waiting ++ at ∷ []) (rest_is : g ≡ record f { waiting = g.waiting }) where
    pub taken_tests : tests_left table f ≡ tests_left table g + length (get_or table.lists at [])
    taken_tests =
        let a = ap (waiting_sum table.lists) waiting_is in
        let b = sum_more table.lists g.waiting at in
        let c = ap (λ (h : FrontState). tests_left table h) rest_is in
        omega (arith, a, b, c)

    pub taken_lists : lists_left f ≡ lists_left g + 1
    taken_lists =
        let a = ap length waiting_is in
        let b = long_more g.waiting at in
        let c = ap (λ (h : FrontState). lists_left h) rest_is in
        omega (arith, a, b, c)

    pub taken_within : IsFront k trees table f → at < length table.lists
    taken_within front = front.waits at (subst (λ ws. In at ws) (sym waiting_is) (in_right g.waiting here))

    pub taken : IsState k axioms part seed trees table [] kept f → IsState k axioms part seed trees table (get_or table.lists at []) kept g
    taken s = subst (λ z. IsState k axioms part seed trees table (get_or table.lists at []) kept z) (sym rest_is) (record {
      growing = s.growing;
      front = record { stand = s.front.stand; long = s.front.long; entered = s.front.entered; waits = λ r w. s.front.waits r (subst (λ ws. In r ws) (sym waiting_is) (in_left (at ∷ []) w)) };
      settled = λ i a is of' logical off. due i a (s.settled i a is of' logical off);
    })
      where
        due : (i : ℕ) (a : Axiom) → (tests_local k f.names a ≡ true) ⊎ IsDue table.lists [] f.waiting i → (tests_local k f.names a ≡ true) ⊎ IsDue table.lists (get_or table.lists at []) g.waiting i
        due i a (inl t) = inl t
        due i a (inr (inl m)) = in_none m
        due i a (inr (inr (d, w, m))) = elim (in_parts g.waiting (subst (λ ws. In d ws) waiting_is w)) [
          | inl z ↦ inr (inr (d, z, m))
          | inr z ↦ elim (in_cons z) [
            | inl same ↦ inr (inl (subst (λ j. In i (get_or table.lists j [])) same m))
            | inr y ↦ in_none y
          ]
        ]

  -- ---- the end

  pub ended : (kept : List Bool) (f : FrontState) → f.waiting ≡ [] → IsState k axioms part seed trees table [] kept f → IsModule k axioms part seed kept
  ended kept f none s = record {
    closed = record {
      same_length = s.growing.same_length;
      is_part = s.growing.is_part;
      outside = λ i a is of' off. sym (same_test k axioms part seed kept f.names s.growing a) ∙ by_bool (is_logical a.body)
          (λ (t : is_logical a.body ≡ true). settled_test i a (s.settled i a is of' t off))
          (λ (t : is_logical a.body ≡ false). not_logical a.body t);
    };
    least = s.growing.least;
  }
    where
      settled_test : (i : ℕ) (a : Axiom) → (tests_local k f.names a ≡ true) ⊎ IsDue table.lists [] f.waiting i → tests_local k f.names a ≡ true
      settled_test i a (inl t) = t
      settled_test i a (inr (inl m)) = in_none m
      settled_test i a (inr (inr (d, w, m))) = in_none (subst (λ ws. In d ws) none w)

      not_logical : (b : Body) → is_logical b ≡ false → is_local k.classes k.roles (scope_of f.names) b ≡ true
      not_logical b h = always_local k.classes k.roles (scope_of f.names) b h
