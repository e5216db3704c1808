-- The places of axioms in the lists of their names.
use Rattle.std.proofs.Common.{◌≡◌, ℕ, zero, suc, ◌+◌, ◌<◌, ◌≤◌, ◌⊎◌, ◌&&◌, ◌||◌, Bool, true, false, not, cond, if◌then◌else◌, List, [], ◌∷◌, ◌++◌, Contains, Some, inl, inr, get_or, length, slice_get, take, refl, sym, ap, subst, ◌∙◌, add-one, true≢false, arith}
use Rattle.std.proofs.lemmas.Bool.{cases_lt}
use Rattle.std.specs.Str.{bytes_eq}
use Rattle.fact_rows.specs.Member.{In, here}
use Rattle.fact_rows.proofs.Members.{in_cons, in_left, in_none, in_parts, in_right}
use Rattle.name_lists.proofs.ListLemmas.{long_more}
use Rattle.name_lists.proofs.NamedLemmas.{added_counts, added_from, added_has, added_keeps, names_tell}
use Rattle.name_lists.specs.Lists.{HasNumber, NamedState, number_count, same_name}
use Rattle.expr_pool.proofs.Lists.{get_grown}
use Rattle.expr_pool.specs.Pool.{Grew}
use Rattle.expr_pool.specs.declared.cell.Node.{Node}
use Rattle.owl_axioms.proofs.Adding.{take_suc}
use Rattle.owl_axioms.proofs.Listed.{listed_in}
use Rattle.owl_axioms.proofs.Signatures.{scope_added}
use Rattle.owl_axioms.specs.Names.{body_names, has_meaning, listed}
use Rattle.owl_axioms.specs.Signature.{SigState, add_name, added, has_text, name_count, no_names, scope_of, with_text}
use Rattle.owl_axioms.specs.contracts.name.KindPartialEq.TheImpl as kind_eq
use Rattle.owl_axioms.specs.declared.body.Axiom.{Axiom}
use Rattle.owl_axioms.specs.declared.body.Body.{Body}
use Rattle.owl_axioms.specs.declared.body.Body.TheVariants as body
use Rattle.owl_axioms.specs.declared.expr.ClassExpr.{ClassExpr}
use Rattle.owl_axioms.specs.declared.name.Kind.{Kind}
use Rattle.owl_axioms.specs.declared.name.Kind.TheVariants as kind
use Rattle.owl_axioms.specs.declared.name.Name.{Name}
use Rattle.owl_sem.specs.Models.{is_logical}
use Rattle.rel_io.proofs.Options.{none_there, same_there}
use Rattle.locality_core.specs.Plain.{AreNodesOf, IsNodeIn, IsPlainOf}
use Rattle.locality_core.specs.declared.plain.Plain.{Plain}
use Rattle.locality_core.specs.declared.plain.Plain.TheVariants as plain
use Rattle.module_extract.proofs.Weights.{weigh_next}
use Rattle.module_extract.specs.Tests.{names_number}
use Rattle.module_extract.specs.inner.Setting.{HasPlain, IsSetting, IsSettingTo, IsStep, IsTold, IsToldOne, IsWork, is_new, once, weigh}

-- ---- one name more

text_count : (ts : List (List ℕ)) (t : List ℕ) → length (with_text ts t) ≡ length ts + (if not (has_text ts t) then 1 else 0)
text_count ts t = by (has_text ts t)
  where
    by : (b : Bool) → length (cond b ts (ts ++ t ∷ [])) ≡ length ts + (if not b then 1 else 0)
    by true = omega arith
    by false = long_more ts t

pub count_added : (s : SigState) (n : Name) → name_count (add_name s n.kind n.iri) ≡ name_count s + (if is_new s n then 1 else 0)
count_added s n = by n.kind
  where
    by : (k : Kind) → name_count (add_name s k n.iri) ≡ name_count s + (if has_meaning k && not (scope_of s k n.iri) then 1 else 0)
    by kind.Class = let e = text_count s.classes n.iri in omega (arith, e)
    by kind.Role = let e = text_count s.roles n.iri in omega (arith, e)
    by kind.Individual = let e = text_count s.individuals n.iri in omega (arith, e)
    by kind.AnnotationProperty = omega arith

-- the names of a signature with one more
pub scope_one : (s : SigState) (n : Name) (k : Kind) (a : List ℕ) → scope_of (add_name s n.kind n.iri) k a ≡ (scope_of s k a || (has_meaning k && (kind_eq.ghosts.eq n.kind k && bytes_eq n.iri a)))
unfolding added listed
scope_one s n k a = scope_added s (n ∷ []) k a ∙ ap (λ b. scope_of s k a || (has_meaning k && b)) (or_none (kind_eq.ghosts.eq n.kind k && bytes_eq n.iri a))
  where
    or_none : (b : Bool) → (b || false) ≡ b
    or_none true = refl
    or_none false = refl

pub either_true : {P : Type 0} (x m y : Bool) → (x || (m && y)) ≡ true → (x ≡ true → P) → (m ≡ true → y ≡ true → P) → P
either_true true m y h is other = is refl
either_true false true y h is other = other refl h
either_true false false y h is other = absurd (true≢false (sym h))

old_name : (s : SigState) (n : Name) → is_new s n ≡ false → has_meaning n.kind ≡ true → scope_of s n.kind n.iri ≡ true
old_name s n h m = by (scope_of s n.kind n.iri) (sym (ap (λ b. b && not (scope_of s n.kind n.iri)) m) ∙ h)
  where
    by : (b : Bool) → (true && not b) ≡ false → b ≡ true
    by true e = refl
    by false e = absurd (true≢false e)

pub told_none : (old : NamedState) (at : ℕ) (seen : SigState) → seen ≡ no_names → IsTold old [] at seen old
unfolding added
told_none old at seen is = record {
  seen_are = is;
  has = λ n h. absurd (true≢false (sym h ∙ ap (λ s. scope_of s n.kind n.iri) is ∙ nothing n.kind n.iri));
  kept = λ n i h. h;
  from = λ s i h. inl h;
  count = let e = ap name_count is in omega (arith, e);
}
  where
    nothing : (k : Kind) (a : List ℕ) → scope_of no_names k a ≡ false
    nothing kind.Class a = refl
    nothing kind.Role a = refl
    nothing kind.Individual a = refl
    nothing kind.AnnotationProperty a = refl

added_more : (s : SigState) (ns : List Name) (n : Name) → added s (ns ++ n ∷ []) ≡ add_name (added s ns) n.kind n.iri
unfolding added
added_more s [] n = refl
added_more s (m ∷ ns) n = added_more (add_name s m.kind m.iri) ns n

module _ (old : NamedState) (ns : List Name) (at : ℕ) (seen : SigState) (mid : NamedState) (t : IsTold old ns at seen mid) (name : Name) (seen' : SigState) (new : NamedState) where
  names_seen : seen' ≡ add_name seen name.kind name.iri → seen' ≡ added no_names (ns ++ name ∷ [])
  names_seen is = is ∙ ap (λ s. add_name s name.kind name.iri) t.seen_are ∙ sym (added_more no_names ns name)

  in_scope : seen' ≡ add_name seen name.kind name.iri → (n : Name) → scope_of seen' n.kind n.iri ≡ true → (scope_of seen n.kind n.iri || (has_meaning n.kind && same_name name n)) ≡ true
  in_scope is n h = sym (ap (λ s. scope_of s n.kind n.iri) is ∙ scope_one seen name n.kind n.iri) ∙ h

  counted : seen' ≡ add_name seen name.kind name.iri → name_count seen' ≡ name_count seen + (if is_new seen name then 1 else 0)
  counted is = ap name_count is ∙ count_added seen name

  told_more : IsToldOne mid seen name at seen' new → IsTold old (ns ++ name ∷ []) at seen' new
  told_more (is, inl (fresh, have, a)) = record {
    seen_are = names_seen is;
    has = λ n h. either_true (scope_of seen n.kind n.iri) (has_meaning n.kind) (same_name name n) (in_scope is n h)
        (λ k. added_keeps mid have name at new a n at (t.has n k))
        (λ m k. subst (λ q. HasNumber new q at) (names_tell name n k) (added_has mid have name at new a));
    kept = λ n i h. added_keeps mid have name at new a n i (t.kept n i h);
    from = λ s i h. elim (added_from mid have name at new a s i h) [
      | inl k ↦ t.from s i k
      | inr e ↦ inr e
    ];
    count = let a1 = added_counts mid have name at new a in let b1 = t.count in let c1 = counted is ∙ ap (λ b. name_count seen + (if b then 1 else 0)) fresh in omega (arith, a1, b1, c1);
  }
  told_more (is, inr (known, same)) = subst (λ s. IsTold old (ns ++ name ∷ []) at seen' s) (sym same) (record {
    seen_are = names_seen is;
    has = λ n h. either_true (scope_of seen n.kind n.iri) (has_meaning n.kind) (same_name name n) (in_scope is n h)
        (λ k. t.has n k)
        (λ m k. let e : name ≡ n = names_tell name n k in subst (λ q. HasNumber mid q at) e (t.has name (old_name seen name known (subst (λ q. has_meaning q.kind ≡ true) (sym e) m))));
    kept = t.kept;
    from = t.from;
    count = let b1 = t.count in let c1 = counted is ∙ ap (λ b. name_count seen + (if b then 1 else 0)) known in omega (arith, b1, c1);
  })

pub told_next : (old : NamedState) (ns : List Name) (k : ℕ) (at : ℕ) (seen : SigState) (mid : NamedState) (name : Name) (seen' : SigState) (new : NamedState)
    → IsTold old (take k ns) at seen mid → slice_get ns k ≡ Some name → IsToldOne mid seen name at seen' new → IsTold old (take (k + 1) ns) at seen' new
told_next old ns k at seen mid name seen' new t h one =
    subst (λ ms. IsTold old ms at seen' new) (sym (ap (λ m. take m ns) (add-one k) ∙ take_suc ns k name h)) (told_more old (take k ns) at seen mid t name seen' new one)

take_all : {X : Type 0} (xs : List X) (k : ℕ) → length xs ≤ k → take k xs ≡ xs
take_all [] zero h = refl
take_all [] (suc k) h = refl
take_all (x ∷ xs) zero h = absurd (omega (arith, h))
take_all (x ∷ xs) (suc k) h = ap (λ ys. x ∷ ys) (take_all xs k (omega (arith, h)))

pub told_all : (old : NamedState) (ns ms : List Name) (k at : ℕ) (seen : SigState) (new : NamedState) → length ns ≤ k → ns ≡ ms → IsTold old (take k ns) at seen new → IsTold old ms at (added no_names ms) new
told_all old ns ms k at seen new l is t =
    let all : take k ns ≡ ms = take_all ns k l ∙ is in
    subst (λ s. IsTold old ms at s new) (t.seen_are ∙ ap (added no_names) all) (subst (λ xs. IsTold old xs at seen new) all t)

-- ---- the nodes of axioms stay while the pool grows

pair_more : (ts us : List ClassExpr) → Grew ts us → (b : Body) (of : ClassExpr → ClassExpr → Body) (m n : Node) → AreNodesOf ts m n of b → AreNodesOf us m n of b
pair_more ts us g b of m n (c, d, is, h, k) = (c, d, is, get_grown ts us m.place c g h, get_grown ts us n.place d g k)

one_more : (ts us : List ClassExpr) → Grew ts us → (b : Body) (of : ClassExpr → Body) (n : Node) → IsNodeIn ts n of b → IsNodeIn us n of b
one_more ts us g b of n (c, is, h) = (c, is, get_grown ts us n.place c g h)

pub plain_more : (ts us : List ClassExpr) → Grew ts us → (b : Body) (p : Plain) → IsPlainOf ts b p → IsPlainOf us b p
plain_more ts us g b (plain.Sub m n) h = pair_more ts us g b (λ c d. body.Sub c d) m n h
plain_more ts us g b (plain.Equiv m n) h = pair_more ts us g b (λ c d. body.Equiv c d) m n h
plain_more ts us g b (plain.Disjoint m n) h = pair_more ts us g b (λ c d. body.Disjoint c d) m n h
plain_more ts us g b (plain.Domain r n) h = one_more ts us g b (λ c. body.Domain r c) n h
plain_more ts us g b (plain.Range r n) h = one_more ts us g b (λ c. body.Range r c) n h
plain_more ts us g b (plain.ClassAssertion n a) h = one_more ts us g b (λ c. body.ClassAssertion c a) n h
plain_more ts us g b plain.Other h = h

-- ---- one axiom more

pub within_all : (axioms : List Axiom) (i : ℕ) (a : Axiom) → slice_get axioms i ≡ Some a → i < length axioms
within_all [] i a h = absurd (none_there h)
within_all (x ∷ axioms) zero a h = omega arith
within_all (x ∷ axioms) (suc i) a h = let l = within_all axioms i a h in omega (arith, l)

pub setting_none : (axioms : List Axiom) (part : List Bool) (trees : List ClassExpr) (plains : List Plain) (table : NamedState) (all : List ℕ) → plains ≡ [] → table.lists ≡ [] → all ≡ [] → IsSettingTo axioms part 0 trees plains table all
setting_none axioms part trees plains table all p t l = record {
  plain = λ i a w. absurd (omega (arith, w));
  told = λ i a n w. absurd (omega (arith, w));
  works = λ s i h. in_none (subst (λ ls. In i (get_or ls s [])) t h);
  listed = λ i w. absurd (omega (arith, w));
  listed_works = λ i h. in_none (subst (λ xs. In i xs) l h);
  within = omega arith;
  many = ap length p;
  axioms_count = ap length l;
  names_count = ap number_count t;
}

get_last : {X : Type 0} (xs : List X) (x : X) (n : ℕ) → length xs ≡ n → slice_get (xs ++ x ∷ []) n ≡ Some x
get_last [] x zero e = refl
get_last [] x (suc n) e = absurd (omega (arith, e))
get_last (y ∷ xs) x zero e = absurd (omega (arith, e))
get_last (y ∷ xs) x (suc n) e = get_last xs x n (omega (arith, e))

get_first : {X : Type 0} (xs : List X) (x y : X) (i : ℕ) → slice_get xs i ≡ Some y → slice_get (xs ++ x ∷ []) i ≡ Some y
get_first [] x y i h = absurd (none_there h)
get_first (z ∷ xs) x y zero h = h
get_first (z ∷ xs) x y (suc i) h = get_first xs x y i h

module _ (axioms : List Axiom) (part : List Bool) (to : ℕ) (a : Axiom) (f : Bool) (at_is : slice_get axioms to ≡ Some a) (part_is : slice_get part to ≡ Some f)
    (trees : List ClassExpr) (plains : List Plain) (table : NamedState) (all : List ℕ) (s : IsSettingTo axioms part to trees plains table all) where
  last : (i : ℕ) → i < to + 1 → to ≤ i → to ≡ i
  last i l h = omega (arith, l, h)

  -- it is none of the part's logical ones
  no_work : (f && is_logical a.body) ≡ false → (i : ℕ) → to ≡ i → IsWork axioms part i → ⊥
  no_work h i e (b, is, of', logical) =
      let same : a ≡ b = same_there (sym at_is ∙ ap (slice_get axioms) e ∙ is) in
      let flag : f ≡ true = same_there (sym part_is ∙ ap (slice_get part) e ∙ of') in
      true≢false (sym ((λ j. flag j && is_logical (same j).body) ∙ logical) ∙ h)

  pub skipped : (f && is_logical a.body) ≡ false → IsSettingTo axioms part (to + 1) trees (plains ++ plain.Other ∷ []) table all
  skipped h = record {
    plain = λ i b l is w. elim (cases_lt i to) [
      | inl less ↦ let p = s.plain i b less is w in (p.0, get_first plains plain.Other p.0 i p.1, p.2)
      | inr more ↦ absurd (no_work h i (last i l more) w)
    ];
    told = λ i b n l is w. elim (cases_lt i to) [
      | inl less ↦ s.told i b n less is w
      | inr more ↦ absurd (no_work h i (last i l more) w)
    ];
    works = s.works;
    listed = λ i l w. elim (cases_lt i to) [
      | inl less ↦ s.listed i less w
      | inr more ↦ absurd (no_work h i (last i l more) w)
    ];
    listed_works = s.listed_works;
    within = let l = within_all axioms to a at_is in omega (arith, l);
    many = long_more plains plain.Other ∙ ap (λ n. n + 1) s.many;
    axioms_count = let e = weigh_next once part axioms to f a part_is at_is ∙ ap (λ b. weigh once (take to part) (take to axioms) + (if b then 1 else 0)) h in let d = s.axioms_count in omega (arith, d, e);
    names_count = let e = weigh_next names_number part axioms to f a part_is at_is ∙ ap (λ b. weigh names_number (take to part) (take to axioms) + (if b then names_number a else 0)) h in let d = s.names_count in omega (arith, d, e);
  }

  module _ (is_of : (f && is_logical a.body) ≡ true) (trees' : List ClassExpr) (grew : Grew trees trees') (p : Plain) (p_is : IsPlainOf trees' a.body p) (table' : NamedState) (t : IsTold table (body_names a.body) to (added no_names (body_names a.body)) table') where
    flag_true : (x y : Bool) → (x && y) ≡ true → x ≡ true
    flag_true true y h = refl
    flag_true false y h = absurd (true≢false (sym h))

    other_true : (x y : Bool) → (x && y) ≡ true → y ≡ true
    other_true true y h = h
    other_true false y h = absurd (true≢false (sym h))

    work : IsWork axioms part to
    work = (a, at_is, part_is ∙ ap Some (flag_true f (is_logical a.body) is_of), other_true f (is_logical a.body) is_of)

    plain_at : (i : ℕ) (b : Axiom) → slice_get axioms i ≡ Some b → (i < to) ⊎ (to ≤ i) → i < to + 1 → IsWork axioms part i → HasPlain trees' (plains ++ p ∷ []) i b.body
    plain_at i b is (inl less) l w = let q = s.plain i b less is w in (q.0, get_first plains p q.0 i q.1, plain_more trees trees' grew b.body q.0 q.2)
    plain_at i b is (inr more) l w =
        let e : to ≡ i = last i l more in
        let same : a ≡ b = same_there (sym at_is ∙ ap (slice_get axioms) e ∙ is) in
        (p, get_last plains p i (s.many ∙ e), subst (λ x. IsPlainOf trees' x.body p) same p_is)

    told_at : (i : ℕ) (b : Axiom) (n : Name) → slice_get axioms i ≡ Some b → (i < to) ⊎ (to ≤ i) → i < to + 1 → IsWork axioms part i → Contains (body_names b.body) n → has_meaning n.kind ≡ true → HasNumber table' n i
    told_at i b n is (inl less) l w k m = t.kept n i (s.told i b n less is w k m)
    told_at i b n is (inr more) l w k m =
        let e : to ≡ i = last i l more in
        let same : a ≡ b = same_there (sym at_is ∙ ap (slice_get axioms) e ∙ is) in
        subst (λ j. HasNumber table' n j) e (t.has n (is_there (body_names a.body) n m (subst (λ x. Contains (body_names x.body) n) (sym same) k)))
      where
        or_true : (x y : Bool) → y ≡ true → (x || y) ≡ true
        or_true true y h = refl
        or_true false y h = h

        is_there : (ns : List Name) (n : Name) → has_meaning n.kind ≡ true → Contains ns n → scope_of (added no_names ns) n.kind n.iri ≡ true
        is_there ns n m k = scope_added no_names ns n.kind n.iri ∙ or_true (scope_of no_names n.kind n.iri) (has_meaning n.kind && listed ns n.kind n.iri) (λ i. m i && listed_in ns n k i)

    pub joined : IsSettingTo axioms part (to + 1) trees' (plains ++ p ∷ []) table' (all ++ to ∷ [])
    joined = record {
      plain = λ i b l is w. plain_at i b is (cases_lt i to) l w;
      told = λ i b n l is w k m. told_at i b n is (cases_lt i to) l w k m;
      works = λ r i h. elim (t.from r i h) [
        | inl k ↦ s.works r i k
        | inr e ↦ subst (λ j. IsWork axioms part j) (sym e) work
      ];
      listed = λ i l w. elim (cases_lt i to) [
        | inl less ↦ in_left (to ∷ []) (s.listed i less w)
        | inr more ↦ in_right all (subst (λ j. In i (j ∷ [])) (sym (last i l more)) here)
      ];
      listed_works = λ i h. elim (in_parts all h) [
        | inl k ↦ s.listed_works i k
        | inr k ↦ elim (in_cons k) [
          | inl e ↦ subst (λ j. IsWork axioms part j) (sym e) work
          | inr z ↦ in_none z
        ]
      ];
      within = let l = within_all axioms to a at_is in omega (arith, l);
      many = long_more plains p ∙ ap (λ n. n + 1) s.many;
      axioms_count = let e = weigh_next once part axioms to f a part_is at_is ∙ ap (λ b. weigh once (take to part) (take to axioms) + (if b then 1 else 0)) is_of in let d = s.axioms_count in let c = long_more all to in omega (arith, d, e, c);
      names_count = let e = weigh_next names_number part axioms to f a part_is at_is ∙ ap (λ b. weigh names_number (take to part) (take to axioms) + (if b then names_number a else 0)) is_of in let d = s.names_count in let c = t.count in omega (arith, d, e, c);
    }

pub setting_next : (axioms : List Axiom) (part : List Bool) (to : ℕ) (a : Axiom) (f of' : Bool) → slice_get axioms to ≡ Some a → slice_get part to ≡ Some f → of' ≡ (f && is_logical a.body)
    → (trees : List ClassExpr) (plains : List Plain) (table : NamedState) (all : List ℕ) → IsSettingTo axioms part to trees plains table all
    → (trees' : List ClassExpr) (plains' : List Plain) (table' : NamedState) (all' : List ℕ) → IsStep of' to a.body trees plains table all trees' plains' table' all' → IsSettingTo axioms part (to + 1) trees' plains' table' all'
setting_next axioms part to a f true at_is part_is is trees plains table all s trees' plains' table' all' (grew, (p, plains_are, p_is), t, all_is) =
    subst (λ ps. IsSettingTo axioms part (to + 1) trees' ps table' all') (sym plains_are) (subst (λ xs. IsSettingTo axioms part (to + 1) trees' (plains ++ p ∷ []) table' xs) (sym all_is)
    (joined axioms part to a f at_is part_is trees plains table all s (sym is) trees' grew p p_is table' t))
setting_next axioms part to a f false at_is part_is is trees plains table all s trees' plains' table' all' (trees_are, plains_are, table_is, all_is) =
    subst (λ ts. IsSettingTo axioms part (to + 1) ts plains' table' all') (sym trees_are) (subst (λ ps. IsSettingTo axioms part (to + 1) trees ps table' all') (sym plains_are)
    (subst (λ x. IsSettingTo axioms part (to + 1) trees (plains ++ plain.Other ∷ []) x all') (sym table_is) (subst (λ xs. IsSettingTo axioms part (to + 1) trees (plains ++ plain.Other ∷ []) table xs) (sym all_is)
    (skipped axioms part to a f at_is part_is trees plains table all s (sym is)))))

pub setting_all : (axioms : List Axiom) (part : List Bool) (trees : List ClassExpr) (plains : List Plain) (table : NamedState) (all : List ℕ) (to : ℕ) → length axioms ≤ to → length part ≤ to → IsSettingTo axioms part to trees plains table all → IsSetting axioms part trees plains table all
setting_all axioms part trees plains table all to l m s =
    let a_is = take_all axioms to l in
    let p_is = take_all part to m in
    let e : to ≡ length axioms = let w = s.within in omega (arith, l, w) in
    record {
      plain = λ i a is w. let n = within_all axioms i a is in s.plain i a (omega (arith, n, l)) is w;
      told = λ i a n is w. let k = within_all axioms i a is in s.told i a n (omega (arith, k, l)) is w;
      works = s.works;
      listed = λ i w. let n = within_all axioms i w.0 w.1 in s.listed i (omega (arith, n, l)) w;
      listed_works = s.listed_works;
      many = s.many ∙ e;
      axioms_count = s.axioms_count ∙ (λ i. weigh once (p_is i) (a_is i));
      names_count = s.names_count ∙ (λ i. weigh names_number (p_is i) (a_is i));
    }
