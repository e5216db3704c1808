-- Flags of declared classes and what is told of classes, axiom by axiom.
use Rattle.std.proofs.Common.{◌≡◌, ℕ, zero, suc, ◌+◌, ◌<◌, ◌≤◌, ◌↔◌, inl, inr, ⊎_elim, true, Bool, MatchBool, MatchOption, is_some, length-append, true≢false, List, [], ◌∷◌, ◌++◌, Option, None, Some, length, replicate, slice_get, slice_set, false, refl, sym, ap, subst, ◌∙◌, arith}
use Rattle.std.proofs.lemmas.Bool.{cases_eq, cases_lt}
use Rattle.std.proofs.lemmas.Option.{slice_get_within}
use Rattle.fact_rows.specs.Marks.{IsFlagged}
use Rattle.fact_rows.specs.Member.{In, here}
use Rattle.fact_rows.specs.Rows.{push_at, row}
use Rattle.fact_rows.proofs.RowLemmas.{row_at_end, row_empty, row_only, row_stays}
use Rattle.fact_rows.proofs.Members.{contains_from_in, in_from_contains, in_left, in_none, in_one, in_parts, in_right}
use Rattle.std.proofs.lemmas.List.{length-replicate}
use Rattle.fact_rows.proofs.Places.{get_push, get_push_kept, get_push_last, set_other, set_same}
use Rattle.rel_io.proofs.Options.{same_there}
use Rattle.owl_axioms.specs.declared.body.Axiom.{Axiom}
use Rattle.owl_axioms.specs.declared.expr.ClassExpr.{ClassExpr}
use Rattle.el_taxonomy.specs.inner.Numbers.{AreClasses, AreDeclared, AreTold, FlagsMore, IsNumberOf, TellsMore, declared_in, told_in}
use Rattle.el_taxonomy.proofs.Numbers.{declared_is, is_declared, is_told, told_is}
use Rattle.reduce_edges.specs.Edges.{IsEdge, edge}

-- nothing is set where there is no class, or it does not occur
pub flags_same : (exprs : List ClassExpr) (class : Option (List ℕ)) (old new : List Bool) → new ≡ old → ((a : List ℕ) → class ≡ Some a → (k : ℕ) → ¬ (IsNumberOf exprs a k)) → FlagsMore exprs class old new
flags_same exprs class old new same none = record {
  long = ap length same;
  kept = λ k h. ap (λ flags. slice_get flags k) same ∙ h;
  more = λ a is k number low. absurd (none a is k number);
  only = λ k h. inl (sym (ap (λ flags. slice_get flags k) same) ∙ h);
}

-- one axiom more
pub declared_next : (exprs : List ClassExpr) (axioms : List Axiom) (one : Axiom) (old new : List Bool) → FlagsMore exprs (declared_in one.body) old new → AreDeclared exprs axioms old → AreDeclared exprs (axioms ++ one ∷ []) new
declared_next exprs axioms one old new more are = record {
  long = more.long ∙ are.long;
  each = λ k. (
    λ flag. ⊎_elim
        (λ (h : IsFlagged old k). let d = (are.each k).0 h in (d.0, d.1, (d.2.0, in_left (one ∷ []) d.2.1, d.2.2)))
        (λ (h : (a : List ℕ) × (declared_in one.body ≡ Some a) × IsNumberOf exprs a k). (h.0, h.2, (one, in_right axioms here, declared_is one.body h.0 h.1)))
        (more.only k flag),
    λ d. ⊎_elim
        (λ (h : In d.2.0 axioms). more.kept k ((are.each k).1 (d.0, d.1, (d.2.0, h, d.2.2))))
        (λ (h : In d.2.0 (one ∷ [])). more.more d.0 (is_declared one.body d.0 (ap (λ (a : Axiom). a.body) (sym (in_one h)) ∙ d.2.2)) k d.1 (subst (λ n. k < n) (sym are.long) (slice_get_within exprs k _ d.1)))
        (in_parts axioms d.2.1),
  );
}

-- ---- what is told

pub tells_same : (exprs : List ClassExpr) (pair : Option (List ℕ × List ℕ)) (old new : List (List ℕ)) → new ≡ old → ((p : List ℕ × List ℕ) → pair ≡ Some p → (i j : ℕ) → IsNumberOf exprs p.0 i → IsNumberOf exprs p.1 j → ⊥) → TellsMore exprs pair old new
tells_same exprs pair old new same none = record {
  long = ap length same;
  kept = λ i j h. subst (λ rows. In j (row rows i)) (sym same) h;
  more = λ p is i j one other low. absurd (none p is i j one other);
  only = λ i j h. inl (subst (λ rows. In j (row rows i)) same h);
}

edge_left : (axioms : List Axiom) (one : Axiom) (sub super : List ℕ) → IsEdge axioms sub super → IsEdge (axioms ++ one ∷ []) sub super
edge_left axioms one sub super e = record { one = e.one; stands = contains_from_in (in_left (one ∷ []) (in_from_contains axioms e.one e.stands)); says = e.says }

edge_last : (axioms : List Axiom) (one : Axiom) (sub super : List ℕ) → one.body ≡ edge sub super → IsEdge (axioms ++ one ∷ []) sub super
edge_last axioms one sub super is = record { one = one; stands = contains_from_in (in_right axioms here); says = is }

pub told_next : (exprs : List ClassExpr) (axioms : List Axiom) (one : Axiom) (old new : List (List ℕ)) → TellsMore exprs (told_in one.body) old new → AreTold exprs axioms old → AreTold exprs (axioms ++ one ∷ []) new
told_next exprs axioms one old new more are = record {
  long = more.long ∙ are.long;
  each = λ i j. (
    λ h. ⊎_elim
        (λ (k : In j (row old i)). let t = (are.each i j).0 k in (t.0, t.1, t.2, t.3, edge_left axioms one t.0 t.1 t.4))
        (λ (k : (p : List ℕ × List ℕ) × (told_in one.body ≡ Some p) × IsNumberOf exprs p.0 i × IsNumberOf exprs p.1 j). (k.0.0, k.0.1, k.2, k.3, edge_last axioms one k.0.0 k.0.1 (told_is one.body k.0.0 k.0.1 k.1)))
        (more.only i j h),
    λ t. ⊎_elim
        (λ (k : In t.4.one axioms). more.kept i j ((are.each i j).1 (t.0, t.1, t.2, t.3, record { one = t.4.one; stands = contains_from_in k; says = t.4.says })))
        (λ (k : In t.4.one (one ∷ [])). more.more (t.0, t.1) (is_told one.body t.0 t.1 (ap (λ (a : Axiom). a.body) (sym (in_one k)) ∙ t.4.says)) i j t.2 t.3 (subst (λ n. i < n) (sym are.long) (slice_get_within exprs i _ t.2)))
        (in_parts axioms (in_from_contains (axioms ++ one ∷ []) t.4.one t.4.stands)),
  );
}

-- ---- one flag and one number more

set_long : {X : Type 0} (xs : List X) (k : ℕ) (x : X) → length (slice_set xs k x) ≡ length xs
set_long [] k x = refl
set_long (y ∷ xs) zero x = refl
set_long (y ∷ xs) (suc k) x = ap suc (set_long xs k x)

pub flag_set : (exprs : List ClassExpr) (class : List ℕ) (old new : List Bool) (at : ℕ) → (at < length old → new ≡ slice_set old at true) → (length old ≤ at → new ≡ old)
    → IsNumberOf exprs class at → ((k : ℕ) → IsNumberOf exprs class k → k ≡ at) → FlagsMore exprs (Some class) old new
flag_set exprs class old new at within past number only = ⊎_elim
    (λ (low : at < length old).
    let e = within low in record {
      long = ap length e ∙ set_long old at true;
      kept = λ k h. subst (λ z. IsFlagged z k) (sym e) (⊎_elim
          (λ (q : k ≡ at). subst (IsFlagged (slice_set old at true)) (sym q) (set_same old at true low))
          (λ n. set_other old at k true n ∙ h)
          (cases_eq k at));
      more = λ a is k m below.
          let one : k ≡ at = only k (subst (λ b. IsNumberOf exprs b k) (sym (same_there is)) m) in
          subst (λ z. IsFlagged z k) (sym e) (subst (IsFlagged (slice_set old at true)) (sym one) (set_same old at true low));
      only = λ k h. ⊎_elim
          (λ (q : k ≡ at). inr (class, refl, subst (IsNumberOf exprs class) (sym q) number))
          (λ n. inl (sym (set_other old at k true n) ∙ subst (λ z. IsFlagged z k) e h))
          (cases_eq k at);
    })
    (λ (high : length old ≤ at).
    let e = past high in record {
      long = ap length e;
      kept = λ k h. subst (λ z. IsFlagged z k) (sym e) h;
      more = λ a is k m below. let one : k ≡ at = only k (subst (λ b. IsNumberOf exprs b k) (sym (same_there is)) m) in absurd (omega (arith, one, below, high));
      only = λ k h. inl (subst (λ z. IsFlagged z k) e h);
    })
    (cases_lt at (length old))

-- ---- one number more in a row

pub tells_set : (exprs : List ClassExpr) (sub super : List ℕ) (old new : List (List ℕ)) (lower upper : ℕ) → (lower < length old → new ≡ push_at old lower upper) → (length old ≤ lower → new ≡ old)
    → IsNumberOf exprs sub lower → IsNumberOf exprs super upper → ((k : ℕ) → IsNumberOf exprs sub k → k ≡ lower) → ((k : ℕ) → IsNumberOf exprs super k → k ≡ upper)
    → (let p : List ℕ × List ℕ = (sub, super) in TellsMore exprs (Some p) old new)
tells_set exprs sub super old new lower upper within past one other only_one only_other = ⊎_elim
    (λ (low : lower < length old).
    let e = within low in record {
      long = ap length e ∙ set_long old lower (row old lower ++ upper ∷ []);
      kept = row_stays old new lower upper low e;
      more = λ p is i j first second below.
          let x : i ≡ lower = only_one i (subst (λ (q : List ℕ × List ℕ). IsNumberOf exprs q.0 i) (sym (same_there is)) first) in
          let y : j ≡ upper = only_other j (subst (λ (q : List ℕ × List ℕ). IsNumberOf exprs q.1 j) (sym (same_there is)) second) in
          subst (λ k. In j (row new k)) (sym x) (subst (λ k. In k (row new lower)) (sym y) (row_at_end old new lower upper low e));
      only = λ i j h. ⊎_elim
          (λ (k : In j (row old i)). inl k)
          (λ (k : (i ≡ lower) × (j ≡ upper)). inr ((sub, super), refl, subst (IsNumberOf exprs sub) (sym k.0) one, subst (IsNumberOf exprs super) (sym k.1) other))
          (row_only old new lower upper low e i j h);
    })
    (λ (high : length old ≤ lower).
    let e = past high in record {
      long = ap length e;
      kept = λ i j h. subst (λ rows. In j (row rows i)) (sym e) h;
      more = λ p is i j first second below. let x : i ≡ lower = only_one i (subst (λ (q : List ℕ × List ℕ). IsNumberOf exprs q.0 i) (sym (same_there is)) first) in absurd (omega (arith, x, below, high));
      only = λ i j h. inl (subst (λ rows. In j (row rows i)) e h);
    })
    (cases_lt lower (length old))

pub none_told : (exprs : List ClassExpr) (told : List (List ℕ)) (n : ℕ) → told ≡ replicate n [] → n ≡ length exprs → AreTold exprs [] told
none_told exprs told n is long = record {
  long = ap length is ∙ length-replicate n [] ∙ long;
  each = λ i j. (
    λ h. in_none (subst (In j) (row_empty n i) (subst (λ rows. In j (row rows i)) is h)),
    λ t. in_none (in_from_contains [] t.4.one t.4.stands),
  );
}

-- ---- flags of all classes, number by number

-- those of the numbers before one
pub record AreClassesTo (exprs : List ClassExpr) (count : ℕ) (flags : List Bool) : Type 0 where
  pub long : length flags ≡ count
  pub each : (k : ℕ) → k < count → IsFlagged flags k ↔ (class : List ℕ) × IsNumberOf exprs class k

-- the flag says whether the number is that of a class
abbrev pub TellsClass : List ClassExpr → ℕ → Bool → Type 0
TellsClass exprs k flag = MatchBool flag ((class : List ℕ) × IsNumberOf exprs class k) ((class : List ℕ) → ¬ (IsNumberOf exprs class k))

pub tells_class : {X : Type 0} (exprs : List ClassExpr) (k : ℕ) (found : Option X) (flag : Bool) (name : X → List ℕ) → flag ≡ is_some found
    → MatchOption found ((class : List ℕ) → ¬ (IsNumberOf exprs class k)) (λ x. IsNumberOf exprs (name x) k) → TellsClass exprs k flag
tells_class exprs k None flag name is told = subst (TellsClass exprs k) (sym is) told
tells_class exprs k (Some x) flag name is told = subst (TellsClass exprs k) (sym is) (name x, told)

flag_there : (exprs : List ClassExpr) (k : ℕ) (flag : Bool) → TellsClass exprs k flag → (flag ≡ true) ↔ (class : List ℕ) × IsNumberOf exprs class k
flag_there exprs k true told = (λ _. told, λ _. refl)
flag_there exprs k false told = (λ h. absurd (true≢false (sym h)), λ c. absurd (told c.0 c.1))

pub class_next : (exprs : List ClassExpr) (n : ℕ) (flags : List Bool) (flag : Bool) → AreClassesTo exprs n flags → TellsClass exprs n flag → AreClassesTo exprs (n + 1) (flags ++ flag ∷ [])
class_next exprs n flags flag are told = record {
  long = omega (arith, length-append flags (flag ∷ []), are.long);
  each = λ k low. ⊎_elim
      (λ (l : k < n).
      let both = are.each k l in (
        λ h. ⊎_elim
            (λ (g : IsFlagged flags k). both.0 g)
            (λ (g : (k ≡ length flags) × (true ≡ flag)). let e = g.0 in let long = are.long in absurd (omega (arith, e, long, l)))
            (get_push flags flag true k h),
        λ c. get_push_kept flags flag true k (both.1 c),
      ))
      (λ (high : n ≤ k).
      let e : k ≡ length flags = let long = are.long in omega (arith, low, high, long) in
      let here : k ≡ n = e ∙ are.long in
      let both = flag_there exprs n flag told in
      let last = get_push_last flags flag in (
        λ h. subst (λ m. (class : List ℕ) × IsNumberOf exprs class m) (sym here) (both.0 (same_there (sym last ∙ ap (slice_get (flags ++ flag ∷ [])) (sym e) ∙ h))),
        λ c. ap (slice_get (flags ++ flag ∷ [])) e ∙ last ∙ ap Some (both.1 (subst (λ m. (class : List ℕ) × IsNumberOf exprs class m) here c)),
      ))
      (cases_lt k n);
}

pub all_classes : (exprs : List ClassExpr) (n : ℕ) (flags : List Bool) → n ≡ length exprs → AreClassesTo exprs n flags → AreClasses exprs flags
all_classes exprs n flags is are = record {
  long = are.long ∙ is;
  each = λ k. (
    λ h. (are.each k (subst (λ m. k < m) are.long (slice_get_within flags k true h))).0 h,
    λ c. (are.each k (subst (λ m. k < m) (sym is) (slice_get_within exprs k _ c.1))).1 c,
  );
}
