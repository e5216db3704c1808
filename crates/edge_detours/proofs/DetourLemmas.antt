-- What is pushed and marked in a walk, and why the marks of a walk are detours.
use Rattle.std.proofs.Common.{◌≡◌, ◌≢◌, ℕ, zero, suc, ◌+◌, ◌<◌, ◌≤◌, ◌==◌, true, false, List, [], ◌∷◌, ◌++◌, slice_get, slice_set, Some, refl, sym, ap, subst, ◌∙◌, arith, ◌⊎◌, ⊎_elim, inl, inr, length-append, append_assoc, append-nil, length-set}
use Rattle.std.proofs.lemmas.Bool.{cases_eq, eqb-true, eq-eqb}
use Rattle.edge_detours.specs.inner.Detours.{unmarked, Pushes, IsGoing, AreBegun, MarksDetours}
use Rattle.edge_detours.specs.inner.Rows.{Rows, Walk, rest, along, IsRising}
use Rattle.fact_rows.proofs.Members.{in_left, in_right, in_none, in_parts, by_bool, in_one}
use Rattle.fact_rows.specs.Marks.{IsMarked}
use Rattle.fact_rows.specs.Member.{In, here}
use Rattle.fact_rows.specs.Rows.{row}
use Rattle.fact_rows.proofs.Places.{set_same, set_other, get_inside}
use Rattle.fact_rows.proofs.MarkLemmas.{mark_kept}

is_not : (m k : ℕ) → m ≢ k → (m == k) ≡ false
is_not m k n = by_bool (m == k) (λ e. absurd (n (eqb-true m k e))) (λ e. e)

unmarked_set : (k : ℕ) (ms : List ℕ) (x m : ℕ) → slice_get ms x ≡ Some m → m ≢ k → unmarked k (slice_set ms x k) + 1 ≡ unmarked k ms
unmarked_set k [] x m h n = cc
unmarked_set k (o ∷ ms) zero m h n =
    let e : o ≡ m = cc in
    let off : (o == k) ≡ false = is_not o k (λ s. n (sym e ∙ s)) in
    let on : (k == k) ≡ true = eq-eqb k k refl in
    rw (off, on) (omega arith)
unmarked_set k (o ∷ ms) (suc x) m h n = omega (arith, unmarked_set k ms x m h n)

module _ {low high k : ℕ} where
  pub pushes_none : (old stack : List ℕ) → Pushes [] low high k old old stack stack
  pushes_none old stack = record {
    added = [];
    stack = sym (append-nil stack);
    from = λ x i. in_none i;
    above = λ x i. in_none i;
    marked = λ x i. in_none i;
    kept = λ x h. h;
    only = λ s x h. inl h;
    each = λ x i j. in_none j;
    count = omega arith;
    long = refl;
  }

  pub pushes_skip : (old stack : List ℕ) (c i : ℕ) → (low ≤ c → c ≤ high → IsMarked old k c) → Pushes ((c, i) ∷ []) low high k old old stack stack
  pushes_skip old stack c i f = record {
    added = [];
    stack = sym (append-nil stack);
    from = λ x j. in_none j;
    above = λ x j. in_none j;
    marked = λ x j. in_none j;
    kept = λ x h. h;
    only = λ s x h. inl h;
    each = λ x j m l r. let e : x ≡ c = ap (λ (p : ℕ × ℕ). p.0) (in_one m) in subst (IsMarked old k) (sym e) (f (subst (λ z. low ≤ z) e l) (subst (λ z. z ≤ high) e r));
    count = omega arith;
    long = refl;
  }

  pub pushes_new : (old stack : List ℕ) (c i m : ℕ) → low ≤ c → slice_get old c ≡ Some m → m ≢ k → Pushes ((c, i) ∷ []) low high k old (slice_set old c k) stack (stack ++ c ∷ [])
  pushes_new old stack c i m l h n = record {
    added = c ∷ [];
    stack = refl;
    from = λ x j. (i, subst (λ (z : ℕ). In {A = ℕ × ℕ} (z, i) ((c, i) ∷ [])) (sym (in_one j)) here);
    above = λ x j. subst (λ z. low ≤ z) (sym (in_one j)) l;
    marked = λ x j. subst (IsMarked (slice_set old c k) k) (sym (in_one j)) (set_same old c k (get_inside old c m h));
    kept = λ x g. mark_kept old (slice_set old c k) k c x refl (get_inside old c m h) g;
    only = λ s x g. ⊎_elim
        (λ (e : x ≡ c).
        let a : Some s ≡ Some k = sym (subst (λ z. slice_get (slice_set old c k) z ≡ Some s) e g) ∙ set_same old c k (get_inside old c m h) in
        let b : s ≡ k = cc in inr (b, subst (λ z. In z (c ∷ [])) (sym e) here))
        (λ o. inl (sym (set_other old c x k o) ∙ g))
        (cases_eq x c);
    each = λ x j p q r. let e : x ≡ c = ap (λ (p : ℕ × ℕ). p.0) (in_one p) in subst (IsMarked (slice_set old c k) k) (sym e) (set_same old c k (get_inside old c m h));
    count = omega (arith, unmarked_set k old c m h n);
    long = length-set old c k;
  }

  pub pushes_more : {ts us : List (ℕ × ℕ)} {old mid new before between after : List ℕ} → Pushes ts low high k old mid before between → Pushes us low high k mid new between after → Pushes (ts ++ us) low high k old new before after
  pushes_more {ts} {us} {old} {mid} {new} {before} {between} {after} p q = record {
    added = p.added ++ q.added;
    stack = q.stack ∙ ap (λ s. s ++ q.added) p.stack ∙ append_assoc before p.added q.added;
    from = λ x i. ⊎_elim (λ j. let f = p.from x j in (f.0, in_left us f.1)) (λ j. let f = q.from x j in (f.0, in_right ts f.1)) (in_parts p.added i);
    above = λ x i. ⊎_elim (λ j. p.above x j) (λ j. q.above x j) (in_parts p.added i);
    marked = λ x i. ⊎_elim (λ j. q.kept x (p.marked x j)) (λ j. q.marked x j) (in_parts p.added i);
    kept = λ x h. q.kept x (p.kept x h);
    only = λ s x h. ⊎_elim
        (λ g. ⊎_elim inl (λ (e : (s ≡ k) × In x p.added). inr (e.0, in_left q.added e.1)) (p.only s x g))
        (λ (e : (s ≡ k) × In x q.added). inr (e.0, in_right p.added e.1))
        (q.only s x h);
    each = λ x i j l r. ⊎_elim (λ g. q.kept x (p.each x i g l r)) (λ g. q.each x i g l r) (in_parts ts j);
    count = omega (arith, p.count, q.count, length-append p.added q.added);
    long = q.long ∙ p.long;
  }

-- a walk and one edge more
pub walk_on : {rows : Rows} {a b c i : ℕ} → Walk rows a b → In (c, i) (row rows b) → Walk rows a c
walk_on rest e = along e rest
walk_on (along f w) e = along f (walk_on w e)

pub walk_join : {rows : Rows} {a b c : ℕ} → Walk rows a b → Walk rows b c → Walk rows a c
walk_join rest v = v
walk_join (along f w) v = along f (walk_join w v)

pub walk_rises : {rows : Rows} → IsRising rows → {a b : ℕ} → Walk rows a b → a ≤ b
walk_rises r rest = omega arith
walk_rises r (along {a} {b} {c} {i} e w) = omega (arith, r a b i e, walk_rises r w)

module _ (rows : Rows) (k high : ℕ) where
  -- before the first
  pub going_none : (old : List ℕ) → ((x : ℕ) → IsMarked old k x → ⊥) → IsGoing rows k high old old []
  going_none old clear = record {
    long = refl;
    sound = λ x h. absurd (clear x h);
    others = λ s x h. inr h;
    waits = λ x i. in_none i;
    closed = λ x h. absurd (clear x h);
  }

  -- the second edges of one first edge
  pub going_first : {old mid new before after : List ℕ} (d i : ℕ) → In (d, i) (row rows k) → k < d → IsGoing rows k high old mid before → Pushes (row rows d) (d + 1) high k mid new before after → IsGoing rows k high old new after
  going_first {old} {mid} {new} {before} {after} d i out up g p = record {
    long = p.long ∙ g.long;
    sound = λ x h. ⊎_elim (λ o. g.sound x o)
        (λ (e : (k ≡ k) × In x p.added). let f = p.from x e.1 in record { first = d; second = x; place = i; next_place = f.0; out = out; up = up; on = f.1; further = (let u = p.above x e.1 in omega arith); to = rest })
        (p.only k x h);
    others = λ s x h. ⊎_elim (λ o. g.others s x o) (λ (e : (s ≡ k) × In x p.added). inl e.0) (p.only s x h);
    waits = λ x j. ⊎_elim (λ o. p.kept x (g.waits x o)) (λ o. p.marked x o) (in_parts before (subst (In x) p.stack j));
    closed = λ x h. ⊎_elim
        (λ o. ⊎_elim (λ w. inl (subst (In x) (sym p.stack) (in_left p.added w))) (λ f. inr (λ y j e l r. p.kept y (f y j e l r))) (g.closed x o))
        (λ (e : (k ≡ k) × In x p.added). inl (subst (In x) (sym p.stack) (in_right before e.1)))
        (p.only k x h);
  }

  -- the edges of a node that waited
  pub going_next : {old mid new before after : List ℕ} (z : ℕ) → IsGoing rows k high old mid (before ++ z ∷ []) → Pushes (row rows z) z high k mid new before after → IsGoing rows k high old new after
  going_next {old} {mid} {new} {before} {after} z g p = record {
    long = p.long ∙ g.long;
    sound = λ x h. ⊎_elim (λ o. g.sound x o)
        (λ (e : (k ≡ k) × In x p.added). let f = p.from x e.1 in let d = g.sound z (g.waits z (in_right before here)) in record { first = d.first; second = d.second; place = d.place; next_place = d.next_place; out = d.out; up = d.up; on = d.on; further = d.further; to = walk_on d.to f.1 })
        (p.only k x h);
    others = λ s x h. ⊎_elim (λ o. g.others s x o) (λ (e : (s ≡ k) × In x p.added). inl e.0) (p.only s x h);
    waits = λ x j. ⊎_elim (λ o. p.kept x (g.waits x (in_left (z ∷ []) o))) (λ o. p.marked x o) (in_parts before (subst (In x) p.stack j));
    closed = λ x h. ⊎_elim
        (λ o. ⊎_elim
        (λ w. ⊎_elim
        (λ v. inl (subst (In x) (sym p.stack) (in_left p.added v)))
        (λ v. inr (λ y j e l r. p.each y j (subst (λ n. In (y, j) (row rows n)) (in_one v) e) (let w : z < y = subst (λ n. n < y) (in_one v) l in omega arith) r))
        (in_parts before w))
        (λ f. inr (λ y j e l r. p.kept y (f y j e l r)))
        (g.closed x o))
        (λ (e : (k ≡ k) × In x p.added). inl (subst (In x) (sym p.stack) (in_right before e.1)))
        (p.only k x h);
  }

  -- where nothing waits, all that is led to is marked
  pub all_walked : IsRising rows → {old new : List ℕ} → IsGoing rows k high old new [] → (x y : ℕ) → IsMarked new k x → Walk rows x y → y ≤ high → IsMarked new k y
  all_walked up g x y h rest l = h
  all_walked up {old} {new} g x y h (along {a} {b} {c} {i} e w) l =
      let m : IsMarked new k b = ⊎_elim
      (λ (s : x ≡ b). subst (IsMarked new k) s h)
      (λ n. ⊎_elim (λ v. in_none v) (λ f. f b i e (let r = up x b i e in omega arith) (let v = walk_rises up w in omega arith)) (g.closed x h))
      (cases_eq x b) in
      all_walked up g b y m w l

  -- where nothing waits
  pub marks : IsRising rows → (old new : List ℕ) → ((c i : ℕ) → In (c, i) (row rows k) → c ≤ high) → AreBegun rows k high (row rows k) new → IsGoing rows k high old new [] → MarksDetours rows k old new
  marks up old new top b g = record {
    sound = g.sound;
    each = λ c i m d.
        let l = top c i m in
        let far = walk_rises up d.to in
        let low = d.further in
        ⊎_elim
        (λ h. all_walked up g d.first c h (along d.on d.to) l)
        (λ f. all_walked up g d.second c (f d.second d.next_place d.on d.further (omega arith)) d.to l)
        (b d.first d.place d.out d.up (omega arith));
    others = g.others;
  }

  -- where all targets but the least are marked
  pub marks_over : IsRising rows → (low : ℕ) (old new stack : List ℕ) → ((c i : ℕ) → In (c, i) (row rows k) → k < c → low ≤ c) → ((c i : ℕ) → In (c, i) (row rows k) → low < c → IsMarked new k c) → IsGoing rows k high old new stack → MarksDetours rows k old new
  marks_over up low old new stack least all g = record {
    sound = g.sound;
    each = λ c i m d.
        let far = walk_rises up d.to in
        let l = least d.first d.place d.out d.up in
        let further = d.further in
        all c i m (omega arith);
    others = g.others;
  }

abbrev pub AreUpTo : List (ℕ × ℕ) → ℕ → Type 0
AreUpTo ts high = (c i : ℕ) → In (c, i) ts → c ≤ high

pub up_to_more : (ts : List (ℕ × ℕ)) (x : ℕ × ℕ) (old new : ℕ) → AreUpTo ts old → old ≤ new → x.0 ≤ new → AreUpTo (ts ++ x ∷ []) new
up_to_more ts x old new a l r = λ c i j. ⊎_elim
    (λ k. let b = a c i k in omega arith)
    (λ k. let e : c ≡ x.0 = ap (λ (p : ℕ × ℕ). p.0) (in_one k) in omega arith)
    (in_parts ts j)

pub begun_more : (rows : Rows) (k high : ℕ) (ts : List (ℕ × ℕ)) (x : ℕ × ℕ) (old new : List ℕ) → AreBegun rows k high ts old → ((y : ℕ) → IsMarked old k y → IsMarked new k y)
    → (k < x.0 → x.0 < high → IsMarked new k x.0 ⊎ ((e j : ℕ) → In (e, j) (row rows x.0) → x.0 < e → e ≤ high → IsMarked new k e)) → AreBegun rows k high (ts ++ x ∷ []) new
begun_more rows k high ts x old new b kept f = λ d i m up top. ⊎_elim
    (λ n. ⊎_elim (λ h. inl (kept d h)) (λ g. inr (λ e j o l r. kept e (g e j o l r))) (b d i n up top))
    (λ n. let s : d ≡ x.0 = ap (λ (p : ℕ × ℕ). p.0) (in_one n) in
    subst (λ z. IsMarked new k z ⊎ ((e j : ℕ) → In (e, j) (row rows z) → z < e → e ≤ high → IsMarked new k e)) (sym s) (f (subst (λ z. k < z) s up) (subst (λ z. z < high) s top)))
    (in_parts ts m)

pub begun_kept : (rows : Rows) (k high : ℕ) (ts : List (ℕ × ℕ)) (old new : List ℕ) → ((y : ℕ) → IsMarked old k y → IsMarked new k y) → AreBegun rows k high ts old → AreBegun rows k high ts new
begun_kept rows k high ts old new kept b = λ d i m up top. ⊎_elim (λ h. inl (kept d h)) (λ g. inr (λ e j o l r. kept e (g e j o l r))) (b d i m up top)

pub begun_none : (rows : Rows) (k high : ℕ) (old : List ℕ) → AreBegun rows k high [] old
begun_none rows k high old = λ d i m. in_none m

abbrev pub AreFrom : List (ℕ × ℕ) → ℕ → ℕ → Type 0
AreFrom ts k low = (c i : ℕ) → In (c, i) ts → k < c → low ≤ c

pub from_more : (ts : List (ℕ × ℕ)) (x : ℕ × ℕ) (k old new : ℕ) → AreFrom ts k old → new ≤ old → (k < x.0 → new ≤ x.0) → AreFrom (ts ++ x ∷ []) k new
from_more ts x k old new a l f = λ c i m up. ⊎_elim
    (λ n. let b = a c i n up in omega arith)
    (λ n. let e : c ≡ x.0 = ap (λ (p : ℕ × ℕ). p.0) (in_one n) in let b = f (subst (λ z. k < z) e up) in omega arith)
    (in_parts ts m)

abbrev pub AreAllMarked : List (ℕ × ℕ) → ℕ → ℕ → List ℕ → Type 0
AreAllMarked ts low k marks = (c i : ℕ) → In (c, i) ts → low < c → IsMarked marks k c

pub marked_more : (ts : List (ℕ × ℕ)) (x : ℕ × ℕ) (low k : ℕ) (marks : List ℕ) → AreAllMarked ts low k marks → (low < x.0 → IsMarked marks k x.0) → AreAllMarked (ts ++ x ∷ []) low k marks
marked_more ts x low k marks a f = λ c i m l. ⊎_elim
    (λ n. a c i n l)
    (λ n. let e : c ≡ x.0 = ap (λ (p : ℕ × ℕ). p.0) (in_one n) in subst (IsMarked marks k) (sym e) (f (subst (λ z. low < z) e l)))
    (in_parts ts m)
