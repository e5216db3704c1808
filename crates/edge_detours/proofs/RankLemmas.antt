-- By ranks an edge is redundant where its ends are one node or it has a detour.
use Rattle.std.proofs.Common.{◌≡◌, ℕ, zero, suc, ◌+◌, ◌<◌, ◌≤◌, ◌==◌, Bool, true, false, List, [], ◌∷◌, ◌++◌, length, slice_get, map, replicate, Some, None, refl, sym, ap, subst, ◌∙◌, arith, ⊎_elim, inl, inr, if◌then◌else◌, slice_set, length-set}
use Rattle.std.proofs.lemmas.Bool.{cases_eq, eqb-true, eq-eqb}
use Rattle.edge_detours.proofs.DetourLemmas.{walk_join, walk_rises}
use Rattle.edge_detours.specs.Reach.{Edges, Reach, stay, go, AreWithin}
use Rattle.edge_detours.specs.Redundant.{IsStrictlyBetween, AreRedundant}
use Rattle.edge_detours.specs.inner.Detours.{HasDetour, MarksDetours}
use Rattle.edge_detours.specs.inner.Flags.{Flags, Turns, AreFlagged, IsUnderWay}
use Rattle.edge_detours.specs.inner.Ranks.{rank, AreRanks, ranked}
use Rattle.edge_detours.specs.inner.Rows.{Rows, AreRows, Walk, rest, along, IsRising, IsInside}
use Rattle.fact_rows.proofs.Members.{in_left, in_right, in_none, in_parts, from_map, in_one}
use Rattle.fact_rows.proofs.Places.{set_same, set_other, in_from_get, place_of}
use Rattle.fact_rows.specs.Marks.{IsMarked}
use Rattle.fact_rows.specs.Member.{In, here}
use Rattle.fact_rows.specs.Rows.{row}

pub join : {es : Edges} {a b c : ℕ} → Reach es a b → Reach es b c → Reach es a c
join stay s = s
join (go e r) s = go e (join r s)

pub get_map : {A B : Type 0} (f : A → B) (xs : List A) (i : ℕ) (x : A) → slice_get xs i ≡ Some x → slice_get (map f xs) i ≡ Some (f x)
get_map f [] i x h = let k : None ≡ Some x = h in cc
get_map f (y ∷ xs) zero x h = let e : y ≡ x = cc in ap (λ z. Some (f z)) e
get_map f (y ∷ xs) (suc i) x h = get_map f xs i x h

pub record FromGet {A B : Type 0} (f : A → B) (xs : List A) (i : ℕ) (y : B) : Type 0 where
  pub it : A
  pub at : slice_get xs i ≡ Some it
  pub is : y ≡ f it

pub from_get_map : {A B : Type 0} (f : A → B) (xs : List A) (i : ℕ) (y : B) → slice_get (map f xs) i ≡ Some y → FromGet f xs i y
from_get_map f [] i y h = let k : None ≡ Some y = h in cc
from_get_map f (x ∷ xs) zero y h = record { it = x; at = refl; is = cc }
from_get_map f (x ∷ xs) (suc i) y h = let r = from_get_map f xs i y h in record { it = r.it; at = r.at; is = r.is }

pub length_map : {A B : Type 0} (f : A → B) (xs : List A) → length (map f xs) ≡ length xs
length_map f [] = refl
length_map f (x ∷ xs) = ap suc (length_map f xs)

pub loops_long : (es : Edges) (flags : List Bool) → flags ≡ map (λ (e : ℕ × ℕ). e.0 == e.1) es → length flags ≡ length es
loops_long es flags e = ap length e ∙ length_map (λ (q : ℕ × ℕ). q.0 == q.1) es

-- an edge of the rows, as an edge between nodes
pub record FromRow (es : Edges) (ranks : List ℕ) (k d i : ℕ) : Type 0 where
  pub from : ℕ
  pub to : ℕ
  pub at : slice_get es i ≡ Some (from, to)
  pub from_is : rank ranks from ≡ k
  pub to_is : rank ranks to ≡ d

-- a first step that rises
pub record Leaves (rows : Rows) (k x : ℕ) : Type 0 where
  pub next : ℕ
  pub place : ℕ
  pub out : In (next, place) (row rows k)
  pub up : k < next
  pub to : Walk rows next x

pub leaves : (rows : Rows) → IsRising rows → (k x : ℕ) → Walk rows k x → k < x → Leaves rows k x
leaves rows up k x rest l = absurd (omega arith)
leaves rows up k x (along {a} {b} {c} {i} e w) l = ⊎_elim
    (λ (s : k ≡ b). let r = leaves rows up b x w (omega arith) in record { next = r.next; place = r.place; out = subst (λ z. In (r.next, r.place) (row rows z)) (sym s) r.out; up = (let u = r.up in omega arith); to = r.to })
    (λ n. record { next = b; place = i; out = e; up = (let u = up k b i e in omega arith); to = w })
    (cases_eq k b)

module _ (es : Edges) (n : ℕ) (within : AreWithin n es) (ranks : List ℕ) (ok : AreRanks es n ranks) where
  pub rank_rises : {a b : ℕ} → Reach es a b → rank ranks a ≤ rank ranks b
  rank_rises stay = omega arith
  rank_rises (go {a} {b} {c} e r) = omega (arith, ok.rises a b e, rank_rises r)

  pub end_within : {a b : ℕ} → a < n → Reach es a b → b < n
  end_within l stay = l
  end_within l (go {a} {b} {c} e r) = end_within (within a b e).1 r

  module _ (rows : Rows) (are : AreRows (ranked ranks es) rows) where
    pub from_row : (k d i : ℕ) → In (d, i) (row rows k) → FromRow es ranks k d i
    from_row k d i m =
        let r = from_get_map (λ (e : ℕ × ℕ). (rank ranks e.0, rank ranks e.1)) es i (k, d) (are.from i k d m) in
        record { from = r.it.0; to = r.it.1; at = r.at; from_is = sym (ap (λ (p : ℕ × ℕ). p.0) r.is); to_is = sym (ap (λ (p : ℕ × ℕ). p.1) r.is) }

    pub to_row : (i a c : ℕ) → slice_get es i ≡ Some (a, c) → In (rank ranks c, i) (row rows (rank ranks a))
    to_row i a c h = are.to i (rank ranks a) (rank ranks c) (get_map (λ (e : ℕ × ℕ). (rank ranks e.0, rank ranks e.1)) es i (a, c) h)

    pub rising : IsRising rows
    rising k d i m =
        let r = from_row k d i m in
        let u = ok.rises r.from r.to (in_from_get es i (r.from, r.to) r.at) in
        let f = r.from_is in let t = r.to_is in omega arith

    pub inside_rows : IsInside n rows
    inside_rows k d i m =
        let r = from_row k d i m in
        let u = within r.from r.to (in_from_get es i (r.from, r.to) r.at) in
        let l = ok.below r.to u.1 in
        let t = r.to_is in omega arith

    to_walk : {a b : ℕ} → Reach es a b → Walk rows (rank ranks a) (rank ranks b)
    to_walk stay = rest
    to_walk (go {a} {b} {c} e r) = let p = place_of e in along (to_row p.at a b p.is) (to_walk r)

    from_walk : {k d : ℕ} (x y : ℕ) → x < n → y < n → rank ranks x ≡ k → rank ranks y ≡ d → Walk rows k d → Reach es x y
    from_walk x y l m f t rest = ok.joined x y l m (f ∙ sym t)
    from_walk x y l m f t (along {a} {b} {c} {i} e w) =
        let r = from_row a b i e in
        let u = in_from_get es i (r.from, r.to) r.at in
        let v = within r.from r.to u in
        join (ok.joined x r.from l v.0 (f ∙ sym r.from_is)) (go u (from_walk r.to y v.1 m r.to_is t w))

    pub speaks : (a c : ℕ) → a < n → c < n → HasDetour rows (rank ranks a) (rank ranks c) → (b : ℕ) × IsStrictlyBetween es a b c
    speaks a c la lc h =
        let r = from_row (rank ranks a) h.first h.place h.out in
        let e = in_from_get es h.place (r.from, r.to) r.at in
        let v = within r.from r.to e in
        let far = walk_rises rising h.to in
        let t = r.to_is in
        let up = h.up in
        let further = h.further in (
          r.to,
          record {
            from = join (ok.joined a r.from la v.0 (sym r.from_is)) (go e stay);
            to = from_walk r.to c v.1 lc r.to_is refl (along h.on h.to);
            no_back = λ w. let q = rank_rises w in omega arith;
            no_return = λ w. let q = rank_rises w in omega arith;
          },
        )

    pub detour : (a b c : ℕ) → a < n → IsStrictlyBetween es a b c → HasDetour rows (rank ranks a) (rank ranks c)
    detour a b c la h =
        let lb = end_within la h.from in
        let lc = end_within lb h.to in
        let ab : rank ranks a < rank ranks b = by_cases (rank ranks a) (rank ranks b) (rank_rises h.from) (λ s. h.no_back (ok.joined b a lb la (sym s))) in
        let bc : rank ranks b < rank ranks c = by_cases (rank ranks b) (rank ranks c) (rank_rises h.to) (λ s. h.no_return (ok.joined c b lc lb (sym s))) in
        let first = leaves rows rising (rank ranks a) (rank ranks b) (to_walk h.from) ab in
        let low = walk_rises rising first.to in
        let second = leaves rows rising first.next (rank ranks c) (walk_join first.to (to_walk h.to)) (omega arith) in
        record { first = first.next; second = second.next; place = first.place; next_place = second.place; out = first.out; up = first.up; on = second.out; further = second.up; to = second.to }
      where
        by_cases : (x y : ℕ) → x ≤ y → (x ≡ y → ⊥) → x < y
        by_cases x y l f = ⊎_elim (λ e. absurd (f e)) (λ o. omega arith) (cases_eq x y)

    pub spoken : (old flags : List Bool) → old ≡ map (λ (e : ℕ × ℕ). e.0 == e.1) es → AreFlagged rows n old flags → AreRedundant es flags
    spoken old flags is u = record {
      long = u.long ∙ loops_long es old is;
      on = λ i a c at h. ⊎_elim
          (λ o.
          let f = from_get_map (λ (e : ℕ × ℕ). e.0 == e.1) es i true (subst (λ z. slice_get z i ≡ Some true) is o) in
          let e : f.it ≡ (a, c) = some_same _ _ (sym f.at ∙ at) in
          inl (eqb-true a c (sym (f.is ∙ ap (λ (q : ℕ × ℕ). q.0 == q.1) e))))
          (λ (p : (k : ℕ) × (d : ℕ) × In (d, i) (row rows k) × HasDetour rows k d).
          let r = from_row p.0 p.1 i p.2 in
          let e : (r.from, r.to) ≡ (a, c) = some_same _ _ (sym r.at ∙ at) in
          let v = within a c (in_from_get es i (a, c) at) in
          let f : p.0 ≡ rank ranks a = sym r.from_is ∙ ap (λ (q : ℕ × ℕ). rank ranks q.0) e in
          let g : p.1 ≡ rank ranks c = sym r.to_is ∙ ap (λ (q : ℕ × ℕ). rank ranks q.1) e in
          inr (speaks a c v.0 v.1 (subst (λ z. HasDetour rows z (rank ranks c)) f (subst (HasDetour rows p.0) g p.3))))
          (u.only i h);
      off = λ i a c at s. ⊎_elim
          (λ (e : a ≡ c). u.kept i (subst (λ z. slice_get z i ≡ Some true) (sym is) (get_map (λ (q : ℕ × ℕ). q.0 == q.1) es i (a, c) at ∙ ap Some (eq-eqb a c e))))
          (λ (p : (b : ℕ) × IsStrictlyBetween es a b c). let v = within a c (in_from_get es i (a, c) at) in u.each (rank ranks a) (rank ranks c) i (ok.below a v.0) (to_row i a c at) (detour a p.0 c v.0 p.1))
          s;
    }
      where
        some_same : (x y : ℕ × ℕ) → Some x ≡ Some y → x ≡ y
        some_same x y h = cc

-- what the marks of a turn give
pub turns : {rows : Rows} {k : ℕ} {marks seen : List ℕ} {old new : List Bool} → MarksDetours rows k marks seen → Flags (row rows k) k seen old new → Turns rows k marks seen old new
turns {rows} {k} m f = record {
  long = f.long;
  kept = f.kept;
  others = m.others;
  each = λ c i e d. f.each c i e (m.each c i e d);
  only = λ i h. ⊎_elim inl (λ p. inr (p.0, p.1, m.sound p.0 p.2)) (f.only i h);
}

pub begins : (rows : Rows) (n : ℕ) (marks : List ℕ) (old : List Bool) → marks ≡ replicate n n → IsUnderWay rows n 0 marks old old
begins rows n marks old e = record {
  marks_long = ap length e ∙ length_of n n;
  fresh = λ s x h. inr (in_copies n n s x (subst (λ z. IsMarked z s x) e h));
  flagged = record { long = refl; kept = λ i h. h; each = λ k c i l. absurd (omega arith); only = λ i h. inl h };
}
  where
    length_of : (m v : ℕ) → length (replicate m v) ≡ m
    length_of zero v = refl
    length_of (suc m) v = ap suc (length_of m v)

    in_copies : (m v s x : ℕ) → slice_get (replicate m v) x ≡ Some s → s ≡ v
    in_copies zero v s x h = let k : None ≡ Some s = h in cc
    in_copies (suc m) v s zero h = cc
    in_copies (suc m) v s (suc x) h = in_copies m v s x h

pub clear : {rows : Rows} {n k : ℕ} {marks : List ℕ} {old flags : List Bool} → k < n → IsUnderWay rows n k marks old flags → (x : ℕ) → IsMarked marks k x → ⊥
clear {rows} {n} {k} l u x h = ⊎_elim (λ (e : k < k). omega arith) (λ (e : k ≡ n). omega arith) (u.fresh k x h)

pub next : {rows : Rows} {n k : ℕ} {marks seen : List ℕ} {old flags new : List Bool} → k < n → IsUnderWay rows n k marks old flags → length seen ≡ length marks → Turns rows k marks seen flags new → IsUnderWay rows n (k + 1) seen old new
next {rows} {n} {k} {marks} {seen} {old} {flags} {new} l u s t = record {
  marks_long = s ∙ u.marks_long;
  fresh = λ m x h. ⊎_elim (λ (e : m ≡ k). inl (omega arith)) (λ o. ⊎_elim (λ (b : m < k). inl (omega arith)) inr (u.fresh m x o)) (t.others m x h);
  flagged = record {
    long = t.long ∙ u.flagged.long;
    kept = λ i h. t.kept i (u.flagged.kept i h);
    each = λ j c i low e d. ⊎_elim
        (λ (is : j ≡ k). t.each c i (subst (λ z. In (c, i) (row rows z)) is e) (subst (λ z. HasDetour rows z c) is d))
        (λ n. t.kept i (u.flagged.each j c i (omega arith) e d))
        (cases_eq j k);
    only = λ i h. ⊎_elim (λ o. u.flagged.only i o) (λ (p : (c : ℕ) × In (c, i) (row rows k) × HasDetour rows k c). inr (k, p.0, p.1, p.2)) (t.only i h);
  };
}

pub flags_none : (k : ℕ) (marks : List ℕ) (flags : List Bool) → Flags [] k marks flags flags
flags_none k marks flags = record { long = refl; kept = λ i h. h; each = λ c i e. in_none e; only = λ i h. inl h }

pub flags_more : (ts : List (ℕ × ℕ)) (c i k : ℕ) (marks : List ℕ) (old flags new : List Bool) (on : Bool) → i < length old → Flags ts k marks old flags → (on ≡ true → IsMarked marks k c) → (IsMarked marks k c → on ≡ true)
    → new ≡ (if on then slice_set flags i true else flags) → Flags (ts ++ (c, i) ∷ []) k marks old new
flags_more ts c i k marks old flags new true l f g h e =
    let li : i < length flags = let n = f.long in omega arith in
    let keep : (j : ℕ) → slice_get flags j ≡ Some true → slice_get new j ≡ Some true = λ j s. subst (λ z. slice_get z j ≡ Some true) (sym e) (⊎_elim
    (λ (q : j ≡ i). subst (λ z. slice_get (slice_set flags i true) z ≡ Some true) (sym q) (set_same flags i true li))
    (λ n. set_other flags i j true n ∙ s)
    (cases_eq j i)) in
    let at : slice_get new i ≡ Some true = subst (λ z. slice_get z i ≡ Some true) (sym e) (set_same flags i true li) in
    record {
      long = ap length e ∙ length-set flags i true ∙ f.long;
      kept = λ j s. keep j (f.kept j s);
      each = λ d j m s. ⊎_elim (λ o. keep j (f.each d j o s)) (λ o. let q : j ≡ i = ap (λ (p : ℕ × ℕ). p.1) (in_one o) in subst (λ z. slice_get new z ≡ Some true) (sym q) at) (in_parts ts m);
      only = λ j s. ⊎_elim
          (λ (q : j ≡ i). inr (c, subst (λ z. In {A = ℕ × ℕ} (c, z) (ts ++ (c, i) ∷ [])) (sym q) (in_right ts here), g refl))
          (λ n. ⊎_elim inl (λ (p : (d : ℕ) × In (d, j) ts × IsMarked marks k d). inr (p.0, in_left ((c, i) ∷ []) p.1, p.2)) (f.only j (sym (set_other flags i j true n) ∙ subst (λ z. slice_get z j ≡ Some true) e s)))
          (cases_eq j i);
    }
flags_more ts c i k marks old flags new false l f g h e = record {
  long = ap length e ∙ f.long;
  kept = λ j s. subst (λ z. slice_get z j ≡ Some true) (sym e) (f.kept j s);
  each = λ d j m s. subst (λ z. slice_get z j ≡ Some true) (sym e) (⊎_elim (λ o. f.each d j o s)
      (λ o. let q : d ≡ c = ap (λ (p : ℕ × ℕ). p.0) (in_one o) in let z : false ≡ true = h (subst (IsMarked marks k) q s) in cc) (in_parts ts m));
  only = λ j s. ⊎_elim inl (λ (p : (d : ℕ) × In (d, j) ts × IsMarked marks k d). inr (p.0, in_left ((c, i) ∷ []) p.1, p.2)) (f.only j (subst (λ z. slice_get z j ≡ Some true) e s));
}

pub within_ranked : (es : Edges) (n : ℕ) (ranks : List ℕ) → AreWithin n es → AreRanks es n ranks → AreWithin n (ranked ranks es)
within_ranked es n ranks w ok = λ a c i.
    let f = from_map (λ (e : ℕ × ℕ). (rank ranks e.0, rank ranks e.1)) es i in
    let v = w f.it.0 f.it.1 f.inside in
    let x : a ≡ rank ranks f.it.0 = ap (λ (p : ℕ × ℕ). p.0) f.is in
    let y : c ≡ rank ranks f.it.1 = ap (λ (p : ℕ × ℕ). p.1) f.is in
    let l = ok.below f.it.0 v.0 in let m = ok.below f.it.1 v.1 in (omega arith, omega arith)
