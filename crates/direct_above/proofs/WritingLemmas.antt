-- What is written down, one class after the other.
use Rattle.std.proofs.Common.{◌≡◌, ℕ, zero, suc, ◌+◌, ◌<◌, Bool, true, false, List, [], ◌∷◌, ◌++◌, length, replicate, refl, sym, ap, subst, ◌∙◌, arith, ◌⊎◌, ⊎_elim, inl, inr, if◌then◌else◌}
use Rattle.std.proofs.lemmas.Bool.{cases_eq}
use Rattle.direct_above.proofs.OrderLemmas.{shorter, not_back}
use Rattle.direct_above.specs.Direct.{Rows, IsPreorder, IsDirect, AreDirect}
use Rattle.direct_above.specs.inner.Edges.{IsPicked, Writes, WritesDirect, IsUnderWay}
use Rattle.direct_above.specs.inner.Marks.{AreCandidates, IsGoing, MarksAll}
use Rattle.fact_rows.proofs.Members.{in_left, in_right, in_none, in_cons, in_parts, in_one}
use Rattle.fact_rows.specs.Marks.{IsFlagged, IsMarked}
use Rattle.fact_rows.specs.Member.{In, here, NoRepeats, none, more}
use Rattle.fact_rows.specs.Rows.{row}
use Rattle.fact_rows.proofs.MarkLemmas.{fresh_mark}
use Rattle.direct_above.proofs.OrderLemmas.{shorter, not_back}
use Rattle.fact_rows.proofs.RowLemmas.{no_repeats_push}

-- a list without repeats, without its last item
without_last : {A : Type 0} (xs : List A) {y : A} → NoRepeats (xs ++ y ∷ []) → NoRepeats xs × (In y xs → ⊥)
without_last [] r = (none, λ i. in_none i)
without_last (x ∷ xs) {y} (more m r) =
    let p = without_last xs r in
    (more (λ i. m (in_left (y ∷ []) i)) p.0, λ i. ⊎_elim (λ (e : y ≡ x). m (subst (λ z. In z (xs ++ y ∷ [])) e (in_right xs here))) p.1 (in_cons i))

module _ {classes : List Bool} {seen : List ℕ} {a : ℕ} where
  pub writes_none : (old : List (ℕ × ℕ)) → Writes classes seen a [] old old
  writes_none old = record { kept = λ c d h. h; each = λ b i. in_none i; only = λ c d h. inl h; once = λ r o n. o }

  pub writes_more : (bs : List ℕ) (b : ℕ) (on : Bool) (old mid new : List (ℕ × ℕ)) → Writes classes seen a bs old mid → (on ≡ true → IsPicked classes seen a b) → (IsPicked classes seen a b → on ≡ true) → new ≡ (if on then mid ++ (a, b) ∷ [] else mid) → Writes classes seen a (bs ++ b ∷ []) old new
  writes_more bs b true old mid new w f g e = record {
    kept = λ c d h. subst (λ z. In {A = ℕ × ℕ} (c, d) z) (sym e) (in_left ((a, b) ∷ []) (w.kept c d h));
    each = λ d i p. subst (λ z. In {A = ℕ × ℕ} (a, d) z) (sym e) (⊎_elim
        (λ q. in_left ((a, b) ∷ []) (w.each d q p))
        (λ q. subst (λ z. In {A = ℕ × ℕ} (a, z) (mid ++ (a, b) ∷ [])) (sym (in_one q)) (in_right mid here))
        (in_parts bs i));
    only = λ c d h. ⊎_elim
        (λ q. ⊎_elim inl (λ (p : (c ≡ a) × In d bs × IsPicked classes seen a d). inr (p.0, in_left (b ∷ []) p.1, p.2)) (w.only c d q))
        (λ q.
        let m : c ≡ a = ap (λ (z : ℕ × ℕ). z.0) (in_one q) in
        let n : d ≡ b = ap (λ (z : ℕ × ℕ). z.1) (in_one q) in
        inr (m, subst (λ z. In z (bs ++ b ∷ [])) (sym n) (in_right bs here), subst (IsPicked classes seen a) (sym n) (f refl)))
        (in_parts mid (subst (λ z. In {A = ℕ × ℕ} (c, d) z) e h));
    once = λ r o n.
        let p = without_last bs r in
        subst NoRepeats (sym e) (no_repeats_push (w.once p.0 o n) (λ i. ⊎_elim (λ q. n b q) (λ (q : (a ≡ a) × In b bs × IsPicked classes seen a b). p.1 q.1) (w.only a b i)));
  }
  writes_more bs b false old mid new w f g e = record {
    kept = λ c d h. subst (λ z. In {A = ℕ × ℕ} (c, d) z) (sym e) (w.kept c d h);
    each = λ d i p. ⊎_elim
        (λ q. subst (λ z. In {A = ℕ × ℕ} (a, d) z) (sym e) (w.each d q p))
        (λ q. let z : false ≡ true = g (subst (IsPicked classes seen a) (in_one q) p) in cc)
        (in_parts bs i);
    only = λ c d h. ⊎_elim inl (λ (p : (c ≡ a) × In d bs × IsPicked classes seen a d). inr (p.0, in_left (b ∷ []) p.1, p.2)) (w.only c d (subst (λ z. In {A = ℕ × ℕ} (c, d) z) e h));
    once = λ r o n. subst NoRepeats (sym e) (w.once (without_last bs r).0 o n);
  }

module _ (rows told : Rows) (o : IsPreorder rows) (classes : List Bool) (a : ℕ) (order : List (ℕ × ℕ)) (are : AreCandidates rows classes a order) where
  picked_direct : (old covers_old mid covers marks : List ℕ) → IsGoing rows a order old covers_old mid covers → MarksAll a (row told a) mid marks → (b : ℕ) → In b (row rows a) → IsPicked classes marks a b → IsDirect rows told classes a b
  picked_direct old covers_old mid covers marks g m b i p = record {
    is_class = p.is_class;
    above = i;
    other = p.other;
    untold = λ t. p.clear (m.each b t);
    none = λ x h.
        let low = shorter rows o a x h.low h.not_back in
        let high = shorter rows o x b h.high h.not_return in
        let c = are.each x (record { is_class = h.is_class; strict = record { above = h.low; shorter = low } }) in
        p.clear (m.kept b (g.done c.0 x c.1 b (record { above = h.high; shorter = high })));
  }

  direct_picked : (old covers_old mid covers marks : List ℕ) → IsGoing rows a order old covers_old mid covers → MarksAll a (row told a) mid marks → (b : ℕ) → IsDirect rows told classes a b → IsPicked classes marks a b
  direct_picked old covers_old mid covers marks g m b d = record {
    is_class = d.is_class;
    other = d.other;
    clear = λ h. ⊎_elim
        (λ q.
        let f = g.marked b q in
        let c = are.on f.key f.it f.inside in
        d.none f.it (record { is_class = c.is_class; low = c.strict.above; high = f.high.above; not_back = not_back rows o a f.it c.strict.shorter; not_return = not_back rows o f.it b f.high.shorter }))
        (λ (p : (a ≡ a) × In b (row told a)). d.untold p.1)
        (m.only a b h);
  }

  pub writes_direct : (old new : List (ℕ × ℕ)) (seen covered mid covers marks : List ℕ) → IsGoing rows a order seen covered mid covers → MarksAll a (row told a) mid marks → Writes classes marks a (row rows a) old new → WritesDirect rows told classes a old new seen marks covered covers
  writes_direct old new seen covered mid covers marks g m w = record {
    kept = w.kept;
    each = λ b d. w.each b d.above (direct_picked seen covered mid covers marks g m b d);
    only = λ c d h. ⊎_elim inl (λ (p : (c ≡ a) × In d (row rows a) × IsPicked classes marks a d). inr (p.0, picked_direct seen covered mid covers marks g m d p.1 p.2)) (w.only c d h);
    once = w.once (o.once a);
    others = λ t b h. ⊎_elim (λ q. g.others t b q) (λ (p : (t ≡ a) × In b (row told a)). inl p.0) (m.only t b h);
    covers_others = λ t b h. g.covers_others t b h;
  }

length_of : {A : Type 0} (m : ℕ) (v : A) → length (replicate m v) ≡ m
length_of zero v = refl
length_of (suc m) v = ap suc (length_of m v)

pub clear : (n k : ℕ) (marks : List ℕ) → k < n → ((t b : ℕ) → IsMarked marks t b → (t < k) ⊎ (t ≡ n)) → (b : ℕ) → IsMarked marks k b → ⊥
clear n k marks l f b h = ⊎_elim (λ (e : k < k). omega arith) (λ (e : k ≡ n). omega arith) (f k b h)

module _ {rows told : Rows} {classes declared : List Bool} {n : ℕ} where
  pub begins : (seen covered : List ℕ) → seen ≡ replicate n n → covered ≡ replicate n n → IsUnderWay rows told classes declared n 0 [] seen covered
  begins seen covered e f = record {
    long = ap length e ∙ length_of n n;
    covers_long = ap length f ∙ length_of n n;
    fresh = λ t b h. inr (fresh_mark n n b t (subst (λ z. IsMarked z t b) e h));
    covers_fresh = λ t b h. inr (fresh_mark n n b t (subst (λ z. IsMarked z t b) f h));
    on = λ a b i. in_none i;
    each = λ a b l. absurd (omega arith);
    before = λ a b i. in_none i;
    once = none;
  }

  pub next_on : (k : ℕ) (out new : List (ℕ × ℕ)) (seen marks covered covers : List ℕ) → IsFlagged declared k → length marks ≡ length seen → length covers ≡ length covered → WritesDirect rows told classes k out new seen marks covered covers → IsUnderWay rows told classes declared n k out seen covered → IsUnderWay rows told classes declared n (k + 1) new marks covers
  next_on k out new seen marks covered covers d l m w u = record {
    long = l ∙ u.long;
    covers_long = m ∙ u.covers_long;
    fresh = λ t b h. ⊎_elim (λ (e : t ≡ k). inl (omega arith)) (λ q. ⊎_elim (λ (e : t < k). inl (omega arith)) inr (u.fresh t b q)) (w.others t b h);
    covers_fresh = λ t b h. ⊎_elim (λ (e : t ≡ k). inl (omega arith)) (λ q. ⊎_elim (λ (e : t < k). inl (omega arith)) inr (u.covers_fresh t b q)) (w.covers_others t b h);
    on = λ a b i. ⊎_elim (λ q. u.on a b q) (λ (p : (a ≡ k) × IsDirect rows told classes k b). (subst (IsFlagged declared) (sym p.0) d, subst (λ z. IsDirect rows told classes z b) (sym p.0) p.1)) (w.only a b i);
    each = λ a b i s e. ⊎_elim
        (λ (q : a ≡ k). subst (λ z. In {A = ℕ × ℕ} (z, b) new) (sym q) (w.each b (subst (λ z. IsDirect rows told classes z b) q e)))
        (λ q. w.kept a b (u.each a b (omega arith) s e))
        (cases_eq a k);
    before = λ a b i. ⊎_elim (λ q. let l = u.before a b q in omega arith) (λ (p : (a ≡ k) × IsDirect rows told classes k b). let e = p.0 in omega arith) (w.only a b i);
    once = w.once u.once (λ b i. let l : k < k = u.before k b i in absurd (omega arith));
  }

  pub next_off : (k : ℕ) (out : List (ℕ × ℕ)) (seen covered : List ℕ) → (IsFlagged declared k → ⊥) → IsUnderWay rows told classes declared n k out seen covered → IsUnderWay rows told classes declared n (k + 1) out seen covered
  next_off k out seen covered d u = record {
    long = u.long;
    covers_long = u.covers_long;
    fresh = λ t b h. ⊎_elim (λ (e : t < k). inl (omega arith)) inr (u.fresh t b h);
    covers_fresh = λ t b h. ⊎_elim (λ (e : t < k). inl (omega arith)) inr (u.covers_fresh t b h);
    on = u.on;
    each = λ a b i s e. ⊎_elim (λ (q : a ≡ k). absurd (d (subst (IsFlagged declared) q s))) (λ q. u.each a b (omega arith) s e) (cases_eq a k);
    before = λ a b i. let l = u.before a b i in omega arith;
    once = u.once;
  }

  pub done : (out : List (ℕ × ℕ)) (seen covered : List ℕ) → ((a : ℕ) → IsFlagged declared a → a < n) → IsUnderWay rows told classes declared n n out seen covered → AreDirect rows told classes declared out
  done out seen covered l u = record { on = u.on; each = λ a b s d. u.each a b (l a s) s d; once = u.once }
