-- Without redundant edges everything is reached that was: by induction on how many nodes lie between the ends.
use Rattle.std.proofs.Common.{◌≡◌, ℕ, zero, suc, ◌+◌, ◌<◌, ◌≤◌, Bool, true, false, cond, ◌&&◌, ◌||◌, ◌==◌, [], ◌∷◌, refl, sym, ap, subst, ◌∙◌, arith, true≢false, ◌⊎◌, inl, inr}
use Rattle.std.proofs.lemmas.Bool.{cases_eq, eqb-true, eq-eqb}
use Rattle.edge_detours.proofs.RankLemmas.{join}
use Rattle.edge_detours.specs.Laws.{ReachIsKept}
use Rattle.edge_detours.specs.Reach.{Edges, Reach, stay, go, AreWithin}
use Rattle.edge_detours.specs.Redundant.{IsStrictlyBetween, IsRedundant}
use Rattle.fact_rows.proofs.Members.{in_none}
use Rattle.fact_rows.specs.Member.{In, here, there}

both : (x y : Bool) → (x && y) ≡ true → (x ≡ true) × (y ≡ true)
both true y h = (refl, h)
both false y h = absurd (true≢false (sym h))

either : (x y : Bool) → (x || y) ≡ true → (x ≡ true) ⊎ (y ≡ true)
either true y h = inl refl
either false y h = inr h

or_left : (x y : Bool) → x ≡ true → (x || y) ≡ true
or_left true y h = refl
or_left false y h = absurd (true≢false (sym h))

or_right : (x y : Bool) → y ≡ true → (x || y) ≡ true
or_right true y h = refl
or_right false y h = h

and_true : (x y : Bool) → x ≡ true → y ≡ true → (x && y) ≡ true
and_true true y h k = k
and_true false y h k = absurd (true≢false (sym h))

-- reach as a test
reaches : Edges → ℕ → ℕ → Bool
reaches [] a b = a == b
reaches (e ∷ es) a b = reaches es a b || (reaches es a e.0 && reaches es e.1 b)

later : {es : Edges} {e : ℕ × ℕ} {a b : ℕ} → Reach es a b → Reach (e ∷ es) a b
later stay = stay
later (go e r) = go (there e) (later r)

sound : (es : Edges) (a b : ℕ) → reaches es a b ≡ true → Reach es a b
unfolding reaches
sound [] a b h = subst (Reach [] a) (eqb-true a b h) stay
sound (e ∷ es) a b h = elim (either (reaches es a b) _ h) [
  | inl k ↦ later (sound es a b k)
  | inr k ↦ let p = both (reaches es a e.0) _ k in let x : In (e.0, e.1) (e ∷ es) = here in join (later (sound es a e.0 p.0)) (go x (later (sound es e.1 b p.1)))
]

itself : (es : Edges) (a : ℕ) → reaches es a a ≡ true
unfolding reaches
itself [] a = eq-eqb a a refl
itself (e ∷ es) a = or_left (reaches es a a) _ (itself es a)

module _ (e : ℕ × ℕ) (es : Edges) (tested : (a b : ℕ) → Reach es a b → reaches es a b ≡ true) where
  -- an edge before a walk
  front : (a b d : ℕ) → ((a, b) ≡ e) ⊎ In (a, b) es → reaches (e ∷ es) b d ≡ true → reaches (e ∷ es) a d ≡ true
  unfolding reaches
  front a b d (inl s) h =
      let p : a ≡ e.0 = ap (λ (q : ℕ × ℕ). q.0) s in
      let q : b ≡ e.1 = ap (λ (q : ℕ × ℕ). q.1) s in
      let rest : reaches es e.1 d ≡ true = elim (either (reaches es b d) _ h) [
        | inl k ↦ ap (λ x. reaches es x d) (sym q) ∙ k
        | inr k ↦ (both (reaches es b e.0) _ k).1
      ] in
      or_right (reaches es a d) _ (and_true (reaches es a e.0) _ (ap (reaches es a) (sym p) ∙ itself es a) rest)
  front a b d (inr i) h =
      let edge : Reach es a b = go i stay in
      elim (either (reaches es b d) _ h) [
        | inl k ↦ or_left (reaches es a d) _ (tested a d (join edge (sound es b d k)))
        | inr k ↦ let p = both (reaches es b e.0) _ k in or_right (reaches es a d) _ (and_true (reaches es a e.0) _ (tested a e.0 (join edge (sound es b e.0 p.0))) p.1)
      ]

  cons : {x : ℕ × ℕ} → In x (e ∷ es) → (x ≡ e) ⊎ In x es
  cons here = inl refl
  cons (there i) = inr i

  walk : {a b : ℕ} → Reach (e ∷ es) a b → reaches (e ∷ es) a b ≡ true
  walk stay = itself (e ∷ es) _
  walk (go {a} {b} {c} x r) = front a b c (cons x) (walk r)

complete : (es : Edges) (a b : ℕ) → Reach es a b → reaches es a b ≡ true
complete [] a b stay = itself [] a
complete [] a b (go x r) = in_none x
complete (e ∷ es) a b r = walk e es (complete es) r

-- how many of the numbers below n pass
number_of : (ℕ → Bool) → ℕ → ℕ
number_of p zero = 0
number_of p (suc n) = cond (p n) 1 0 + number_of p n

no_more : (p q : ℕ → Bool) (n : ℕ) → ((x : ℕ) → p x ≡ true → q x ≡ true) → number_of p n ≤ number_of q n
unfolding number_of
no_more p q zero h = omega arith
no_more p q (suc n) h = by (p n) (q n) refl refl (h n) (no_more p q n h)
  where
    by : (s t : Bool) → p n ≡ s → q n ≡ t → (p n ≡ true → q n ≡ true) → number_of p n ≤ number_of q n → cond (p n) 1 0 + number_of p n ≤ cond (q n) 1 0 + number_of q n
    by true true e f g k = rw (e, f) (omega arith)
    by false true e f g k = rw (e, f) (omega arith)
    by false false e f g k = rw (e, f) (omega arith)
    by true false e f g k = absurd (true≢false (sym (g e) ∙ f))

fewer : (p q : ℕ → Bool) (n x : ℕ) → ((x : ℕ) → p x ≡ true → q x ≡ true) → x < n → p x ≡ false → q x ≡ true → number_of p n < number_of q n
unfolding number_of
fewer p q zero x h l np qx = absurd (omega arith)
fewer p q (suc n) x h l np qx = by (cases_eq x n) (λ k. fewer p q n x h k np qx)
  where
    by : (x ≡ n) ⊎ (x ≡ n → ⊥) → (x < n → number_of p n < number_of q n) → cond (p n) 1 0 + number_of p n < cond (q n) 1 0 + number_of q n
    by (inl e) k =
        let m : number_of p n ≤ number_of q n = no_more p q n h in
        let a : p n ≡ false = ap p (sym e) ∙ np in
        let b : q n ≡ true = ap q (sym e) ∙ qx in
        rw (a, b) (omega arith)
    by (inr o) k = let m : number_of p n < number_of q n = k (omega arith) in at (p n) (q n) refl refl m (h n)
      where
        at : (s t : Bool) → p n ≡ s → q n ≡ t → number_of p n < number_of q n → (p n ≡ true → q n ≡ true) → cond (p n) 1 0 + number_of p n < cond (q n) 1 0 + number_of q n
        at true true e f g k = rw (e, f) (omega arith)
        at false true e f g k = rw (e, f) (omega arith)
        at false false e f g k = rw (e, f) (omega arith)
        at true false e f g k = absurd (true≢false (sym (k e) ∙ f))

module _ (es fs : Edges) (n : ℕ) (range : AreWithin n es) (kept : (a c : ℕ) → In (a, c) es → In (a, c) fs ⊎ IsRedundant es a c) where
  -- whether x lies between a and c, both included
  within : ℕ → ℕ → ℕ → Bool
  within a c x = reaches es a x && reaches es x c

  -- how many do
  width : ℕ → ℕ → ℕ
  width a c = number_of (within a c) n

  is_within : (a c x : ℕ) → Reach es a x → Reach es x c → within a c x ≡ true
  unfolding within
  is_within a c x r s = and_true _ _ (complete es a x r) (complete es x c s)

  from_within : (a c x : ℕ) → within a c x ≡ true → (Reach es a x) × (Reach es x c)
  unfolding within
  from_within a c x h = let p = both (reaches es a x) _ h in (sound es a x p.0, sound es x c p.1)

  -- a part of the way is no wider
  narrower : (a c b d : ℕ) → Reach es a b → Reach es d c → width b d ≤ width a c
  unfolding width
  narrower a c b d r s = no_more (within b d) (within a c) n (λ x h. let p = from_within b d x h in is_within a c x (join r p.0) (join p.1 s))

  not_within : (a c x : ℕ) → (Reach es a x → Reach es x c → ⊥) → within a c x ≡ false
  not_within a c x f = by (within a c x) refl
    where
      by : (t : Bool) → within a c x ≡ t → within a c x ≡ false
      by true e = let p = from_within a c x e in absurd (f p.0 p.1)
      by false e = e

  -- a walk whose edges all are
  walk_by : (a b : ℕ) → ((x y : ℕ) → Reach es a x → In (x, y) es → Reach es y b → Reach fs x y) → Reach es a b → Reach fs a b
  walk_by a b each stay = stay
  walk_by a b each (go {b = m} e r) = join (each a m stay e r) (walk_by m b (λ x y p q s. each x y (go e p) q s) r)

  below : (a b c : ℕ) → IsStrictlyBetween es a b c → Reach es a c → c < n → width a b < width a c
  unfolding width
  below a b c h edge l = fewer (within a b) (within a c) n c (λ x p. let q = from_within a b x p in is_within a c x q.0 (join q.1 h.to)) l (not_within a b c (λ r s. h.no_return s)) (is_within a c c edge stay)

  above : (a b c : ℕ) → IsStrictlyBetween es a b c → Reach es a c → a < n → width b c < width a c
  unfolding width
  above a b c h edge l = fewer (within b c) (within a c) n a (λ x p. let q = from_within b c x p in is_within a c x (join h.from q.0) q.1) l (not_within b c a (λ r s. h.no_back r)) (is_within a c a stay edge)

  edge_kept : (k a c : ℕ) → In (a, c) es → width a c < k → Reach fs a c
  edge_kept zero a c e l = absurd (omega arith)
  edge_kept (suc k) a c e l = by (kept a c e) (edge_kept k)
    where
      -- over a way that is less wide
      less : (b d : ℕ) → width b d < width a c → ((x y : ℕ) → In (x, y) es → width x y < k → Reach fs x y) → Reach es b d → Reach fs b d
      less b d w again r = walk_by b d (λ x y p q s. let m = narrower b d x y p s in again x y q (omega arith)) r

      by : In (a, c) fs ⊎ IsRedundant es a c → ((x y : ℕ) → In (x, y) es → width x y < k → Reach fs x y) → Reach fs a c
      by (inl f) again = go f stay
      by (inr (inl same)) again = subst (Reach fs a) same stay
      by (inr (inr m)) again =
          let b = m.0 in let h = m.1 in
          let in' = range a c e in
          let edge : Reach es a c = go e stay in
          let low : width a b < width a c = below a b c h edge in'.1 in
          let high : width b c < width a c = above a b c h edge in'.0 in
          join (less a b low again h.from) (less b c high again h.to)

  walk_kept : (a b : ℕ) → Reach es a b → Reach fs a b
  walk_kept a b r = walk_by a b (λ x y p q s. edge_kept (suc (width x y)) x y q (omega arith)) r

pub reach_is_kept : ReachIsKept
reach_is_kept es fs n range kept a b r = walk_kept es fs n range kept a b r
