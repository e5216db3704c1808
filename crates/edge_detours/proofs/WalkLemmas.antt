-- Plain walks mark what is reached, and four of them tell what is strictly between.
use Rattle.std.proofs.Common.{◌≡◌, ℕ, zero, suc, ◌≤◌, Bool, true, List, [], ◌∷◌, ◌++◌, length, slice_get, replicate, Some, None, refl, sym, ap, subst, ◌∙◌, arith, ◌⊎◌, ⊎_elim, inl, inr, length-append}
use Rattle.edge_detours.proofs.DetourLemmas.{walk_on}
use Rattle.edge_detours.proofs.RankLemmas.{get_map}
use Rattle.edge_detours.proofs.RootLemmas.{to_reach, to_back}
use Rattle.edge_detours.specs.Reach.{Edges, Reach, stay, go, AreWithin}
use Rattle.edge_detours.specs.Redundant.{IsStrictlyBetween, IsRedundant, AreRedundant}
use Rattle.edge_detours.specs.inner.Detours.{Pushes}
use Rattle.edge_detours.specs.inner.Rows.{Rows, AreRows, Walk, rest, along, IsInside, swapped}
use Rattle.edge_detours.specs.inner.Walks.{AreReached, IsWalking, IsApart, HasBetween, AreDone}
use Rattle.fact_rows.proofs.Members.{in_left, in_right, in_none, in_parts, in_one}
use Rattle.fact_rows.proofs.Places.{get_inside, in_from_get, place_of, get_push, get_push_kept, get_push_last}
use Rattle.fact_rows.specs.Marks.{IsMarked}
use Rattle.fact_rows.specs.Member.{In, here}
use Rattle.fact_rows.specs.Rows.{row}

not_one : (k : ℕ) → k ≡ 0 → Some k ≡ Some 1 → ⊥
not_one k e h = let f : k ≡ 1 = cc in omega arith

pub zero_marks : (n x : ℕ) (marks : List ℕ) → marks ≡ replicate n 0 → IsMarked marks 1 x → ⊥
zero_marks n x marks e h = at n x (subst (λ z. slice_get z x ≡ Some 1) e h)
  where
    at : (m y : ℕ) → slice_get {X = ℕ} (replicate m 0) y ≡ Some 1 → ⊥
    at zero y g = cc
    at (suc m) zero g = not_one 0 refl g
    at (suc m) (suc y) g = at m y g

pub walking_begins : (rows : Rows) (a high : ℕ) (old new after : List ℕ) → ((x : ℕ) → IsMarked old 1 x → ⊥) → a ≤ high → Pushes ((a, 0) ∷ []) 0 high 1 old new [] after → IsWalking rows a high new after
walking_begins rows a high old new after clear l p = record {
  sound = λ x h. ⊎_elim (λ o. absurd (clear x o)) (λ (e : (1 ≡ 1) × In x p.added). let f = p.from x e.1 in let s : x ≡ a = ap (λ (q : ℕ × ℕ). q.0) (in_one f.1) in subst (Walk rows a) (sym s) rest) (p.only 1 x h);
  start = p.each a 0 here (omega arith) l;
  waits = λ x i. p.marked x (subst (In x) p.stack i);
  closed = λ x h. ⊎_elim (λ o. absurd (clear x o)) (λ (e : (1 ≡ 1) × In x p.added). inl (subst (In x) (sym p.stack) e.1)) (p.only 1 x h);
}

pub walking_next : (rows : Rows) (a high z : ℕ) (mid new before after : List ℕ) → IsWalking rows a high mid (before ++ z ∷ []) → Pushes (row rows z) 0 high 1 mid new before after → IsWalking rows a high new after
walking_next rows a high z mid new before after g p = record {
  sound = λ x h. ⊎_elim (λ o. g.sound x o) (λ (e : (1 ≡ 1) × In x p.added). let f = p.from x e.1 in walk_on (g.sound z (g.waits z (in_right before here))) f.1) (p.only 1 x h);
  start = p.kept a g.start;
  waits = λ x j. ⊎_elim (λ o. p.kept x (g.waits x (in_left (z ∷ []) o))) (λ o. p.marked x o) (in_parts before (subst (In x) p.stack j));
  closed = λ x h. ⊎_elim
      (λ o. ⊎_elim
      (λ w. ⊎_elim
      (λ v. inl (subst (In x) (sym p.stack) (in_left p.added v)))
      (λ v. inr (λ y j e r. p.each y j (subst (λ n. In (y, j) (row rows n)) (in_one v) e) (omega arith) r))
      (in_parts before w))
      (λ f. inr (λ y j e r. p.kept y (f y j e r)))
      (g.closed x o))
      (λ (e : (1 ≡ 1) × In x p.added). inl (subst (In x) (sym p.stack) (in_right before e.1)))
      (p.only 1 x h);
}

pub walked : (rows : Rows) (a high : ℕ) (marks : List ℕ) → IsInside high rows → IsWalking rows a high marks [] → AreReached rows a marks
walked rows a high marks in' g = record { on = g.sound; each = λ x w. to a x g.start w }
  where
    to : (b x : ℕ) → IsMarked marks 1 b → Walk rows b x → IsMarked marks 1 x
    to b x h rest = h
    to b x h (along {a = p} {b = q} {c} {i} e w) = to q x (⊎_elim (λ v. in_none v) (λ f. f q i e (let l = in' p q i e in omega arith)) (g.closed p h)) w

module _ (es : Edges) (rows back : Rows) (r : AreRows es rows) (s : AreRows (swapped es) back) where
  from_reach : {a b : ℕ} → Reach es a b → Walk rows a b
  from_reach stay = rest
  from_reach (go {a} {b} {c} e w) = let p = place_of e in along (r.to p.at a b p.is) (from_reach w)

  from_back : {a b : ℕ} → Reach es a b → Walk back b a
  from_back stay = rest
  from_back (go {a} {b} {c} e w) = let p = place_of e in walk_on (from_back w) (s.to p.at b a (get_map (λ (q : ℕ × ℕ). (q.1, q.0)) es p.at (a, b) p.is))

  pub apart_between : (a c : ℕ) → HasBetween rows back a c → (b : ℕ) × IsStrictlyBetween es a b c
  apart_between a c h = (h.it, record { from = to_reach r h.from; to = to_back s h.to; no_back = λ w. h.no_back (from_back w); no_return = λ w. h.no_return (from_reach w) })

  pub between_apart : (a c b : ℕ) → IsStrictlyBetween es a b c → HasBetween rows back a c
  between_apart a c b h = record { it = b; from = from_reach h.from; to = from_back h.to; no_back = λ w. h.no_back (to_back s w); no_return = λ w. h.no_return (to_reach r w) }

  pub done_more : (done : Edges) (flags : List Bool) (a c : ℕ) (on : Bool) → AreDone es done flags → (on ≡ true → (a ≡ c) ⊎ HasBetween rows back a c) → ((a ≡ c) ⊎ HasBetween rows back a c → on ≡ true) → AreDone es (done ++ (a, c) ∷ []) (flags ++ on ∷ [])
  done_more done flags a c on d f g = record {
    long = omega (arith, d.long, length-append done ((a, c) ∷ []), length-append flags (on ∷ []));
    on = λ i x y at h. ⊎_elim
        (λ o. ⊎_elim (λ u. d.on i x y o u) (λ (p : (i ≡ length flags) × (true ≡ on)). absurd (let l = get_inside done i (x, y) o in let m = d.long in let e = p.0 in omega arith)) (get_push flags on true i h))
        (λ (p : (i ≡ length done) × ((x, y) ≡ (a, c))).
        ⊎_elim
        (λ u. absurd (let l = get_inside flags i true u in let m = d.long in let e = p.0 in omega arith))
        (λ (q : (i ≡ length flags) × (true ≡ on)). subst (λ (z : ℕ × ℕ). IsRedundant es z.0 z.1) (sym p.1) (⊎_elim inl (λ b. inr (apart_between a c b)) (f (sym q.1))))
        (get_push flags on true i h))
        (get_push done (a, c) (x, y) i at);
    off = λ i x y at h. ⊎_elim
        (λ o. get_push_kept flags on true i (d.off i x y o h))
        (λ (p : (i ≡ length done) × ((x, y) ≡ (a, c))).
        let k : IsRedundant es a c = subst (λ (z : ℕ × ℕ). IsRedundant es z.0 z.1) p.1 h in
        let t : on ≡ true = g (⊎_elim inl (λ (b : (b : ℕ) × IsStrictlyBetween es a b c). inr (between_apart a c b.0 b.1)) k) in
        let e : i ≡ length flags = p.0 ∙ sym d.long in
        subst (λ z. slice_get (flags ++ on ∷ []) z ≡ Some true) (sym e) (get_push_last flags on ∙ ap Some t))
        (get_push done (a, c) (x, y) i at);
  }

pub done_none : (es : Edges) → AreDone es [] []
done_none es = record { long = refl; on = λ i a c at h. let k : None ≡ Some (a, c) = at in cc; off = λ i a c at h. let k : None ≡ Some (a, c) = at in cc }

pub done_all : (es : Edges) (flags : List Bool) → AreDone es es flags → AreRedundant es flags
done_all es flags d = record { long = d.long; on = d.on; off = d.off }

pub rows_inside : (es : Edges) (n : ℕ) (rows : Rows) → AreWithin n es → AreRows es rows → IsInside n rows
rows_inside es n rows w r = λ a c i m. (w a c (in_from_get es i (a, c) (r.from i a c m))).1

pub apart_has : {rows back : Rows} {a c : ℕ} {froms tos backs returns : List ℕ} → AreReached rows a froms → AreReached back c tos → AreReached back a backs → AreReached rows c returns → (b : ℕ) → IsApart froms tos backs returns b → HasBetween rows back a c
apart_has f t k r b h = record { it = b; from = f.on b h.from; to = t.on b h.to; no_back = λ w. h.no_back (k.each b w); no_return = λ w. h.no_return (r.each b w) }

pub has_apart : {rows back : Rows} {a c : ℕ} {froms tos backs returns : List ℕ} → AreReached rows a froms → AreReached back c tos → AreReached back a backs → AreReached rows c returns → (h : HasBetween rows back a c) → IsApart froms tos backs returns h.it
has_apart f t k r h = record { from = f.each h.it h.from; to = t.each h.it h.to; no_back = λ w. h.no_back (k.on h.it w); no_return = λ w. h.no_return (r.on h.it w) }
